-- The line that names a refusal. Its clause of demand 1.
use Rattle.model.specs.Calls.RefusalLine.{call}
use Rattle.model.specs.Demand1.{Clause}
use Rattle.model.proofs.Call.{clause}
use Rattle.model.proofs.Rows.{decided_none}

pub demand1 : Clause call (λ number. Unit {0})
unfolding call
demand1 = clause call decided_none
