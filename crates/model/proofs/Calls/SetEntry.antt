-- The entry of a set. Its clause of demand 1.
use Rattle.model.specs.Calls.SetEntry.{call}
use Rattle.model.specs.Demand1.{Clause, InGame}
use Rattle.model.proofs.Call.{clause}
use Rattle.model.proofs.Calls.Asked.{asked_decided}

pub demand1 : Clause call (InGame (λ g. g.sets))
unfolding call
demand1 = clause call (asked_decided (λ g. g.sets))
