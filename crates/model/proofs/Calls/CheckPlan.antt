-- A plan file against a game file. Its clause of demand 1.
use Rattle.model.specs.Rules.{GoodFiles}
use Rattle.model.specs.Calls.CheckPlan.{call}
use Rattle.model.specs.Demand1.{Clause}
use Rattle.model.proofs.Checks.{pair_decided}
use Rattle.model.proofs.Call.{clause}

pub demand1 : Clause call GoodFiles
unfolding call
demand1 = clause call pair_decided
