-- Demand 3: the verdict is as demanded, and so it is in numbers.
use Rattle.model.specs.Demand3.{Demand3}
use Rattle.model.proofs.Calls.Verdict as Verdict

pub demand3 : Demand3
demand3 = record { verdict = Verdict.demand3; numbers = Verdict.demand3_numbers }
