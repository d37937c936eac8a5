-- Values and best values. Its clauses of demand 1 and of demand 2.
use Prim.Native.Nat.{ℕ}
use mathlib.Core.Path.{refl, ap}
use mathlib.Core.List.{List, []}
use Rattle.model.specs.PlanChecks.{files}
use Rattle.model.specs.Earnings.{against_base, value_base, value}
use Rattle.model.specs.BestResponse.{best_value}
use Rattle.model.specs.Rules.{GoodFiles}
use Rattle.model.specs.Call.{Outcome}
use Rattle.model.specs.Calls.Values.{PairValues, values_of, call, values_call}
use Rattle.model.specs.Demand1.{Clause}
use Rattle.model.specs.Demand2.{GivesValues}
use Rattle.model.proofs.Checks.{pair_decided}
use Rattle.model.proofs.Call.{clause}

pub demand1 : Clause call GoodFiles
unfolding call
demand1 = clause call pair_decided

pub demand2 : (game plan : List ℕ) → GivesValues game plan (values_call game plan)
unfolding call value value_base best_value against_base
demand2 game plan good =
    (values_of (files game plan), ap (λ (o : Outcome [] PairValues). o.answer) (demand1.taken (files game plan) tt good tt), record { value_one = refl; value_two = refl; best_one = refl; best_two = refl })
