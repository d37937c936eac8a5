-- All weights of a plan read and written again. Its clauses of demand 1 and of demand 2: the writer does the same.
use Prim.Native.Nat.{ℕ}
use mathlib.Core.Path.{◌≡◌, ap}
use mathlib.Core.List.{List}
use lib.ListN.{length}
use Rattle.model.specs.Game.{game_of, one, two}
use Rattle.model.specs.Plan.{plan_pair_of, plan_weights}
use Rattle.model.specs.PlanChecks.{files}
use Rattle.model.specs.Writing.{plan_fields_of}
use Rattle.model.specs.Rules.{GoodFiles}
use Rattle.model.specs.Calls.WritePlan as WritePlan
use Rattle.model.specs.Calls.RewritePlan.{call, rewrite_plan_of}
use Rattle.model.specs.Demand1.{Clause}
use Rattle.model.specs.Demand2.{IsBytes}
use Rattle.model.proofs.Checks.{pair_decided}
use Rattle.model.proofs.Call.{clause, same_good_run}
use Rattle.model.proofs.Rules.{plan_fields_fit_iff}
use Rattle.model.proofs.PlanTrips.{plan_file_trip}
use Rattle.model.proofs.Calls.WritePlan.{fit_decided}

pub demand1 : Clause call GoodFiles
unfolding call
demand1 = clause call pair_decided

pub demand2 : (game plan out : List ℕ) → IsBytes plan → GoodFiles (files game plan) → let g = game_of game in let q = plan_pair_of g plan in WritePlan.write_plan_of (q one).denominator (q two).denominator (plan_weights g plan) out ≡ rewrite_plan_of game plan out
unfolding call WritePlan.call
demand2 game plan out small good =
    let g = game_of game in
    let q = plan_pair_of g plan in
    let t = plan_fields_of (q one).denominator (q two).denominator (plan_weights g plan) in
    let (fit, back) = plan_file_trip g plan small good.1 in
    same_good_run WritePlan.call call fit_decided pair_decided t (files game plan) (out, tt) ((plan_fields_fit_iff t).holds fit) good (ap length back) (ap (λ (l : List ℕ). (l, tt)) back)
