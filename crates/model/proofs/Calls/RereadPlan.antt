-- The weights of a plan written and read back. Its clauses of demand 1 and of demand 2: reading what is written does the same.
use Prim.Native.Nat.{ℕ}
use mathlib.Core.Path.{◌≡◌, sym, ap, ◌∙◌}
use mathlib.Core.List.{List}
use lib.ListN.{length}
use Rattle.model.specs.Game.{game_of}
use Rattle.model.specs.Plan.{plan_moves, plan_weights, weight_bit}
use Rattle.model.specs.PlanChecks.{files}
use Rattle.model.specs.Writing.{plan_fields_of, plan_bytes}
use Rattle.model.specs.Rules.{GoodFiles, PlanFieldsFit}
use Rattle.model.specs.Rows.{of}
use Rattle.model.specs.Checks.{pair_rows}
use Rattle.model.specs.Calls.PlanFields as PlanFields
use Rattle.model.specs.Calls.WritePlan as WritePlan
use Rattle.model.specs.Calls.RereadPlan.{PlanOf, files_of, rows, call, reread_plan_of}
use Rattle.model.specs.Demand1.{Clause}
use Rattle.model.proofs.Rows.{Decided, Any, decided_of, decided_append, decided_known}
use Rattle.model.proofs.Checks.{pair_decided}
use Rattle.model.proofs.Call.{clause, same_good_run}
use Rattle.model.proofs.Bits.{length_fields}
use Rattle.model.proofs.Rules.{plan_fields_fit_iff}
use Rattle.model.proofs.PlanTrips.{plan_fields_trip}
use Rattle.model.proofs.Calls.WritePlan.{fit_decided}

-- 17, then 1 to 16 of what is written
pub reread_decided : Decided Any rows (λ t. PlanFieldsFit t.fields × GoodFiles (files_of t))
unfolding rows
reread_decided =
    decided_append (of (λ t. t.fields) WritePlan.rows) (of files_of pair_rows) (decided_of (λ (t : PlanOf). t.fields) WritePlan.rows fit_decided)
    (decided_known (decided_of files_of pair_rows pair_decided))

pub demand1 : Clause call (λ t. PlanFieldsFit t.fields × GoodFiles (files_of t))
unfolding call
demand1 = clause call reread_decided

pub demand2 : (game : List ℕ) (d1 d2 : ℕ) (w out : List ℕ) → PlanFieldsFit (plan_fields_of d1 d2 w) → GoodFiles (files game (plan_bytes d1 d2 w)) → PlanFields.plan_fields_of game (plan_bytes d1 d2 w) out ≡ reread_plan_of game d1 d2 w out
unfolding call PlanFields.call plan_weights
demand2 game d1 d2 w out fit good =
    let g = game_of game in
    let t = plan_fields_of d1 d2 w in
    let plan = plan_bytes d1 d2 w in
    let (first, second, weights) = plan_fields_trip d1 d2 w g ((plan_fields_fit_iff t).passes fit) good.1 in
    let count : plan_moves g ≡ length w = sym (length_fields plan (weight_bit 0) 12 (plan_moves g)) ∙ ap length weights in
    same_good_run PlanFields.call call pair_decided reread_decided (files game plan) (record { game = game; fields = t }) (out, tt) good (fit, good) (λ i. record { d1 = first i; d2 = second i; count = count i }) (ap (λ (l : List ℕ). (l, tt)) weights)
