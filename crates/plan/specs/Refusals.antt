-- What the answer to a plan file says, and what the weights' arrays hold after it.
use Rattle.std.specs.Prelude.{ℕ, ◌≡◌, cond, ◌||◌, List, eqb, Result}
use Rattle.algebra.specs.Arrays.{over}
use Rattle.model.specs.Game.{Game, Player, one, two, game_of}
use Rattle.model.specs.Sequences.{sequence_count}
use Rattle.model.specs.Plan.{pair_fits_of, plan_pair_of}
use Rattle.model.specs.PlanChecks.{files}
use Rattle.model.specs.Rows.{refusal}
use Rattle.model.specs.Checks.{plan_rows}
use Rattle.model.specs.Call.{answer_of}
use Rattle.model.specs.Exported.{same}
use Rattle.checks.specs.declared.Refusal.{Refusal}
use Rattle.checks.specs.declared.Refusal.TheVariants.{PlanUnfit}
use Rattle.checks.specs.Answers.{checked_of, answered}
use Rattle.records.specs.declared.plan_file.Denominators.{Denominators}
use Rattle.records.specs.PlanRecords.{denominators_of}
use Rattle.plan.specs.Weights.{weight_by_number}

-- the refusal of a plan file for an accepted game, 14 to 16; 0 where it fits
abbrev pub plan_refusal : (game plan : List ℕ) → ℕ
plan_refusal game plan = refusal plan_rows (files game plan)

-- an array lent for p's weights: it is filled before check 16, and else as it was
abbrev pub weights_after : (refusal : ℕ) → (game plan : List ℕ) → Player → List ℕ → List ℕ
weights_after refusal game plan p before =
    let filled = over (weight_by_number (game_of game) plan p) (sequence_count (game_of game) p) before in
    cond (eqb refusal 0 || eqb refusal 16) filled before

-- After check 16 of a plan file for a game: the answer, and both arrays, which hold x and y before, filled with the weights.
pub record Weighed (g : Game) (plan : List ℕ) (r : Result (Unit {0}) Refusal) (x x' y y' : List ℕ) : Type 0 where
  pub answer : r ≡ checked_of PlanUnfit (pair_fits_of g (plan_pair_of g plan))
  pub first : x' ≡ over (weight_by_number g plan one) (sequence_count g one) x
  pub second : y' ≡ over (weight_by_number g plan two) (sequence_count g two) y

-- After checks 14 to 16 of a plan file for a game file.
pub record PlanChecked (game plan : List ℕ) (r : Result Denominators Refusal) (x x' y y' : List ℕ) : Type 0 where
  pub answer : answered same r ≡ answer_of (plan_refusal game plan) (denominators_of plan)
  pub first : x' ≡ weights_after (plan_refusal game plan) game plan one x
  pub second : y' ≡ weights_after (plan_refusal game plan) game plan two y
