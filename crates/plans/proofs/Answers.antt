-- What a pair that was read answers: as a check, and with the buffer for its weights.
use Prim.Native.Nat.{ℕ}
use mathlib.Core.Path.{◌≡◌, sym, ap, ◌∙◌}
use mathlib.Core.List.{List}
use lib.ListN.{length}
use lib.Dec.{leb}
use Rattle.algebra.specs.Arrays.{placed, Holds}
use Rattle.model.specs.Game.{game_of, one, two}
use Rattle.model.specs.Sequences.{sequence_count}
use Rattle.model.specs.Plan.{plan_moves, plan_weights, weight_bit}
use Rattle.model.specs.PlanChecks.{files}
use Rattle.model.specs.Checks.{pair_refusal}
use Rattle.model.specs.Call.{outcome, given, refused}
use Rattle.model.specs.Calls.CheckPlan as CheckPlan
use Rattle.model.specs.Calls.PlanFields as PlanFields
use Rattle.model.proofs.Bits.{length_fields}
use Rattle.model.proofs.Checks.{pair_named}
use Rattle.std.specs.Prelude.{Ok, Err}
use Rattle.checks.specs.declared.Refusal.{Refusal}
use Rattle.checks.specs.declared.Refusal.TheVariants.{Room}
use Rattle.checks.specs.Answers.{refusal_number, checked_of}
use Rattle.checks.proofs.NoBuffer.{answer_refused, answer_given}
use Rattle.checks.proofs.Chains.{Checked, call_refuses}
use Rattle.checks.proofs.Files.{pair_refuses, pair_fine}
use Rattle.checks.proofs.OneBuffer.{one_short, one_given}
use Rattle.loaded.specs.declared.Counts.{Counts}
use Rattle.pair.specs.declared.PairHeader.{PairHeader}
use Rattle.plan.specs.Weights.{weights_of, weight_by_number, in_file_order}
use Rattle.pair.proofs.Pairs.{PairOpened, pair_counted}
use Rattle.plan.proofs.FileOrder.{file_order}
use Rattle.pair.proofs.PairDenominators.{d1_is, d2_is}

-- The check of a plan.
module _ (game plan : List ℕ) where
  -- a refusal of the pair
  pub plan_refused : {n : ℕ} → n ≡ pair_refusal game plan → ¬ (n ≡ 0) → refused n ≡ (CheckPlan.check_plan_of game plan).answer
  unfolding CheckPlan.call
  plan_refused e s = answer_refused CheckPlan.call pair_named (files game plan) (pair_refuses e s)

  -- a pair that fits
  pub plan_fits : (h : PairHeader) → PairOpened game plan h → given (record { d1 = h.denominators.d1; d2 = h.denominators.d2 }) ≡ (CheckPlan.check_plan_of game plan).answer
  unfolding CheckPlan.call
  plan_fits h o =
      rw (d1_is game plan h o, d2_is game plan h o)
      (answer_given CheckPlan.call pair_named (files game plan) (pair_fine game plan o.none))

-- as many weights as there are moves
pub weights_counted : (game plan : List ℕ) {h : PairHeader} → PairOpened game plan h → {n : ℕ} → n ≡ weights_of h.counts → n ≡ plan_moves (game_of game)
weights_counted game plan o e = e ∙ (pair_counted game plan o).all

-- All weights of a plan.
module _ (game plan weights : List ℕ) where
  -- a refusal of the pair
  pub weights_refused : {n : ℕ} → n ≡ pair_refusal game plan → ¬ (n ≡ 0) → outcome (refused n) (weights, tt) ≡ PlanFields.plan_fields_of game plan weights
  unfolding PlanFields.call
  weights_refused e s = sym (call_refuses PlanFields.call pair_named (files game plan) (weights, tt) (pair_refuses e s))

  length_weights : length (plan_weights (game_of game) plan) ≡ plan_moves (game_of game)
  unfolding plan_weights
  length_weights = length_fields plan (weight_bit 0) 12 (plan_moves (game_of game))

  -- Check 18, of a pair that fits and has n moves.
  module _ (none : pair_refusal game plan ≡ 0) {n : ℕ} (many : n ≡ plan_moves (game_of game)) {r : Checked} (made : r ≡ checked_of Room (leb n (length weights))) where
    -- no room
    pub weights_short : {d : Refusal} → r ≡ Err d → outcome (refused (refusal_number d)) (weights, tt) ≡ PlanFields.plan_fields_of game plan weights
    unfolding PlanFields.call
    weights_short f = one_short PlanFields.call pair_named (files game plan) weights (pair_fine game plan none) (many ∙ sym length_weights) made f

    -- all weights given
    pub weights_given : {u : Unit {0}} → r ≡ Ok u → (h : PairHeader) → PairOpened game plan h → {x y after : List ℕ} → Holds (weight_by_number (game_of game) plan one) (sequence_count (game_of game) one) x → Holds (weight_by_number (game_of game) plan two) (sequence_count (game_of game) two) y → after ≡ placed 0 (in_file_order h.counts x y) weights → outcome (given (record { d1 = h.denominators.d1; d2 = h.denominators.d2; count = n })) (after, tt) ≡ PlanFields.plan_fields_of game plan weights
    unfolding PlanFields.call
    weights_given f h o {x} {y} held1 held2 put =
        let order = ap (λ (c : Counts). in_file_order c x y) o.counts ∙ file_order (game_of game) plan x y held1 held2 in
        rw (d1_is game plan h o, d2_is game plan h o, many)
        (one_given PlanFields.call pair_named (files game plan) weights (pair_fine game plan none) (many ∙ sym length_weights) made f (put ∙ ap (λ (l : List ℕ). placed 0 l weights) order))
