-- The odds of a plan that fits are its weights divided, set by set: where the plan never arrives all of a set's weights are 0.
use Prim.Native.Nat.{ℕ, ◌+◌, ◌/◌, ◌<◌}
use mathlib.Core.Path.{◌≡◌, sym, ap, ◌∙◌}
use mathlib.Core.List.{List, [], ◌++◌}
use native.Mathlib.Omega.{arith}
use native.Mathlib.Nat as NatL
use native.Mathlib.Decide.{dec_lt}
use lib.Dec.{T, ltb, ltb→lt, lt→ltb}
use Rattle.algebra.specs.Arrays.{item, Holds}
use Rattle.algebra.specs.Bounded.{total_to, list_to}
use Rattle.algebra.specs.Divisors.{gcd_to}
use Rattle.algebra.proofs.Tests.{dec, cond_yes, cond_no}
use Rattle.algebra.proofs.Totals.{count_term}
use Rattle.algebra.proofs.Lists.{join_to_cong, list_to_cong}
use Rattle.algebra.proofs.Divisors.{gcd_to_cong}
use Rattle.model.specs.Game.{Game, Player, one, two, owns, moves_before}
use Rattle.model.specs.Sequences.{leading, move_number, sequence_count}
use Rattle.model.specs.Plan.{RealizationPlan, Fits, sequence_weight, plan_pair_of}
use Rattle.model.specs.PlanOrder.{moves_in_order, in_plan_order}
use Rattle.model.specs.Sheet.{odds_at, sheet_from}
use Rattle.model.proofs.Numbers.{moves_block}
use Rattle.model.proofs.Tree.{owner}
use Rattle.loaded.specs.Weights.{plan_by_number}
use Rattle.plan.specs.Weights.{weight_by_number}
use Rattle.plan.proofs.ByNumber.{plan_is}
use Rattle.to_sheet.specs.Parts.{parts_of, parts_at, player_parts}
use Rattle.to_sheet.proofs.SetParts.{parts_own, parts_other}

-- "all zeros where the plan never arrives": there the weights are 0 already, and so are their parts
parts_are_odds : (g : Game) (x : RealizationPlan) (h m : ℕ) → total_to (g.set_moves h) (x.move_weight h) ≡ sequence_weight x (leading g h) → m < g.set_moves h → parts_of g x h m ≡ odds_at g x h m
unfolding odds_at parts_of
parts_are_odds g x h m fits v =
    let arrives = sequence_weight x (leading g h) in
    let divisor = gcd_to (g.set_moves h) (x.move_weight h) in
    elim (dec_lt 0 arrives) [
      | yes l ↦ sym (cond_yes {A = ℕ} (ltb 0 arrives) (x.move_weight h m / divisor) 0 (lt→ltb 0 arrives l))
      | no n ↦
          let none : x.move_weight h m ≡ 0 = omega (arith, count_term (g.set_moves h) (x.move_weight h) m v, fits) in
          ap (λ (k : ℕ). k / divisor) none ∙ NatL.zero-div divisor ∙ sym (cond_no {A = ℕ} (ltb 0 arrives) (x.move_weight h m / divisor) 0 (λ t. n (ltb→lt 0 arrives t)))
    ]

-- One player's weights by number.
module _ (g : Game) (plan : List ℕ) (p : Player) {x : List ℕ} (held : Holds (weight_by_number g plan p) (sequence_count g p) x) where
  -- at his sets they are the plan's
  same_weight : (h m : ℕ) → h < g.sets → T (owns g p h) → m < g.set_moves h → (plan_by_number g p (item x)).move_weight h m ≡ (plan_pair_of g plan p).move_weight h m
  unfolding plan_by_number move_number sequence_count
  same_weight h m l o v =
      held.at (1 + moves_before g p h + m) (omega (arith, moves_block g p h g.sets l o))
      ∙ ap (λ (y : RealizationPlan). y.move_weight h m) (sym (plan_is g plan p))

  -- and so are their parts
  same_parts : (h m : ℕ) → h < g.sets → T (owns g p h) → m < g.set_moves h → parts_of g (plan_by_number g p (item x)) h m ≡ parts_of g (plan_pair_of g plan p) h m
  unfolding parts_of
  same_parts h m l o v =
      λ i. same_weight h m l o v i / gcd_to_cong (g.set_moves h) ((plan_by_number g p (item x)).move_weight h) ((plan_pair_of g plan p).move_weight h) (λ k u. same_weight h k l o u) i

  module _ (F : Fits g p (plan_pair_of g plan p)) where
    -- a set of his
    set_odds : (h : ℕ) → h < g.sets → T (owns g p h) → parts_at g p x h ≡ list_to (g.set_moves h) (sheet_from g (plan_pair_of g plan) h)
    unfolding sheet_from
    set_odds h l o =
        parts_own g p x h o
        ∙ list_to_cong (g.set_moves h) _ _ (λ m v.
        same_parts h m l o v
        ∙ parts_are_odds g (plan_pair_of g plan p) h m (F h l o) v
        ∙ ap (λ (r : Player). odds_at g (plan_pair_of g plan r) h m) (sym (owner g p h o)))

    -- all of them
    player_odds : player_parts g p x ≡ moves_in_order g p (sheet_from g (plan_pair_of g plan))
    unfolding player_parts moves_in_order
    player_odds =
        let odds : ℕ → List ℕ = λ h. list_to (g.set_moves h) (sheet_from g (plan_pair_of g plan) h) in
        join_to_cong g.sets _ _ (λ h l. elim (dec (owns g p h)) [
          | yes o ↦ set_odds h l o ∙ sym (cond_yes (owns g p h) (odds h) [] o)
          | no n ↦ parts_other g p x h n ∙ sym (cond_no (owns g p h) (odds h) [] n)
        ])

-- both players' odds, one after the other
pub both_odds : (g : Game) (plan : List ℕ) {x y : List ℕ} → Holds (weight_by_number g plan one) (sequence_count g one) x → Holds (weight_by_number g plan two) (sequence_count g two) y → ((p : Player) → Fits g p (plan_pair_of g plan p)) → player_parts g one x ++ player_parts g two y ≡ in_plan_order g (sheet_from g (plan_pair_of g plan))
unfolding in_plan_order
both_odds g plan held1 held2 F = λ i. player_odds g plan one held1 (F one) i ++ player_odds g plan two held2 (F two) i
