-- Weights by the numbers of sequences are the plan's.
use Prim.Native.Nat.{ℕ, zero, suc, ◌+◌, ◌*◌, ◌≤◌, ◌<◌}
use mathlib.Core.Path.{◌≡◌, refl, sym, ap, ◌∙◌}
use mathlib.Core.Bool.{Bool, true, false}
use mathlib.Core.List.{List}
use native.Mathlib.Omega.{arith}
use lib.Dec.{T, eqb}
use Rattle.algebra.specs.Bounded.{implies}
use Rattle.algebra.specs.Arrays.{item, Holds, over}
use Rattle.algebra.proofs.Totals.{count_cong}
use Rattle.algebra.proofs.Searches.{all_to_cong}
use Rattle.model.specs.Game.{Game, Player, one, two, owns, moves_before}
use Rattle.model.specs.Sequences.{Sequence, leading, move_number, sequence_number, sequence_count}
use Rattle.model.specs.Plan.{sequence_weight, balanced, fits, pair_fits_of, weights_before, weight_place, weight_bit, plan_pair_of}
use Rattle.model.specs.Rules.{GameRules}
use Rattle.model.specs.Limits.{weight_limit}
use Rattle.model.proofs.Bits.{field_fits}
use Rattle.model.proofs.Budget.{plan_limits}
use Rattle.model.proofs.Numbers.{moves_block, number_below}
use Rattle.model.proofs.Tree.{leading_sequence}
use Rattle.checks.specs.declared.Refusal.TheVariants.{PlanUnfit}
use Rattle.checks.specs.Answers.{checked_of}
use Rattle.checks.proofs.Chains.{Checked}
use Rattle.loaded.proofs.Weights.{weight_at_lem}
use Rattle.plan.specs.Weights.{weights_from, weight_by_number}
use Rattle.loaded.specs.Weights.{plan_by_number, pair_by_number}

module _ (g : Game) (plan : List ℕ) (p : Player) where
  -- the plan that the file gives p has the file's weights by number
  pub plan_is : plan_pair_of g plan p ≡ plan_by_number g p (weight_by_number g plan p)
  unfolding plan_pair_of plan_by_number weight_by_number weights_from weight_bit weight_place move_number
  plan_is =
      let same : (h m : ℕ) → (plan_pair_of g plan p).move_weight h m ≡ weight_by_number g plan p (move_number g p (h, m)) = λ h m.
      let next : 1 + moves_before g p h + m ≡ suc (moves_before g p h + m) = omega arith in
      let place : weights_before g p + moves_before g p h + m ≡ weights_before g p + (moves_before g p h + m) = omega arith in
      rw (next, place) in
      λ i. record { denominator = (plan_pair_of g plan p).denominator; move_weight = λ h m. same h m i }

  -- so these are the weights of its sequences
  pub weight_is : (s : Sequence) → weight_by_number g plan p (sequence_number g p s) ≡ sequence_weight (plan_pair_of g plan p) s
  weight_is s = rw plan_is (sym (weight_at_lem g p (weight_by_number g plan p) s))

  -- an array that is filled with the weights from the place where p's begin
  pub by_number_from : {denominator before moves : ℕ} {x : List ℕ} (l : List ℕ) → x ≡ over (weights_from plan denominator before) (1 + moves) l → denominator ≡ (plan_pair_of g plan p).denominator → before ≡ weights_before g p → moves ≡ moves_before g p g.sets → x ≡ over (weight_by_number g plan p) (sequence_count g p) l
  unfolding weight_by_number sequence_count
  by_number_from l e d b m = e ∙ rw (d, b, m)

  -- each is a number of 12 bits, which 16 hold
  pub small_number : (n : ℕ) → weight_by_number g plan p n ≤ weight_limit
  unfolding weight_by_number weights_from
  small_number zero = (plan_limits g plan p).denominator
  small_number (suc k) = omega (arith, field_fits plan (32 + 12 * (weights_before g p + k)) 12)

-- A plan whose weights by number are an array's, and one whose weights are those that the array holds.
module _ (g : Game) (rules : GameRules g) (p : Player) (f : ℕ → ℕ) {x : List ℕ} (held : Holds f (sequence_count g p) x) where
  -- both are balanced alike at p's sets
  same_balance : (h : ℕ) → h < g.sets → T (owns g p h) → balanced g (plan_by_number g p (item x)) h ≡ balanced g (plan_by_number g p f) h
  unfolding balanced plan_by_number move_number sequence_count
  same_balance h l o =
      rw (weight_at_lem g p (item x) (leading g h), weight_at_lem g p f (leading g h), held.at _ (number_below g p (leading g h) (leading_sequence g rules p h l o)))
      (ap (λ (k : ℕ). eqb k (f (sequence_number g p (leading g h)))) (count_cong (g.set_moves h) _ _ (λ m v. held.at (1 + moves_before g p h + m) (omega (arith, moves_block g p h g.sets l o)))))

  -- so both fit, or neither
  pub same_fits : fits g p (plan_by_number g p (item x)) ≡ fits g p (plan_by_number g p f)
  unfolding fits implies
  same_fits = all_to_cong g.sets _ _ (λ h l. go (owns g p h) (λ o. same_balance h l o))
    where
      go : (b : Bool) {m n : Bool} → (T b → m ≡ n) → implies b m ≡ implies b n
      go true e = e tt
      go false e = refl

-- Check 16 of a plan file, by the arrays that its weights were put into.
module _ (g : Game) (rules : GameRules g) (plan : List ℕ) {x y : List ℕ} (held1 : Holds (weight_by_number g plan one) (sequence_count g one) x) (held2 : Holds (weight_by_number g plan two) (sequence_count g two) y) where
  -- one player's
  plan_fits : (p : Player) {l : List ℕ} → Holds (weight_by_number g plan p) (sequence_count g p) l → fits g p (plan_by_number g p (item l)) ≡ fits g p (plan_pair_of g plan p)
  plan_fits p held = same_fits g rules p (weight_by_number g plan p) held ∙ ap (fits g p) (sym (plan_is g plan p))

  -- both players'
  pub same_pair_fits : pair_fits_of g (pair_by_number g (item x) (item y)) ≡ pair_fits_of g (plan_pair_of g plan)
  unfolding pair_fits_of pair_by_number
  same_pair_fits = rw (plan_fits one held1, plan_fits two held2)

  -- its answer is the file's
  pub pair_fits : {r : Checked} → r ≡ checked_of PlanUnfit (pair_fits_of g (pair_by_number g (item x) (item y))) → r ≡ checked_of PlanUnfit (pair_fits_of g (plan_pair_of g plan))
  pair_fits e = e ∙ ap (checked_of PlanUnfit) same_pair_fits
