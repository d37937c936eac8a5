-- A pair's values over a loaded game's leaves are the model's, and no sum over them leaves its range.
use Prim.Native.Nat.{ℕ, ◌+◌, ◌*◌, ◌≤◌, ◌<◌}
use mathlib.Core.Path.{◌≡◌, refl, ap, ◌∙◌}
use mathlib.Core.List.{List}
use native.Mathlib.Omega.{arith}
use native.Mathlib.Numerals.{add-one}
use lib.IntN.{ℤ, pos, ◌+ℤ◌, ◌*ℤ◌}
use mir.Syntax.{w64}
use mir.Val.{SFits}
use Rattle.algebra.specs.Arrays.{item, item_z}
use Rattle.algebra.specs.Bounded.{sum_to}
use Rattle.algebra.proofs.Sums.{sum_suc}
use Rattle.algebra.proofs.Tests.{true→T}
use Rattle.model.specs.Game.{Game, Player, one, two}
use Rattle.model.specs.Plan.{PlanPair}
use Rattle.model.specs.Earnings.{value_term, value_count}
use Rattle.model.specs.BestResponse.{best_count}
use Rattle.model.proofs.Budget.{budget, PlanLimits, Budget}
use Rattle.model.proofs.PlanRules.{pair_fits_iff}
use Rattle.loaded.specs.Sections.{leaf_section, chance_section, payoff_section}
use Rattle.loaded.specs.Leaves.{leaf_of}
use Rattle.loaded.specs.Loaded.{Loaded}
use Rattle.loaded.specs.Weights.{plan_by_number, pair_by_number}
use Rattle.loaded.specs.declared.Counts.{Counts}
use Rattle.loaded.proofs.LeafSums.{leaves_sum, leaves_prefix}
use Rattle.loaded.proofs.Views.{leaves_counted}
use Rattle.responses.proofs.SequencesAt.{some_sequence}
use Rattle.responses.proofs.LeafReadings.{chance_at, payoff_at_lem, weight_is}
use Rattle.form.specs.Values.{PairWeights, values_of}

-- weights that stand at a leaf's own sequences
pub pair_weight : {w a b chance u v s t : ℕ} (x y : List ℕ) → w ≡ chance → a ≡ item x u → u ≡ s → b ≡ item y v → v ≡ t → {r : ℕ} → r ≡ w * a * b → r ≡ chance * item x s * item y t
pair_weight x y e f i h j q = q ∙ rw (e, f, h, i, j)

module _ {g : Game} {c : Counts} {numbers : List ℕ} {payoffs : List ℤ} (L : Loaded g c numbers payoffs) {x y : List ℕ} (W : PairWeights g x y) where
  abbrev pair : PlanPair
  pair = pair_by_number g (item x) (item y)

  -- denominators are within the limit of weights
  pair_limits : (p : Player) → PlanLimits (pair p)
  unfolding pair_by_number plan_by_number
  pair_limits one = record { denominator = W.weights1.small 0 (some_sequence g one) }
  pair_limits two = record { denominator = W.weights2.small 0 (some_sequence g two) }

  -- so that the budget is kept
  within : Budget g pair
  within = budget g L.in_numbers.rules L.in_numbers.limits pair ((pair_fits_iff g pair).holds (true→T _ W.fit)) pair_limits

  module _ (p : Player) where
    -- what a leaf counts
    pub pair_term_is : {k from : ℕ} {r : ℤ} → k < c.leaves → r ≡ pos (item numbers (chance_section + k) * item x (item numbers (leaf_section one + k)) * item y (item numbers (leaf_section two + k))) *ℤ item_z payoffs (from + k) → from ≡ payoff_section p → r ≡ value_term g pair p (leaf_of g k)
    unfolding value_term pair_by_number
    pair_term_is l e f = e ∙ rw (f, chance_at L l, weight_is L l one x, weight_is L l two y, payoff_at_lem L l p)

    -- the first k leaves
    unfoldable pub value_to : (k : ℕ) → ℤ
    value_to k = sum_to k (λ j. value_term g pair p (leaf_of g j))

    pub value_none : pos 0 ≡ value_to 0
    unfolding value_to sum_to
    value_none = refl

    pub value_more : (k : ℕ) {sum term : ℤ} → sum ≡ value_to k → term ≡ value_term g pair p (leaf_of g k) → sum +ℤ term ≡ value_to (k + 1)
    unfolding value_to
    value_more k h e = rw (h, e, add-one, sum_suc)

    pub value_fits : (k : ℕ) → k ≤ c.leaves → SFits w64 (value_to k)
    unfolding value_to
    value_fits k l =
        let r = leaves_prefix g (value_term g pair p) k (omega (arith, leaves_counted g L.in_numbers.counts_are)) in
        rw r.2 (within.value p r.0 r.1)

    -- all of them
    pub value_all : {k : ℕ} {sum : ℤ} → k ≡ c.leaves → sum ≡ value_to k → sum ≡ value_count g pair p
    unfolding value_to value_count
    value_all e h = h ∙ ap (λ (n : ℕ). sum_to n (λ j. value_term g pair p (leaf_of g j))) (e ∙ leaves_counted g L.in_numbers.counts_are) ∙ leaves_sum g (value_term g pair p)

-- values and best values together
pub values_are : (g : Game) (x y : List ℕ) {value1 value2 best1 best2 : ℤ} → value1 ≡ value_count g (pair_by_number g (item x) (item y)) one → value2 ≡ value_count g (pair_by_number g (item x) (item y)) two → best1 ≡ best_count g one (plan_by_number g two (item y)) → best2 ≡ best_count g two (plan_by_number g one (item x)) → record { value1 = value1; value2 = value2; best1 = best1; best2 = best2 } ≡ values_of g (pair_by_number g (item x) (item y))
unfolding values_of pair_by_number
values_are g x y a b c d = λ i. record { value1 = a i; value2 = b i; best1 = c i; best2 = d i }
