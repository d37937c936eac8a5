-- What a best response reads of a loaded game's leaves, and of the other player's weights by number.
use Prim.Native.Nat.{ℕ, ◌+◌, ◌*◌, ◌≤◌, ◌<◌}
use mathlib.Core.Path.{◌≡◌, sym, ap, ◌∙◌}
use mathlib.Core.List.{List}
use native.Mathlib.Omega.{arith}
use lib.IntN.{ℤ, pos, ◌+ℤ◌, ◌*ℤ◌}
use lib.ListN.{length, set}
use mir.Syntax.{w64}
use mir.Val.{SFits}
use Rattle.algebra.specs.Arrays.{item, item_z}
use Rattle.model.specs.Limits.{count_limit, weight_limit}
use Rattle.model.specs.Game.{Game, Player, other}
use Rattle.model.specs.Sequences.{own_sequence_of, sequence_count}
use Rattle.model.specs.Plan.{RealizationPlan, weight_at}
use Rattle.model.specs.Table.{own_number}
use Rattle.model.specs.Earnings.{leaf_term}
use Rattle.model.proofs.Numbers.{own_number_below}
use Rattle.model.proofs.Table.{ByNumber}
use Rattle.loaded.specs.Sections.{leaf_section, chance_section, payoff_section}
use Rattle.loaded.specs.Leaves.{leaves_of, leaf_of}
use Rattle.loaded.specs.Loaded.{Loaded}
use Rattle.loaded.specs.Weights.{plan_by_number, Weights}
use Rattle.loaded.specs.declared.Counts.{Counts}
use Rattle.loaded.proofs.Weights.{weight_at_lem}
use Rattle.loaded.proofs.Gathered.{all_few}
use Rattle.loaded.proofs.LeafSums.{leaf_in}
use Rattle.loaded.proofs.Views.{leaves_counted}
use Rattle.responses.specs.Worths.{HoldsZ, leaves_at, SumsHeld}
use Rattle.responses.proofs.LeafLaws.{leaf_sum_of, sum_here, sum_elsewhere, sum_all, sum_fits, holds_changed}

-- a plan that is given by number has its weights by number
plan_by_number_lem : (g : Game) (p : Player) (f : ℕ → ℕ) → ByNumber g p (plan_by_number g p f) f
unfolding own_number
plan_by_number_lem g p f n l = sym (weight_at_lem g p f (own_sequence_of g p n))

module _ {g : Game} {c : Counts} {numbers : List ℕ} {payoffs : List ℤ} (L : Loaded g c numbers payoffs) where
  -- how many leaves there are
  pub few_leaves : c.leaves ≤ count_limit
  few_leaves = omega (arith, leaves_counted g L.in_numbers.counts_are, all_few g, L.in_numbers.limits.nodes)

  -- Leaf k.
  module _ {k : ℕ} (l : k < c.leaves) where
    is_leaf_lem : k < length (leaves_of g)
    is_leaf_lem = omega (arith, leaves_counted g L.in_numbers.counts_are)

    -- a player's sequence to it
    pub leaf_room : (p : Player) → leaf_section p + k < length numbers
    leaf_room p = omega (arith, is_leaf_lem, (L.in_numbers.leaves p).long)

    leaf_at_lem : (p : Player) → item numbers (leaf_section p + k) ≡ own_number g p (leaf_of g k)
    leaf_at_lem p = (L.in_numbers.leaves p).at 0 k is_leaf_lem

    leaf_below : (p : Player) → own_number g p (leaf_of g k) < sequence_count g p
    leaf_below p = own_number_below g L.in_numbers.rules p (leaf_of g k) (leaf_in g k is_leaf_lem)

    -- its chance weight
    pub chance_room : chance_section + k < length numbers
    chance_room = omega (arith, is_leaf_lem, L.in_numbers.chances.long)

    pub chance_at : item numbers (chance_section + k) ≡ g.weight (leaf_of g k)
    chance_at = L.in_numbers.chances.at 0 k is_leaf_lem

    -- a player's payoff there
    pub payoff_room : (p : Player) → payoff_section p + k < length payoffs
    payoff_room p = omega (arith, is_leaf_lem, (L.in_payoffs p).long)

    pub payoff_at_lem : (p : Player) → item_z payoffs (payoff_section p + k) ≡ g.payoff p (leaf_of g k)
    payoff_at_lem p = (L.in_payoffs p).at (pos 0) k is_leaf_lem

    -- the weight of a player's sequence to it
    pub weight_room : (p : Player) {y : List ℕ} → Weights g p y → item numbers (leaf_section p + k) < length y
    weight_room p W = omega (arith, leaf_at_lem p, leaf_below p, W.long)

    pub weight_is : (p : Player) (y : List ℕ) → item y (item numbers (leaf_section p + k)) ≡ weight_at g (plan_by_number g p (item y)) p (leaf_of g k)
    unfolding weight_at
    weight_is p y = ap (item y) (leaf_at_lem p) ∙ plan_by_number_lem g p (item y) (leaf_of g k) (leaf_in g k is_leaf_lem)

  -- Player p against the other's weights y.
  module _ (p : Player) {y : List ℕ} (W : Weights g (other p) y) where
    abbrev plan : RealizationPlan
    plan = plan_by_number g (other p) (item y)

    -- they are within the limit
    small : (n : ℕ) → n < g.nodes → weight_at g plan (other p) n ≤ weight_limit
    unfolding weight_at
    small n l = rw (← plan_by_number_lem g (other p) (item y) n l) (W.small (own_number g (other p) n) (own_number_below g L.in_numbers.rules (other p) n l))

    -- what a leaf counts
    pub term_is : {k opponent from : ℕ} {r : ℤ} → k < c.leaves → r ≡ pos (item numbers (chance_section + k) * item y (item numbers (opponent + k))) *ℤ item_z payoffs (from + k) → opponent ≡ leaf_section (other p) → from ≡ payoff_section p → r ≡ leaf_term g p plan (leaf_of g k)
    unfolding leaf_term
    term_is l e o f = e ∙ rw (o, f, chance_at l, weight_is l (other p) y, payoff_at_lem l p)

    -- Leaf k, whose own sequence is s.
    module _ {k s : ℕ} (l : k < c.leaves) (e : s ≡ item numbers (leaf_section p + k)) where
      own_number_lem : s ≡ own_number g p (leaf_of g k)
      own_number_lem = e ∙ leaf_at_lem l p

      pub in_range_lem : s < sequence_count g p
      in_range_lem = omega (arith, own_number_lem, leaf_below l p)

      -- A turn: the leaf is added at s.
      module _ {out : List ℤ} (held : HoldsZ (leaf_sum_of g p plan k) (sequence_count g p) out) where
        turn_sum : item_z out s +ℤ leaf_term g p plan (leaf_of g k) ≡ leaf_sum_of g p plan (k + 1) s
        turn_sum =
            ap (λ (x : ℤ). x +ℤ leaf_term g p plan (leaf_of g k)) (held.at s in_range_lem) ∙ rw own_number_lem (sym (sum_here g p plan k))

        -- the sum is in range
        pub turn_fits : SFits w64 (item_z out s +ℤ leaf_term g p plan (leaf_of g k))
        turn_fits = rw turn_sum (sum_fits g p plan L.in_numbers.rules s in_range_lem L.in_numbers.limits small (k + 1) (omega (arith, is_leaf_lem l)))

        pub turn_held : {z : ℤ} → z ≡ item_z out s +ℤ leaf_term g p plan (leaf_of g k) → HoldsZ (leaf_sum_of g p plan (k + 1)) (sequence_count g p) (set out s z)
        turn_held {z} i = holds_changed s z held in_range_lem (i ∙ turn_sum) (λ j d. sum_elsewhere g p plan k j (λ q. d (q ∙ sym own_number_lem)))

    -- all leaves are added
    pub all_held : {k : ℕ} {out : List ℤ} → k ≡ c.leaves → HoldsZ (leaf_sum_of g p plan k) (sequence_count g p) out → HoldsZ (leaves_at g p plan) (sequence_count g p) out
    all_held {k} e held = record {
      long = held.long;
      at = λ s v. held.at s v ∙ ap (λ (j : ℕ). leaf_sum_of g p plan j s) (e ∙ leaves_counted g L.in_numbers.counts_are) ∙ sum_all g p plan L.in_numbers.rules s v;
    }

    -- what the worths need of them
    pub sums_held : {out : List ℤ} → HoldsZ (leaves_at g p plan) (sequence_count g p) out → SumsHeld g p plan c numbers out
    sums_held held = record { loaded = L.in_numbers; small = small; held = held }

-- a chance weight times the weight that stands at a sequence's number
pub term_weight : {a b s chance other : ℕ} (y : List ℕ) → a ≡ chance → b ≡ item y s → s ≡ other → a * b ≡ chance * item y other
term_weight y e h i = rw (e, h, i)
