-- Document 01, "Sequence form": values and earnings.
-- "Earnings are against the other's plan and come from the tree's leaves alone, not from the table or from worths."
use Rattle.std.specs.Prelude.{ℕ, ◌+◌, ◌*◌, ◌<◌, ◌≡◌, Bool, true, ◌&&◌, cond, List, [], ◌∷◌, T, eqb, ℤ, pos, ◌+ℤ◌, ◌-ℤ◌, ◌*ℤ◌, ◌≤ℤ◌}
use Rattle.algebra.specs.Bounded.{sum_where, join_to}
use Rattle.model.specs.Game.{Game, Player, one, two, other, owns, is_leaf}
use Rattle.model.specs.Sequences.{Move, Sequence, own_sequence_of}
use Rattle.model.specs.Plan.{RealizationPlan, PlanPair, weight_at}

-- An exact fraction: a count over a base. For accepted files every base is above 0 (Demand3, `BasesPositive`).
pub record Fraction : Type 0 where
  pub numerator : ℤ
  pub denominator : ℕ

-- as in "36 over 9"
infix 6 ◌over◌
abbrev pub ◌over◌ : ℤ → ℕ → Fraction
◌over◌ count base = record { numerator = count; denominator = base }

-- "All are compared as exact fractions": by cross-multiplication
abbrev pub AtMost : Fraction → Fraction → Type 0
AtMost a b = (pos b.denominator *ℤ a.numerator) ≤ℤ (pos a.denominator *ℤ b.numerator)

-- the two fractions are the same
abbrev pub Equal : Fraction → Fraction → Type 0
Equal a b = pos b.denominator *ℤ a.numerator ≡ pos a.denominator *ℤ b.numerator

-- the first less the second
abbrev pub minus : Fraction → Fraction → Fraction
minus a b = record {
  numerator = pos b.denominator *ℤ a.numerator -ℤ pos a.denominator *ℤ b.numerator;
  denominator = a.denominator * b.denominator;
}

-- "A pure strategy is one move for each of his sets": what it says at the other player's sets counts for nothing.
abbrev pub PureStrategy : Type 0
PureStrategy = ℕ → ℕ

-- "A mixed strategy gives each pure one a whole-number weight": a list of weights with pure strategies
abbrev pub MixedStrategy : Type 0
MixedStrategy = List (ℕ × PureStrategy)

-- "his own sequence holds only moves of the strategy": the sequence is consistent with σ
unfoldable pub consistent : PureStrategy → Sequence → Bool
consistent σ [] = true
consistent σ (x ∷ s) = eqb (σ x.0) x.1 && consistent σ s

-- the pure strategy that a list of sets with their moves gives; move 0 at any set that is not listed
unfoldable pub listed : List Move → PureStrategy
listed [] h = 0
listed (x ∷ l) h = cond (eqb x.0 h) x.1 (listed l h)

-- "the sum of the weights"
unfoldable pub total_weight : MixedStrategy → ℕ
total_weight [] = 0
total_weight (x ∷ μ) = x.0 + total_weight μ

module _ (g : Game) where
  -- σ has a move for each of p's sets
  unfoldable pub IsPure : Player → PureStrategy → Type 0
  IsPure p σ = (h : ℕ) → h < g.sets → T (owns g p h) → σ h < g.set_moves h

  -- every part of μ is a pure strategy of p's
  unfoldable pub PartsPure : Player → MixedStrategy → Type 0
  PartsPure p [] = Unit {0}
  PartsPure p (x ∷ μ) = IsPure p x.1 × PartsPure p μ

  -- "0 or more and not all 0"
  unfoldable pub IsMixed : Player → MixedStrategy → Type 0
  IsMixed p μ = PartsPure p μ × (0 < total_weight μ)

  -- p's sets, rising
  unfoldable pub sets_of : Player → List ℕ
  sets_of p = join_to g.sets (λ h. cond (owns g p h) (h ∷ []) [])

-- "divided by D0 × the other's D", whose plan is y
unfoldable pub against_base : Game → (y : RealizationPlan) → ℕ
against_base g y = g.root_weight * y.denominator

-- Player p, and the realization plan y of the other player that he earns against.
module _ (g : Game) (p : Player) (y : RealizationPlan) where
  -- chance weight × the other's plan weight × p's payoff at node n
  unfoldable pub leaf_term : ℕ → ℤ
  leaf_term n = pos (g.weight n * weight_at g y (other p) n) *ℤ g.payoff p n

  -- what a pure strategy earns, before it is divided: "over those leaves to which his own sequence holds only moves of the strategy"
  unfoldable pub pure_count : PureStrategy → ℤ
  pure_count σ = sum_where g.nodes (λ n. is_leaf g n && consistent σ (own_sequence_of g p n)) leaf_term

  -- what a pure strategy earns
  unfoldable pub pure_earnings : PureStrategy → Fraction
  pure_earnings σ = record { numerator = pure_count σ; denominator = against_base g y }

  -- "earns the sum of weight × earnings, divided by the sum of the weights"
  unfoldable pub mixed_count : MixedStrategy → ℤ
  mixed_count [] = pos 0
  mixed_count (x ∷ μ) = pos x.0 *ℤ pure_count x.1 +ℤ mixed_count μ

  -- what a mixed strategy earns
  unfoldable pub mixed_earnings : MixedStrategy → Fraction
  mixed_earnings μ = record { numerator = mixed_count μ; denominator = total_weight μ * against_base g y }

  -- what a realization plan x of p earns, before it is divided: each leaf counts with the weight of p's own sequence to it
  unfoldable pub plan_count : RealizationPlan → ℤ
  plan_count x = sum_where g.nodes (is_leaf g) (λ n. pos (weight_at g x p n) *ℤ leaf_term n)

  -- what a realization plan earns
  unfoldable pub plan_earnings : RealizationPlan → Fraction
  plan_earnings x = record { numerator = plan_count x; denominator = x.denominator * against_base g y }

-- D0 × D1 × D2
abbrev pub base_of : (d0 d1 d2 : ℕ) → ℕ
base_of d0 d1 d2 = d0 * (d1 * d2)

module _ (g : Game) (q : PlanPair) where
  -- what values and gains are counted over
  unfoldable pub value_base : ℕ
  value_base = base_of g.root_weight (q one).denominator (q two).denominator

  -- "chance weight × both plan weights × payoff" at node n
  unfoldable pub value_term : Player → ℕ → ℤ
  value_term p n = pos (g.weight n * weight_at g (q one) one n * weight_at g (q two) two n) *ℤ g.payoff p n

  -- the value's numerator
  unfoldable pub value_count : Player → ℤ
  value_count p = sum_where g.nodes (is_leaf g) (value_term p)

  -- "Value of player i: the sum over leaves .., over D0 × D1 × D2."
  unfoldable pub value : Player → Fraction
  value p = record { numerator = value_count p; denominator = value_base }

-- To unfold this is to unfold all of this file that computes: for closed computation.
unfoldable pub opened : Unit {0}
unfolding consistent listed total_weight sets_of leaf_term pure_count against_base pure_earnings mixed_count mixed_earnings plan_count plan_earnings value_base value_term value_count value
opened = tt
