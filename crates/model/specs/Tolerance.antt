-- Document 02, W-203: house tolerance. A pair that passes at t thousandths is an ε-equilibrium, with ε = t / 1000.
use Rattle.std.specs.Prelude.{ℕ, ◌+◌, ◌*◌, ◌-◌, ◌/◌, ◌<◌, Bool, ◌&&◌, pos, ◌*ℤ◌}
use Rattle.std.specs.Int.Signed.{le_z}
use Rattle.model.specs.Game.{Game, Player, one, two, other}
use Rattle.model.specs.Plan.{PlanPair}
use Rattle.model.specs.Earnings.{Fraction, ◌over◌, AtMost, minus, PureStrategy, MixedStrategy, IsPure, IsMixed, pure_earnings, mixed_earnings, value_base, value}
use Rattle.model.specs.Verdict.{gain}

-- t "thousandths of a payoff point"
abbrev pub thousandths : (t : ℕ) → Fraction
thousandths t = pos t over 1000

-- whether a is at most b, "compared as exact fractions": `AtMost` as a test
abbrev pub at_most : (a b : Fraction) → Bool
at_most a b = le_z (pos b.denominator *ℤ a.numerator) (pos a.denominator *ℤ b.numerator)

-- the smallest number of thousandths that is not below count over base
unfoldable pub thousandths_up : (count base : ℕ) → ℕ
thousandths_up count base = (1000 * count + (base - 1)) / base

module _ (g : Game) (q : PlanPair) where
  -- p's gain, the most that a strategy of his gains, does not lie above t thousandths: a gain equal to it passes
  unfoldable pub gain_within : (t : ℕ) → Player → Bool
  gain_within t p = at_most (gain g q p over value_base g q) (thousandths t)

  -- "yes exactly when neither player has a strategy whose gain lies above it"
  unfoldable pub passes_at : (t : ℕ) → Bool
  passes_at t = gain_within t one && gain_within t two

  -- document 01: "A strategy's gain is its earnings less the player's value."
  unfoldable pub pure_gain : Player → PureStrategy → Fraction
  pure_gain p σ = minus (pure_earnings g p (q (other p)) σ) (value g q p)

  unfoldable pub mixed_gain : Player → MixedStrategy → Fraction
  mixed_gain p μ = minus (mixed_earnings g p (q (other p)) μ) (value g q p)

  -- p has no strategy, pure or mixed, whose gain lies above t thousandths
  pub record NoGainAbove (t : ℕ) (p : Player) : Type 0 where
    pub pures : (σ : PureStrategy) → IsPure g p σ → AtMost (pure_gain p σ) (thousandths t)
    pub mixed : (μ : MixedStrategy) → IsMixed g p μ → AtMost (mixed_gain p μ) (thousandths t)

  -- every base that a gain is compared over is above 0
  pub record GainBases : Type 0 where
    pub pures : (p : Player) (σ : PureStrategy) → 0 < (pure_gain p σ).denominator
    pub mixed : (p : Player) (μ : MixedStrategy) → IsMixed g p μ → 0 < (mixed_gain p μ).denominator

-- To unfold this is to unfold all of this file that computes: for closed computation.
unfoldable pub opened : Unit {0}
unfolding thousandths_up gain_within passes_at pure_gain mixed_gain
opened = tt
