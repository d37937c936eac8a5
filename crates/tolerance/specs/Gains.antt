-- What judging one player's gain asks.
use Rattle.std.specs.Prelude.{ℕ, ℤ}
use Rattle.judgement.specs.Judgement.{gain_of, GainFits}
use Rattle.thousandths.specs.Rounding.{AmountFits}

-- both steps to the gain fit an i64, and it can be rounded over the base
pub record GainAsked (denominator : ℕ) (best value : ℤ) (base : ℕ) : Type 0 where
  pub steps : GainFits denominator best value
  pub amount : AmountFits (gain_of denominator best value) base
