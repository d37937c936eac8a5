-- What rounding up to thousandths asks.
use Rattle.std.specs.Prelude.{ℕ, ◌*◌, ◌≤◌, ◌<◌, ℤ, pos, nat_abs, ◌≤ℤ◌}
use Rattle.model.specs.Limits.{count_limit, weight_limit}

-- A base that D0 × D1 × D2 can be, and at most 65,536 payoff points: no gain is more. Every step then stays far below 2⁶⁴.
pub record RoundingFits (count base : ℕ) : Type 0 where
  pub some : 0 < base
  pub base_fits : base ≤ count_limit * (weight_limit * weight_limit)
  pub count_fits : count ≤ 65536 * base

-- the same of an amount that is not below 0
pub record AmountFits (count : ℤ) (base : ℕ) : Type 0 where
  pub not_negative : pos 0 ≤ℤ count
  pub size : RoundingFits (nat_abs count) base
