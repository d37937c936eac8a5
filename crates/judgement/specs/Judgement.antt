-- The verdict from two players' values, best values and denominators.
use Rattle.std.specs.Prelude.{ℕ, ◌≤◌, cond, ℤ, pos, ◌-ℤ◌, ◌*ℤ◌, Option, Some, None}
use Rattle.std.specs.Int.Signed.{lt_z}
use Rattle.std.specs.Int.{w64}
use Rattle.std.proofs.Common.{SFits}
use Rattle.model.specs.Limits.{weight_limit}
use Rattle.loaded.specs.declared.Player.TheVariants.{One, Two}
use Rattle.judgement.specs.declared.Deviation.{Deviation}

-- the gain, over D0 × D1 × D2, by a player's own denominator, his best value and his value
unfoldable pub gain_of : (denominator : ℕ) → (best value : ℤ) → ℤ
gain_of denominator best value = pos denominator *ℤ best -ℤ value

-- player 1 where his gain is above 0, else player 2 where his is, else none
unfoldable pub judged : (value1 value2 best1 best2 : ℤ) → (d1 d2 : ℕ) → Option Deviation
judged value1 value2 best1 best2 d1 d2 =
    let gain1 = gain_of d1 best1 value1 in
    let gain2 = gain_of d2 best2 value2 in
    cond (lt_z (pos 0) gain1) (Some (record { player = One; gain = gain1 })) (cond (lt_z (pos 0) gain2) (Some (record { player = Two; gain = gain2 })) None)

-- a denominator within the limit of weights, with which both steps to a gain fit an i64
pub record GainFits (denominator : ℕ) (best value : ℤ) : Type 0 where
  pub denominator_fits : denominator ≤ weight_limit
  pub scaled : SFits w64 (pos denominator *ℤ best)
  pub gain : SFits w64 (gain_of denominator best value)
