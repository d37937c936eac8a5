-- Document 01, "Why a file is sent back": checks 14 and 15 of a plan file, after the game's. Each test says what must hold; 16 is `pair_fits_of`.
use Rattle.std.specs.Prelude.{ℕ, ◌+◌, ◌*◌, ◌-◌, ◌/◌, Bool, ◌&&◌, List, length, eqb, ltb}
use Rattle.model.specs.Bits.{field}
use Rattle.model.specs.Game.{Game, one, two}
use Rattle.model.specs.Plan.{weight_width, denominator_at, header_zeros_at, weight_bit, plan_moves}

-- the bytes of the two files
pub record Files : Type 0 where
  pub game : List ℕ
  pub plan : List ℕ

abbrev pub files : (game plan : List ℕ) → Files
files game plan = record { game = game; plan = plan }

module _ (g : Game) where
  -- "4 bytes plus 12 bits for each move of each set, filled to a byte"
  unfoldable pub plan_length : ℕ
  plan_length = 4 + (weight_width * plan_moves g + 7) / 8

  -- 14: "The plan file's length is wrong."
  unfoldable pub plan_has_length : List ℕ → Bool
  plan_has_length bytes = eqb (length bytes) plan_length

  -- the filling: from the last weight to the file's end
  unfoldable pub filling : List ℕ → ℕ
  filling bytes = field bytes (weight_bit (plan_moves g)) (8 * length bytes - weight_bit (plan_moves g))

  -- 15: "Its edition is not 1, D1 or D2 is zero, or a filling or header zero bit is one."
  unfoldable pub plan_well_formed : List ℕ → Bool
  plan_well_formed bytes =
      eqb (field bytes 0 4) 1
      && ltb 0 (field bytes (denominator_at one) weight_width)
      && ltb 0 (field bytes (denominator_at two) weight_width)
      && eqb (field bytes header_zeros_at 4) 0
      && eqb (filling bytes) 0

-- To unfold this is to unfold all of this file: for closed computation.
unfoldable pub opened : Unit {0}
unfolding plan_length plan_has_length filling plan_well_formed
opened = tt
