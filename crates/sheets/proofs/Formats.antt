-- Check 19 by the number of moves.
use Prim.Native.Nat.{ℕ, ◌+◌, ◌*◌, ◌-◌, ◌/◌}
use mathlib.Core.Path.{◌≡◌}
use mathlib.Core.Bool.{◌&&◌}
use mathlib.Core.List.{List}
use lib.ListN.{length}
use lib.Dec.{eqb}
use Rattle.model.specs.Bits.{field}
use Rattle.model.specs.Game.{Game}
use Rattle.model.specs.Plan.{plan_moves}
use Rattle.model.specs.Sheet.{sheet_length, sheet_well_formed}

module _ (g : Game) (width : ℕ) (sheet : List ℕ) (moves : ℕ) (e : moves ≡ plan_moves g) where
  -- it is that of the length and of the filling
  pub formed_is : sheet_well_formed g width sheet ≡ (eqb (length sheet) ((width * moves + 7) / 8) && eqb (field sheet (width * moves) (8 * length sheet - width * moves)) 0)
  unfolding sheet_well_formed sheet_length
  formed_is = rw e
