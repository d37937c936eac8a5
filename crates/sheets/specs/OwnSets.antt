-- A player's sets in the order of first nodes.
use Rattle.std.specs.Prelude.{ℕ, ◌<◌, cond, List, Option, Some, None}
use Rattle.algebra.specs.Arrays.{item}
use Rattle.model.specs.Game.{Game, Player, owns}
use Rattle.loaded.specs.declared.Counts.{Counts}
use Rattle.loaded.specs.declared.SetSequences.{SetSequences}
use Rattle.loaded.specs.Loaded.{NumbersLoaded}
use Rattle.loaded.specs.Sets.{set_order}
use Rattle.loaded.specs.SetSequences.{set_sequences_of}

-- A place of the order of some game that is loaded.
pub record OrderPlace (i : ℕ) (numbers : List ℕ) : Type 0 where
  pub game : Game
  pub counts : Counts
  pub loaded : NumbersLoaded game counts numbers
  pub inside : i < game.sets

-- the sequences of the set at place i, where it is p's
unfoldable pub own_set_of : Game → Player → (i : ℕ) → Option SetSequences
own_set_of g p i = let h = item (set_order g) i in cond (owns g p h) (Some (set_sequences_of g h)) None
