-- What `show` needs, and what it does of a deviation.
use Rattle.std.specs.Prelude.{ℕ, ◌≤◌, ◌≡◌, List, [], ◌∷◌, ℤ, length}
use Rattle.algebra.specs.Sections.{Held}
use Rattle.model.specs.Game.{Game}
use Rattle.model.specs.Writing.{player_field}
use Rattle.model.specs.Call.{Call}
use Rattle.model.specs.Calls.Verdict.{Stated, deviates}
use Rattle.loaded.specs.Sections.{player_section}

-- The players of some game's sets stand there, and there is a move for each set.
pub record ShowAsked (numbers : List ℕ) (sets : ℕ) (moves : List ℕ) : Type 0 where
  pub game : Game
  pub sets_are : sets ≡ game.sets
  pub players : Held player_section (player_field game) game.sets numbers
  pub moves_long : sets ≤ length moves

-- A deviation is stated of the moves of its strategy: only 18, for the one buffer, which takes them.
unfoldable pub showing : (number : ℕ) → (gain : ℤ) → (base : ℕ) → Call (List ℕ) (ℕ ∷ []) Stated
showing number gain base = record { rows = []; result = λ moves. deviates number gain base (length moves); written = λ moves. (moves, tt) }
