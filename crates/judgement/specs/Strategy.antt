-- A player's sets, one by one.
use Rattle.std.specs.Prelude.{ℕ, ◌≤◌, ◌≡◌, Bool, cond, List, [], ◌∷◌, length}
use Rattle.algebra.specs.Sections.{Held}
use Rattle.model.specs.Game.{Game, Player, same_player}
use Rattle.model.specs.Earnings.{sets_of}
use Rattle.model.specs.Writing.{player_field}
use Rattle.loaded.specs.Sections.{player_section}
use Rattle.loaded.specs.Players.{owner_in}

-- set h is p's, by the numbers of a loaded game
abbrev pub is_own : (numbers : List ℕ) → (p : Player) → (h : ℕ) → Bool
is_own numbers p h = same_player p (owner_in numbers h)

-- set h alone, where it is p's
unfoldable pub own_alone : (numbers : List ℕ) → (p : Player) → (h : ℕ) → List ℕ
own_alone numbers p h = cond (is_own numbers p h) (h ∷ []) []

-- The players of some game's sets stand there; there is a move for each set, and room for those of p's.
pub record StrategyAsked (numbers : List ℕ) (sets : ℕ) (p : Player) (moves out : List ℕ) : Type 0 where
  pub game : Game
  pub sets_are : sets ≡ game.sets
  pub players : Held player_section (player_field game) game.sets numbers
  pub moves_long : sets ≤ length moves
  pub room : length (sets_of game p) ≤ length out
