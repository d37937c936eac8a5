-- What checks 14 to 16 take of a loaded game.
use Rattle.std.specs.Prelude.{ℕ, ◌+◌, ◌≤◌, List, length}
use Rattle.algebra.specs.Sections.{Held}
use Rattle.model.specs.Limits.{count_limit}
use Rattle.model.specs.Game.{Game, Player}
use Rattle.model.specs.Sequences.{leading_number, sequence_count}
use Rattle.model.specs.Rules.{GameRules}
use Rattle.model.specs.Writing.{player_field}
use Rattle.loaded.specs.declared.Counts.{Counts}
use Rattle.loaded.specs.Sections.{player_section, moves_section, start_section, lead_section}
use Rattle.loaded.specs.Sets.{first_sequence}
use Rattle.loaded.specs.Loaded.{NumbersLoaded}

-- The numbers are those of some accepted game with these counts.
pub record LoadedIn (c : Counts) (numbers : List ℕ) : Type 0 where
  pub game : Game
  pub loaded : NumbersLoaded game c numbers

-- Each player has the empty sequence; beside it both together have a move for each node but the root, at most.
pub record SequencesCounted (c : Counts) : Type 0 where
  pub some1 : 1 ≤ c.sequences1
  pub some2 : 1 ≤ c.sequences2
  pub few : c.sequences1 + c.sequences2 ≤ count_limit + 1

-- Of each set of a game: its player, its move count, its first sequence and the one that leads to it.
pub record SetsLoaded (g : Game) (numbers : List ℕ) : Type 0 where
  pub rules : GameRules g
  pub players : Held player_section (player_field g) g.sets numbers
  pub moves : Held moves_section g.set_moves g.sets numbers
  pub starts : Held start_section (first_sequence g) g.sets numbers
  pub leads : Held lead_section (leading_number g) g.sets numbers

-- So many sets of some game, and a weight for each of p's sequences.
pub record FitsAsked (sets : ℕ) (p : Player) (numbers x : List ℕ) : Type 0 where
  pub game : Game
  pub sets_loaded : SetsLoaded game numbers
  pub sets_in : sets ≤ game.sets
  pub weights_long : sequence_count game p ≤ length x
