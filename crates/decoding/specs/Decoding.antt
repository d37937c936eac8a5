-- What decoding a game file leaves in the sections of a loaded game.
use Rattle.std.specs.Prelude.{ℕ, ◌≡◌, Bool, true, false, List, ℤ, length, T, Result, Ok, Err}
use Rattle.algebra.specs.Sections.{Held, Apart}
use Rattle.model.specs.Game.{Game, Player, game_of}
use Rattle.model.specs.GameChecks.{set_moves_in_range, records_well_formed}
use Rattle.checks.specs.declared.Refusal.{Refusal}
use Rattle.checks.specs.declared.Refusal.TheVariants.{SetMoves, NodeForm}
use Rattle.checks.specs.Answers.{checked_of}
use Rattle.loaded.specs.Sections.{player_section, kind_section, first_node_section, payoff_section}
use Rattle.loaded.specs.Leaves.{leaves_of, leaf_of}
use Rattle.loaded.specs.Loaded.{SetsDecoded, NodesDecoded}

-- After the set entries: check 5, and where it passes every entry.
pub record SetsLoaded (g : Game) (r : Result (Unit {0}) Refusal) (before after : List ℕ) : Type 0 where
  pub answer : r ≡ checked_of SetMoves (set_moves_in_range g)
  pub apart : Apart player_section kind_section before after
  pub decoded : T (set_moves_in_range g) → SetsDecoded g after

-- by leaf each player's payoffs
abbrev pub PayoffsLoaded : Game → List ℤ → Type 0
PayoffsLoaded g payoffs = (p : Player) → Held (payoff_section p) (λ k. g.payoff p (leaf_of g k)) (length (leaves_of g)) payoffs

-- how many leaves there are, or check 6's refusal
abbrev pub nodes_answer : (test : Bool) → (leaves : ℕ) → Result ℕ Refusal
nodes_answer true leaves = Ok leaves
nodes_answer false leaves = Err NodeForm

-- After the node records: check 6, and where it passes every record.
pub record NodesLoaded (bytes : List ℕ) (r : Result ℕ Refusal) (before after : List ℕ) (payoffs : List ℤ) : Type 0 where
  pub answer : r ≡ nodes_answer (records_well_formed bytes) (length (leaves_of (game_of bytes)))
  pub apart : Apart kind_section first_node_section before after
  pub decoded : T (records_well_formed bytes) → NodesDecoded (game_of bytes) after
  pub by_leaf : T (records_well_formed bytes) → PayoffsLoaded (game_of bytes) payoffs
