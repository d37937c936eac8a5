-- What the sections hold of a game before the last of them are filled.
use Rattle.std.specs.Prelude.{ℕ, List}
use Rattle.algebra.specs.Sections.{Held}
use Rattle.model.specs.Game.{Game, Player}
use Rattle.model.specs.Sequences.{first_node, leading_number}
use Rattle.model.specs.Table.{own_number}
use Rattle.model.specs.Rules.{GameRules}
use Rattle.loaded.specs.Sections.{first_node_section, own_section_of, lead_section}
use Rattle.loaded.specs.Loaded.{Decoded}

-- A game that obeys its rules: its records, by set its first node and the sequence that leads to it, by node both players' own sequences.
pub record Numbered (g : Game) (numbers : List ℕ) : Type 0 where
  pub rules : GameRules g
  pub decoded : Decoded g numbers
  pub first_nodes : Held first_node_section (first_node g) g.sets numbers
  pub own : (p : Player) → Held (own_section_of p) (own_number g p) g.nodes numbers
  pub leads : Held lead_section (leading_number g) g.sets numbers

-- Some such game with a property stands there.
pub record NumberedIn (property : Game → Type 0) (numbers : List ℕ) : Type 0 where
  pub game : Game
  pub has : property game
  pub numbered : Numbered game numbers
