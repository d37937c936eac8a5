-- What the checks know of a game in the sections.
use Rattle.std.specs.Prelude.{ℕ, ◌<◌, ◌≡◌, List}
use Rattle.model.specs.Game.{Game}
use Rattle.loaded.specs.Rooted.{Rooted}
use Rattle.loaded.specs.Loaded.{Decoded}

-- Node n is one of the game's, and so is its set, where it is a decision.
pub record SetThere (g : Game) (n : ℕ) : Type 0 where
  pub inside : n < g.nodes
  pub set : g.kind n ≡ 1 → g.node_set n < g.sets

-- A game of so many nodes stands in the sections, and its nodes hang together: what checks 1 to 8 leave for checks 9 to 11.
pub record TreeIn (nodes : ℕ) (numbers : List ℕ) (g : Game) : Type 0 where
  pub nodes_are : nodes ≡ g.nodes
  pub decoded : Decoded g numbers
  pub rooted : Rooted g
