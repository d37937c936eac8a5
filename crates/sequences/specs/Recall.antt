-- Where own numbers stand among the sections, and the test of check 13 for one node.
use Rattle.std.specs.Prelude.{ℕ, Bool, List, T, eqb}
use Rattle.algebra.specs.Bounded.{implies}
use Rattle.algebra.specs.Sections.{Held}
use Rattle.model.specs.Game.{Game, Player, is_decision}
use Rattle.model.specs.Sequences.{first_node, leading_number}
use Rattle.model.specs.GameChecks.{sets_non_empty_of}
use Rattle.model.specs.Table.{own_number}
use Rattle.loaded.specs.Sections.{first_node_section, start_section, own_section_of}
use Rattle.loaded.specs.Rooted.{Rooted}
use Rattle.loaded.specs.Sets.{first_sequence}
use Rattle.loaded.specs.Loaded.{Decoded}

-- The sections hold game g, the numbers of its sets' first sequences, and those of p's own sequences to the first `stored` nodes.
pub record OwnStored (g : Game) (p : Player) (stored : ℕ) (numbers : List ℕ) : Type 0 where
  pub decoded : Decoded g numbers
  pub rooted : Rooted g
  pub starts : Held start_section (first_sequence g) g.sets numbers
  pub own : Held (own_section_of p) (own_number g p) stored numbers

-- The sections hold game g, its sets' first nodes, which each has, and the numbers of both players' own sequences to all nodes.
pub record OwnFilled (g : Game) (numbers : List ℕ) : Type 0 where
  pub decoded : Decoded g numbers
  pub rooted : Rooted g
  pub sets_non_empty : T (sets_non_empty_of g)
  pub first_nodes : Held first_node_section (first_node g) g.sets numbers
  pub own : (p : Player) → Held (own_section_of p) (own_number g p) g.nodes numbers

-- where node n is a decision, the own number of its set's player there is that of the sequence leading to the set
unfoldable pub recall_test : Game → (n : ℕ) → Bool
recall_test g n = implies (is_decision g n) (eqb (own_number g (g.set_player (g.node_set n)) n) (leading_number g (g.node_set n)))
