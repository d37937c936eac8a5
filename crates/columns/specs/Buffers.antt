-- Ten lent buffers: what they hold, and what is put into them.
use Rattle.std.specs.Prelude.{ℕ, ◌<◌, ◌≡◌, length, set}
use Rattle.algebra.specs.Arrays.{over}
use Rattle.model.specs.Game.{Game, one, two}
use Rattle.model.specs.Writing.{GameFields, field_lists, set_field, moves_field, payoff_field}
use Rattle.records.specs.Records.{kind_number, kind_in, set_in, moves_in, payoff1_in, payoff2_in}
use Rattle.records.specs.declared.game_file.NodeRecord.{NodeRecord}
use Rattle.columns.specs.declared.GameBuffers.{GameBuffers}

-- what the buffers hold
abbrev pub held : GameBuffers → GameFields
held b = field_lists b.set_players.now b.set_moves.now b.kinds.now b.parents.now b.moves.now b.weights.now b.node_sets.now b.chance_moves.now b.payoffs1.now b.payoffs2.now

-- both lend the same ten
pub record SameBuffers (a b : GameBuffers) : Type 0 where
  pub set_players : b.set_players.ghost_name ≡ a.set_players.ghost_name
  pub set_moves : b.set_moves.ghost_name ≡ a.set_moves.ghost_name
  pub kinds : b.kinds.ghost_name ≡ a.kinds.ghost_name
  pub parents : b.parents.ghost_name ≡ a.parents.ghost_name
  pub moves : b.moves.ghost_name ≡ a.moves.ghost_name
  pub weights : b.weights.ghost_name ≡ a.weights.ghost_name
  pub node_sets : b.node_sets.ghost_name ≡ a.node_sets.ghost_name
  pub chance_moves : b.chance_moves.ghost_name ≡ a.chance_moves.ghost_name
  pub payoffs1 : b.payoffs1.ghost_name ≡ a.payoffs1.ghost_name
  pub payoffs2 : b.payoffs2.ghost_name ≡ a.payoffs2.ghost_name

-- place n is in the buffer of each field of a node
pub record NodeFits (n : ℕ) (b : GameFields) : Type 0 where
  pub kinds : n < length b.kinds
  pub parents : n < length b.parents
  pub moves : n < length b.moves
  pub weights : n < length b.weights
  pub node_sets : n < length b.node_sets
  pub chance_moves : n < length b.chance_moves
  pub payoffs1 : n < length b.payoffs1
  pub payoffs2 : n < length b.payoffs2

-- with a node at place n
abbrev pub with_node : NodeRecord → ℕ → GameFields → GameFields
with_node x n b =
    field_lists
    b.set_players
    b.set_moves
    (set b.kinds n (kind_number (kind_in x.payload)))
    (set b.parents n x.parent)
    (set b.moves n x.place)
    (set b.weights n x.weight)
    (set b.node_sets n (set_in x.payload))
    (set b.chance_moves n (moves_in x.payload))
    (set b.payoffs1 n (payoff1_in x.payload))
    (set b.payoffs2 n (payoff2_in x.payload))

-- with all nodes
abbrev pub with_nodes : Game → GameFields → GameFields
with_nodes g b =
    field_lists
    b.set_players
    b.set_moves
    (over g.kind g.nodes b.kinds)
    (over g.parent g.nodes b.parents)
    (over g.move g.nodes b.moves)
    (over g.weight g.nodes b.weights)
    (over (set_field g) g.nodes b.node_sets)
    (over (moves_field g) g.nodes b.chance_moves)
    (over (payoff_field g one) g.nodes b.payoffs1)
    (over (payoff_field g two) g.nodes b.payoffs2)
