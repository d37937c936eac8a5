-- Ten buffers for the fields of a game.
use Rattle.std.specs.Prelude.{ℕ, ◌≤◌, length}
use Rattle.algebra.specs.Arrays.{over}
use Rattle.model.specs.Game.{Game, one, two}
use Rattle.model.specs.Writing.{GameFields, field_lists, player_field, set_field, moves_field, payoff_field}

-- every buffer has room for its field
pub record FieldsFit (h n : ℕ) (b : GameFields) : Type 0 where
  pub set_players : h ≤ length b.set_players
  pub set_moves : h ≤ length b.set_moves
  pub kinds : n ≤ length b.kinds
  pub parents : n ≤ length b.parents
  pub moves : n ≤ length b.moves
  pub weights : n ≤ length b.weights
  pub node_sets : n ≤ length b.node_sets
  pub chance_moves : n ≤ length b.chance_moves
  pub payoffs1 : n ≤ length b.payoffs1
  pub payoffs2 : n ≤ length b.payoffs2

-- every buffer with its field over its first entries
abbrev pub filled : Game → GameFields → GameFields
filled g b =
    field_lists
    (over (player_field g) g.sets b.set_players)
    (over g.set_moves g.sets b.set_moves)
    (over g.kind g.nodes b.kinds)
    (over g.parent g.nodes b.parents)
    (over g.move g.nodes b.moves)
    (over g.weight g.nodes b.weights)
    (over (set_field g) g.nodes b.node_sets)
    (over (moves_field g) g.nodes b.chance_moves)
    (over (payoff_field g one) g.nodes b.payoffs1)
    (over (payoff_field g two) g.nodes b.payoffs2)
