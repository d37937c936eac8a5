-- Buffers whose first places are filled with the nodes' fields.
use Prim.Native.Nat.{ℕ, ◌+◌, ◌≤◌, ◌<◌}
use mathlib.Core.Path.{◌≡◌, refl}
use mathlib.Core.List.{List}
use native.Mathlib.Omega.{arith}
use lib.IntN.{pos}
use Rattle.algebra.proofs.Fillings.{Filling, filling_none, filling_more, filling_long, filling_all}
use Rattle.model.specs.Game.{Game, game_of, one, two}
use Rattle.model.specs.Writing.{GameFields, field_lists, payoff_field, set_field, moves_field}
use Rattle.records.specs.Records.{NodeRead}
use Rattle.records.specs.declared.game_file.NodeRecord.{NodeRecord}
use Rattle.records.proofs.Records.{node_set_lem, node_moves_lem, node_payoff1, node_payoff2}
use Rattle.columns.specs.Columns.{FieldsFit}
use Rattle.columns.specs.Buffers.{NodeFits, with_node, with_nodes}

-- b is a with the fields of the nodes below n
pub record NodesFilled (g : Game) (a : GameFields) (n : ℕ) (b : GameFields) : Type 0 where
  pub set_players : b.set_players ≡ a.set_players
  pub set_moves : b.set_moves ≡ a.set_moves
  pub kinds : Filling g.kind g.nodes a.kinds n b.kinds
  pub parents : Filling g.parent g.nodes a.parents n b.parents
  pub moves : Filling g.move g.nodes a.moves n b.moves
  pub weights : Filling g.weight g.nodes a.weights n b.weights
  pub node_sets : Filling (set_field g) g.nodes a.node_sets n b.node_sets
  pub chance_moves : Filling (moves_field g) g.nodes a.chance_moves n b.chance_moves
  pub payoffs1 : Filling (payoff_field g one) g.nodes a.payoffs1 n b.payoffs1
  pub payoffs2 : Filling (payoff_field g two) g.nodes a.payoffs2 n b.payoffs2

-- none yet
pub none_filled : (g : Game) (a : GameFields) → NodesFilled g a 0 a
none_filled g a =
    record {
      set_players = refl;
      set_moves = refl;
      kinds = filling_none 0 _ _ _;
      parents = filling_none 0 _ _ _;
      moves = filling_none 0 _ _ _;
      weights = filling_none 0 _ _ _;
      node_sets = filling_none 0 _ _ _;
      chance_moves = filling_none 0 _ _ _;
      payoffs1 = filling_none (pos 0) _ _ _;
      payoffs2 = filling_none (pos 0) _ _ _;
    }

module _ (bytes : List ℕ) (h m : ℕ) (a b : GameFields) (n : ℕ) (m_is : m ≡ (game_of bytes).nodes) (room : FieldsFit h m a) (f : NodesFilled (game_of bytes) a n b) (below : n < m) where
  -- node n has its place
  pub node_fits : NodeFits n b
  node_fits =
      record {
        kinds = omega (arith, below, room.kinds, filling_long 0 _ _ _ _ _ f.kinds (omega (arith, m_is, room.kinds)));
        parents = omega (arith, below, room.parents, filling_long 0 _ _ _ _ _ f.parents (omega (arith, m_is, room.parents)));
        moves = omega (arith, below, room.moves, filling_long 0 _ _ _ _ _ f.moves (omega (arith, m_is, room.moves)));
        weights = omega (arith, below, room.weights, filling_long 0 _ _ _ _ _ f.weights (omega (arith, m_is, room.weights)));
        node_sets = omega (arith, below, room.node_sets, filling_long 0 _ _ _ _ _ f.node_sets (omega (arith, m_is, room.node_sets)));
        chance_moves = omega (arith, below, room.chance_moves, filling_long 0 _ _ _ _ _ f.chance_moves (omega (arith, m_is, room.chance_moves)));
        payoffs1 = omega (arith, below, room.payoffs1, filling_long (pos 0) _ _ _ _ _ f.payoffs1 (omega (arith, m_is, room.payoffs1)));
        payoffs2 = omega (arith, below, room.payoffs2, filling_long (pos 0) _ _ _ _ _ f.payoffs2 (omega (arith, m_is, room.payoffs2)));
      }

  -- one node more
  pub more_filled : (x : NodeRecord) → NodeRead bytes n x → NodesFilled (game_of bytes) a (n + 1) (with_node x n b)
  more_filled x r =
      record {
        set_players = f.set_players;
        set_moves = f.set_moves;
        kinds = filling_more 0 _ _ _ _ _ _ f.kinds (omega (arith, m_is, below)) (omega (arith, m_is, room.kinds)) r.kind;
        parents = filling_more 0 _ _ _ _ _ _ f.parents (omega (arith, m_is, below)) (omega (arith, m_is, room.parents)) r.parent;
        moves = filling_more 0 _ _ _ _ _ _ f.moves (omega (arith, m_is, below)) (omega (arith, m_is, room.moves)) r.place;
        weights = filling_more 0 _ _ _ _ _ _ f.weights (omega (arith, m_is, below)) (omega (arith, m_is, room.weights)) r.weight;
        node_sets = filling_more 0 _ _ _ _ _ _ f.node_sets (omega (arith, m_is, below)) (omega (arith, m_is, room.node_sets)) (node_set_lem _ _ _ r);
        chance_moves = filling_more 0 _ _ _ _ _ _ f.chance_moves (omega (arith, m_is, below)) (omega (arith, m_is, room.chance_moves)) (node_moves_lem _ _ _ r);
        payoffs1 = filling_more (pos 0) _ _ _ _ _ _ f.payoffs1 (omega (arith, m_is, below)) (omega (arith, m_is, room.payoffs1)) (node_payoff1 _ _ _ r);
        payoffs2 = filling_more (pos 0) _ _ _ _ _ _ f.payoffs2 (omega (arith, m_is, below)) (omega (arith, m_is, room.payoffs2)) (node_payoff2 _ _ _ r);
      }

-- all nodes
pub all_filled : (g : Game) (a b : GameFields) (n : ℕ) → NodesFilled g a n b → g.nodes ≤ n → field_lists b.set_players b.set_moves b.kinds b.parents b.moves b.weights b.node_sets b.chance_moves b.payoffs1 b.payoffs2 ≡ with_nodes g a
all_filled g a b n f all =
    rw (
      f.set_players,
      f.set_moves,
      filling_all 0 _ _ _ _ _ f.kinds all,
      filling_all 0 _ _ _ _ _ f.parents all,
      filling_all 0 _ _ _ _ _ f.moves all,
      filling_all 0 _ _ _ _ _ f.weights all,
      filling_all 0 _ _ _ _ _ f.node_sets all,
      filling_all 0 _ _ _ _ _ f.chance_moves all,
      filling_all (pos 0) _ _ _ _ _ f.payoffs1 all,
      filling_all (pos 0) _ _ _ _ _ f.payoffs2 all,
    )
