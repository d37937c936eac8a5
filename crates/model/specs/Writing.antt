-- Document 01, "The two files" and refusals 17 and 18: the fields of a game, and the bytes that the writers write.
use Rattle.std.specs.Prelude.{ℕ, zero, suc, ◌*◌, ◌^◌, Bool, true, false, ◌&&◌, cond, List, [], ◌∷◌, ◌++◌, length, eqb, ltb, ℤ, pos, negsuc}
use Rattle.algebra.specs.Arrays.{item, item_z}
use Rattle.algebra.specs.Bounded.{all_to, join_to, list_to}
use Rattle.model.specs.Bits.{bits, run_bits, pack, twos_complement}
use Rattle.model.specs.Game.{Game, Player, one, two, player_bit, is_leaf, is_decision, is_chance}
use Rattle.model.specs.Plan.{weight_width}

-- What the game writer is given: D0 and one list a field, those of the sets and those of the nodes side by side.
pub record GameFields : Type 0 where
  pub root_weight : ℕ
  pub set_players : List ℕ  -- 0 is player 1
  pub set_moves : List ℕ
  pub kinds : List ℕ
  pub parents : List ℕ
  pub moves : List ℕ
  pub weights : List ℕ
  pub node_sets : List ℕ
  pub chance_moves : List ℕ
  pub payoffs1 : List ℤ
  pub payoffs2 : List ℤ

-- D0 and the ten lists as one record
abbrev pub game_fields_of : (root_weight : ℕ) → (set_players set_moves kinds parents moves weights node_sets chance_moves : List ℕ) → (payoffs1 payoffs2 : List ℤ) → GameFields
game_fields_of root_weight set_players set_moves kinds parents moves weights node_sets chance_moves payoffs1 payoffs2 = record {
  root_weight = root_weight;
  set_players = set_players;
  set_moves = set_moves;
  kinds = kinds;
  parents = parents;
  moves = moves;
  weights = weights;
  node_sets = node_sets;
  chance_moves = chance_moves;
  payoffs1 = payoffs1;
  payoffs2 = payoffs2;
}

-- ten lists as the fields of a game, where D0 is no list
abbrev pub field_lists : (set_players set_moves kinds parents moves weights node_sets chance_moves : List ℕ) → (payoffs1 payoffs2 : List ℤ) → GameFields
field_lists = game_fields_of 0

-- What the plan writer is given: D1, D2 and all weights in file order.
pub record PlanFields : Type 0 where
  pub d1 : ℕ
  pub d2 : ℕ
  pub weights : List ℕ

abbrev pub plan_fields_of : (d1 d2 : ℕ) → (weights : List ℕ) → PlanFields
plan_fields_of d1 d2 weights = record { d1 = d1; d2 = d2; weights = weights }

-- The fields of a game by number; a number that a node's kind lacks is 0.
module _ (g : Game) where
  -- the player of set h, as its bit
  unfoldable pub player_field : (h : ℕ) → ℕ
  player_field h = player_bit (g.set_player h)

  -- the set of node n, 0 where it is no decision
  unfoldable pub set_field : (n : ℕ) → ℕ
  set_field n = cond (is_decision g n) (g.node_set n) 0

  -- the move count of node n, 0 where chance does not move
  unfoldable pub moves_field : (n : ℕ) → ℕ
  moves_field n = cond (is_chance g n) (g.chance_moves n) 0

  -- a payoff of node n, 0 where it is no leaf
  unfoldable pub payoff_field : Player → ℕ → ℤ
  payoff_field p n = cond (is_leaf g n) (g.payoff p n) (pos 0)

  -- all of them
  unfoldable pub fields_of : GameFields
  fields_of = record {
    root_weight = g.root_weight;
    set_players = list_to g.sets player_field;
    set_moves = list_to g.sets g.set_moves;
    kinds = list_to g.nodes g.kind;
    parents = list_to g.nodes g.parent;
    moves = list_to g.nodes g.move;
    weights = list_to g.nodes g.weight;
    node_sets = list_to g.nodes set_field;
    chance_moves = list_to g.nodes moves_field;
    payoffs1 = list_to g.nodes (payoff_field one);
    payoffs2 = list_to g.nodes (payoff_field two);
  }

module _ (t : GameFields) where
  -- H: "They take the counts from the lengths of the tables"
  unfoldable pub set_count : ℕ
  set_count = length t.set_players

  -- N, the length of the nodes' tables
  unfoldable pub node_count : ℕ
  node_count = length t.kinds

  -- set entry h: player (1 bit), move count (7)
  unfoldable pub set_bits : ℕ → List ℕ
  set_bits h = bits 1 (item t.set_players h) ++ bits 7 (item t.set_moves h)

  -- a payload of 32 bits, by the node's kind; the writer writes the zero bits itself
  unfoldable pub payload_bits : (kind n : ℕ) → List ℕ
  payload_bits zero n = bits 16 (twos_complement 16 (item_z t.payoffs1 n)) ++ bits 16 (twos_complement 16 (item_z t.payoffs2 n))
  payload_bits (suc zero) n = bits 12 (item t.node_sets n) ++ bits 20 0
  payload_bits (suc (suc k)) n = bits 7 (item t.chance_moves n) ++ bits 25 0

  -- node record n: kind (2 bits), parent (12), move at the parent (6), chance weight (12), payload (32)
  unfoldable pub node_bits : ℕ → List ℕ
  node_bits n =
      bits 2 (item t.kinds n)
      ++ bits 12 (item t.parents n)
      ++ bits 6 (item t.moves n)
      ++ bits 12 (item t.weights n)
      ++ payload_bits (item t.kinds n) n

  -- header: edition (4 bits, value 1), N (12), H (12), D0 (12)
  unfoldable pub header_bits : List ℕ
  header_bits = bits 4 1 ++ bits 12 node_count ++ bits 12 set_count ++ bits 12 t.root_weight

  -- the bytes of a game file
  unfoldable pub game_bytes : List ℕ
  game_bytes = pack (header_bits ++ join_to set_count set_bits ++ join_to node_count node_bits)

-- the bytes of a plan file: header, then "all weights as one list in file order"
unfoldable pub plan_bytes : (d1 d2 : ℕ) → (weights : List ℕ) → List ℕ
plan_bytes d1 d2 weights = pack (bits 4 1 ++ bits weight_width d1 ++ bits weight_width d2 ++ bits 4 0 ++ run_bits weight_width weights)

-- every number of the list fits a field of that width
unfoldable pub all_fit : (width : ℕ) → List ℕ → Bool
all_fit width [] = true
all_fit width (x ∷ l) = ltb x (2 ^ width) && all_fit width l

-- an integer fits two's complement of `width` bits, neither "too large" nor "too small for a signed one":
-- it is from -2 ^ (width - 1) to 2 ^ (width - 1) - 1. `negsuc n` is -(n + 1).
unfoldable pub fits_signed_of : (width : ℕ) → ℤ → Bool
fits_signed_of width (pos n) = ltb (2 * n) (2 ^ width)
fits_signed_of width (negsuc n) = ltb (2 * n) (2 ^ width)

-- every integer of the list fits
unfoldable pub all_fit_signed_of : (width : ℕ) → List ℤ → Bool
all_fit_signed_of width [] = true
all_fit_signed_of width (z ∷ l) = fits_signed_of width z && all_fit_signed_of width l

-- the integer is 0
abbrev pub is_zero : ℤ → Bool
is_zero (pos zero) = true
is_zero (pos (suc n)) = false
is_zero (negsuc n) = false

module _ (t : GameFields) where
  -- "a node kind given to a writer is not 0 to 2, or a number that the node's kind lacks is given and not 0"
  unfoldable pub kind_fits_of : (kind n : ℕ) → Bool
  kind_fits_of zero n = eqb (item t.node_sets n) 0 && eqb (item t.chance_moves n) 0
  kind_fits_of (suc zero) n = eqb (item t.chance_moves n) 0 && is_zero (item_z t.payoffs1 n) && is_zero (item_z t.payoffs2 n)
  kind_fits_of (suc (suc zero)) n = eqb (item t.node_sets n) 0 && is_zero (item_z t.payoffs1 n) && is_zero (item_z t.payoffs2 n)
  kind_fits_of (suc (suc (suc k))) n = false

  -- "lists given side by side differ in length"
  unfoldable pub side_by_side : Bool
  side_by_side =
      eqb (length t.set_moves) (set_count t)
      && eqb (length t.parents) (node_count t)
      && eqb (length t.moves) (node_count t)
      && eqb (length t.weights) (node_count t)
      && eqb (length t.node_sets) (node_count t)
      && eqb (length t.chance_moves) (node_count t)
      && eqb (length t.payoffs1) (node_count t)
      && eqb (length t.payoffs2) (node_count t)

  -- "A number given to a writer does not fit its field .., or a table has more entries than its count can hold"
  unfoldable pub numbers_fit : Bool
  numbers_fit =
      ltb (set_count t) (2 ^ 12)
      && ltb (node_count t) (2 ^ 12)
      && ltb t.root_weight (2 ^ 12)
      && all_fit 1 t.set_players
      && all_fit 7 t.set_moves
      && all_fit 12 t.parents
      && all_fit 6 t.moves
      && all_fit 12 t.weights
      && all_fit 12 t.node_sets
      && all_fit 7 t.chance_moves
      && all_fit_signed_of 16 t.payoffs1
      && all_fit_signed_of 16 t.payoffs2

  -- 17, for the game writer
  unfoldable pub game_fields_fit : Bool
  game_fields_fit = side_by_side && numbers_fit && all_to (node_count t) (λ n. kind_fits_of (item t.kinds n) n)

-- 17, for the plan writer
unfoldable pub plan_fields_fit : (d1 d2 : ℕ) → (weights : List ℕ) → Bool
plan_fields_fit d1 d2 weights = all_fit weight_width (d1 ∷ d2 ∷ weights)

-- To unfold this is to unfold all of this file: for closed computation.
unfoldable pub opened : Unit {0}
unfolding player_field set_field moves_field payoff_field fields_of set_count node_count set_bits payload_bits node_bits header_bits game_bytes plan_bytes all_fit fits_signed_of all_fit_signed_of kind_fits_of side_by_side numbers_fit game_fields_fit plan_fields_fit
opened = tt
