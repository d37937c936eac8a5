-- The fields that the game writer is given, and what it is told of those that fit.
use Rattle.std.specs.Prelude.{ℕ, ◌^◌, ◌<◌, ◌≡◌, T, length}
use Rattle.algebra.specs.Arrays.{item_z}
use Rattle.model.specs.Writing.{GameFields, fits_signed_of}
use Rattle.fitting.specs.declared.game_lists.GameLists.{GameLists}

-- the fields that stand in the lists
abbrev pub fields_of_lists : GameLists → GameFields
fields_of_lists l = record {
  root_weight = l.root_weight;
  set_players = l.set_players.now;
  set_moves = l.set_moves.now;
  kinds = l.kinds.now;
  parents = l.parents.now;
  moves = l.moves.now;
  weights = l.weights.now;
  node_sets = l.node_sets.now;
  chance_moves = l.chance_moves.now;
  payoffs1 = l.payoffs1.now;
  payoffs2 = l.payoffs2.now;
}

-- the nodes' lists are side by side
pub record Beside (t : GameFields) : Type 0 where
  pub parents : length t.parents ≡ length t.kinds
  pub moves : length t.moves ≡ length t.kinds
  pub weights : length t.weights ≡ length t.kinds
  pub node_sets : length t.node_sets ≡ length t.kinds
  pub chance_moves : length t.chance_moves ≡ length t.kinds
  pub payoffs1 : length t.payoffs1 ≡ length t.kinds
  pub payoffs2 : length t.payoffs2 ≡ length t.kinds

-- the sets' lists are side by side and few
pub record SetsFit (t : GameFields) : Type 0 where
  pub beside : length t.set_moves ≡ length t.set_players
  pub few : length t.set_players < 2 ^ 12

-- the nodes' lists are side by side and few, and every payoff fits its field
pub record NodesFit (t : GameFields) : Type 0 where
  pub beside : Beside t
  pub few : length t.kinds < 2 ^ 12
  pub payoff1 : (n : ℕ) → T (fits_signed_of 16 (item_z t.payoffs1 n))
  pub payoff2 : (n : ℕ) → T (fits_signed_of 16 (item_z t.payoffs2 n))
