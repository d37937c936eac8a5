-- What reading a record of a game file gives, from the model's definitions, and the bits that putting it gives.
use Rattle.std.specs.Prelude.{ℕ, zero, suc, ◌+◌, ◌*◌, ◌<◌, ◌^◌, ◌≡◌, List, ◌++◌, ℤ, pos}
use Rattle.model.specs.Bits.{field, signed, bits, twos_complement}
use Rattle.model.specs.Game.{game_of, node_at, set_at}
use Rattle.records.specs.declared.game_file.Header.{Header}
use Rattle.records.specs.declared.game_file.SetEntry.{SetEntry}
use Rattle.records.specs.declared.game_file.Kind.{Kind}
use Rattle.records.specs.declared.game_file.Payload.{Payload}
use Rattle.records.specs.declared.game_file.NodeRecord.{NodeRecord}

-- the header: edition, N, H, D0, and where the node records begin
unfoldable pub header_of : List ℕ → Header
header_of bytes = record {
  edition = field bytes 0 4;
  nodes = (game_of bytes).nodes;
  sets = (game_of bytes).sets;
  root_weight = (game_of bytes).root_weight;
  records = node_at bytes 0;
}

-- the header of a file with so many nodes and sets
abbrev pub header_with : (nodes sets root_weight : ℕ) → Header
header_with nodes sets root_weight = record { edition = 1; nodes = nodes; sets = sets; root_weight = root_weight; records = 40 + 8 * sets }

-- the bits of a header: edition, N, H, D0
unfoldable pub header_bits : Header → List ℕ
header_bits x = bits 4 x.edition ++ bits 12 x.nodes ++ bits 12 x.sets ++ bits 12 x.root_weight

-- The entry of set h, and the widths of its fields.
pub record SetRead (bytes : List ℕ) (h : ℕ) (r : SetEntry) : Type 0 where
  pub player : r.player ≡ field bytes (set_at h) 1
  pub moves : r.moves ≡ (game_of bytes).set_moves h
  pub player_fits : r.player < 2
  pub moves_fit : r.moves < 128

-- the bits of a set entry: player, move count
unfoldable pub entry_bits : SetEntry → List ℕ
entry_bits x = bits 1 x.player ++ bits 7 x.moves

-- the number that stands for a kind
unfoldable pub kind_number : Kind → ℕ
kind_number Kind.Leaf = 0
kind_number Kind.Decision = 1
kind_number Kind.Chance = 2
kind_number Kind.Unknown = 3

-- the kind that a number stands for
unfoldable pub kind_of : ℕ → Kind
kind_of zero = Kind.Leaf
kind_of (suc zero) = Kind.Decision
kind_of (suc (suc zero)) = Kind.Chance
kind_of (suc (suc (suc k))) = Kind.Unknown

-- the kind of a payload
unfoldable pub kind_in : Payload → Kind
kind_in (Payload.Leaf payoff1 payoff2) = Kind.Leaf
kind_in (Payload.Decision set padding) = Kind.Decision
kind_in (Payload.Chance moves padding) = Kind.Chance
kind_in (Payload.Unknown kind moves padding) = Kind.Unknown

-- the number that stands for it: of a kind that no node has, the one that the payload says
unfoldable pub number_in : Payload → ℕ
number_in (Payload.Leaf payoff1 payoff2) = 0
number_in (Payload.Decision set padding) = 1
number_in (Payload.Chance moves padding) = 2
number_in (Payload.Unknown kind moves padding) = kind

-- a decision's set, and 0 of any other kind
unfoldable pub set_in : Payload → ℕ
set_in (Payload.Leaf payoff1 payoff2) = 0
set_in (Payload.Decision set padding) = set
set_in (Payload.Chance moves padding) = 0
set_in (Payload.Unknown kind moves padding) = 0

-- a chance node's move count, likewise
unfoldable pub moves_in : Payload → ℕ
moves_in (Payload.Leaf payoff1 payoff2) = 0
moves_in (Payload.Decision set padding) = 0
moves_in (Payload.Chance moves padding) = moves
moves_in (Payload.Unknown kind moves padding) = 0

-- a leaf's payoff of player 1
unfoldable pub payoff1_in : Payload → ℤ
payoff1_in (Payload.Leaf payoff1 payoff2) = payoff1
payoff1_in (Payload.Decision set padding) = pos 0
payoff1_in (Payload.Chance moves padding) = pos 0
payoff1_in (Payload.Unknown kind moves padding) = pos 0

-- a leaf's payoff of player 2
unfoldable pub payoff2_in : Payload → ℤ
payoff2_in (Payload.Leaf payoff1 payoff2) = payoff2
payoff2_in (Payload.Decision set padding) = pos 0
payoff2_in (Payload.Chance moves padding) = pos 0
payoff2_in (Payload.Unknown kind moves padding) = pos 0

-- the number in the padding, 0 where there is none
unfoldable pub padding_in : Payload → ℕ
padding_in (Payload.Leaf payoff1 payoff2) = 0
padding_in (Payload.Decision set padding) = padding
padding_in (Payload.Chance moves padding) = padding
padding_in (Payload.Unknown kind moves padding) = padding

-- the payload that begins at a bit: two payoffs, a set and zeros, a move count and zeros
unfoldable pub payload_by : List ℕ → (at : ℕ) → Kind → Payload
payload_by bytes at Kind.Leaf = Payload.Leaf (signed 16 (field bytes at 16)) (signed 16 (field bytes (at + 16) 16))
payload_by bytes at Kind.Decision = Payload.Decision (field bytes at 12) (field bytes (at + 12) 20)
payload_by bytes at Kind.Chance = Payload.Chance (field bytes at 7) (field bytes (at + 7) 25)
payload_by bytes at Kind.Unknown = Payload.Unknown (kind_number Kind.Unknown) 0 0

-- by the number of the kind
unfoldable pub payload_of : List ℕ → (at kind : ℕ) → Payload
payload_of bytes at kind = payload_by bytes at (kind_of kind)

-- the bits of a payload
unfoldable pub payload_bits : Payload → List ℕ
payload_bits (Payload.Leaf payoff1 payoff2) = bits 16 (twos_complement 16 payoff1) ++ bits 16 (twos_complement 16 payoff2)
payload_bits (Payload.Decision set padding) = bits 12 set ++ bits 20 padding
payload_bits (Payload.Chance moves padding) = bits 7 moves ++ bits 25 padding
payload_bits (Payload.Unknown kind moves padding) = bits 7 moves ++ bits 25 padding

-- The record of node n, what its kind has, and the widths of its fields.
pub record NodeRead (bytes : List ℕ) (n : ℕ) (r : NodeRecord) : Type 0 where
  pub kind : kind_number (kind_in r.payload) ≡ (game_of bytes).kind n
  pub parent : r.parent ≡ (game_of bytes).parent n
  pub place : r.place ≡ (game_of bytes).move n
  pub weight : r.weight ≡ (game_of bytes).weight n
  pub payload : r.payload ≡ payload_of bytes (node_at bytes n + 32) ((game_of bytes).kind n)
  pub set : kind_in r.payload ≡ Kind.Decision → set_in r.payload ≡ (game_of bytes).node_set n
  pub kind_fits : kind_number (kind_in r.payload) < 4
  pub parent_fits : r.parent < 2 ^ 12
  pub place_fits : r.place < 64
  pub weight_fits : r.weight < 2 ^ 12
  pub set_fits : set_in r.payload < 2 ^ 12
  pub moves_fit : moves_in r.payload < 128

-- the bits of a node record: kind, parent, move at the parent, weight, payload
unfoldable pub node_bits : NodeRecord → List ℕ
node_bits x = bits 2 (number_in x.payload) ++ bits 12 x.parent ++ bits 6 x.place ++ bits 12 x.weight ++ payload_bits x.payload

-- where the node records begin, and how many there are
pub record Framed (bytes : List ℕ) (records nodes : ℕ) : Type 0 where
  pub records_is : records ≡ node_at bytes 0
  pub nodes_is : nodes ≡ (game_of bytes).nodes
