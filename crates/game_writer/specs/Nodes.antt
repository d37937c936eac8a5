-- The record that is made of each node of the lists that the game writer is given.
use Rattle.std.specs.Prelude.{ℕ}
use Rattle.algebra.specs.Arrays.{item, item_z}
use Rattle.model.specs.Writing.{GameFields}
use Rattle.records.specs.declared.game_file.Kind.{Kind}
use Rattle.records.specs.declared.game_file.Payload.{Payload}
use Rattle.records.specs.declared.game_file.NodeRecord.{NodeRecord}
use Rattle.records.specs.Records.{kind_of}

-- the payload of node n as one of a kind
unfoldable pub payload_by : GameFields → (n : ℕ) → Kind → Payload
payload_by t n Kind.Leaf = Payload.Leaf (item_z t.payoffs1 n) (item_z t.payoffs2 n)
payload_by t n Kind.Decision = Payload.Decision (item t.node_sets n) 0
payload_by t n Kind.Chance = Payload.Chance (item t.chance_moves n) 0
payload_by t n Kind.Unknown = Payload.Unknown (item t.kinds n) (item t.chance_moves n) 0

-- the payload of node n
abbrev pub payload_of : GameFields → (n : ℕ) → Payload
payload_of t n = payload_by t n (kind_of (item t.kinds n))

-- the record of node n
abbrev pub node_of : GameFields → (n : ℕ) → NodeRecord
node_of t n = record {
  parent = item t.parents n;
  place = item t.moves n;
  weight = item t.weights n;
  payload = payload_of t n;
}
