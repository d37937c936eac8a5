-- The record of a node as it was read, by its kind.
use Rattle.model.specs.Calls.NodeRecord as Model
use Rattle.records.specs.declared.game_file.NodeRecord.{NodeRecord}
use Rattle.records.specs.Records.{kind_number, kind_in, payoff1_in, payoff2_in, set_in, moves_in}

-- a node's parent, its move there and its chance weight, as they were read
abbrev pub place_read_of : NodeRecord → Model.Place
place_read_of r = record { parent = r.parent; move = r.place; weight = r.weight }

-- what a node whose record was read has
abbrev pub record_read : NodeRecord → Model.NodeRecord
record_read r =
    Model.by_kind (kind_number (kind_in r.payload))
    (Model.leaf (place_read_of r) (payoff1_in r.payload) (payoff2_in r.payload))
    (Model.decision (place_read_of r) (set_in r.payload))
    (Model.chance (place_read_of r) (moves_in r.payload))
