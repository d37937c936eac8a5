-- What each call gives, in the model's terms.
use Rattle.std.specs.Prelude.{ℕ}
use Rattle.model.specs.Calls.CheckGame.{Counts}
use Rattle.model.specs.Calls.SetEntry.{SetEntry}
use Rattle.model.specs.Calls.NodeRecord as Model
use Rattle.game.specs.declared.GameCounts.{GameCounts}
use Rattle.sequences.specs.declared.OwnSequence.{OwnSequence}
use Rattle.lookups.specs.declared.SetFields.{SetFields}
use Rattle.lookups.specs.declared.Place.{Place}
use Rattle.lookups.specs.declared.Node.{Node}

-- the check of a game: N, H and D0
abbrev pub game_seen : GameCounts → Counts
game_seen c = record { nodes = c.nodes; sets = c.sets; root_weight = c.root_weight }

-- the entry of a set: player (0 is player 1) and move count
abbrev pub set_seen : SetFields → SetEntry
set_seen s = record { player = s.player; moves = s.moves }

-- a node's parent, its move there and its chance weight
abbrev pub place_seen : Place → Model.Place
place_seen p = record { parent = p.parent; move = p.place; weight = p.weight }

-- the record of a node
abbrev pub node_seen : Node → Model.NodeRecord
node_seen (Node.Leaf p payoff1 payoff2) = Model.leaf (place_seen p) payoff1 payoff2
node_seen (Node.Decision p set) = Model.decision (place_seen p) set
node_seen (Node.Chance p moves) = Model.chance (place_seen p) moves

-- the number of the own sequence leading to a set
abbrev pub sequence_seen : OwnSequence → ℕ
sequence_seen s = s.number
