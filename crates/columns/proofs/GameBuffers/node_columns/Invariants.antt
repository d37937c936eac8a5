-- The invariant: the same buffers are lent, and the places below `n` of the nodes' are filled. What a record gives is one place more.
use Rattle.model.specs.Game.{game_of}
use Rattle.columns.specs.Buffers.{held, SameBuffers}
use Rattle.columns.proofs.NodeBuffers.{NodesFilled}
use Rattle.columns.proofs.GameBuffers.node_columns.Given as goal

abbrev pub invariant-loop-n : goal.invariant-loop-n
invariant-loop-n l = NodesFilled (game_of l.bytes) (held l.initial.self) l.n (held l.self) × SameBuffers l.initial.self l.self
