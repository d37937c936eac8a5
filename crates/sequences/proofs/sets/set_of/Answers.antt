-- A decision's payload is its set.
use Rattle.sequences.proofs.Nodes.{set_here, set_none}
use Rattle.sequences.proofs.sets.set_of.Goals as goal

pub returns-in-Decision : goal.returns-in-Decision
returns-in-Decision c g l D = set_here D l c.number.ensures.0 c.from.ensures c.in-Decision.is c.number-in-Decision.ensures.0

pub returns-in_default : goal.returns-in_default
returns-in_default c g l D = set_none D l c.number.ensures.0 c.from.ensures c.in_default.not-Decision
