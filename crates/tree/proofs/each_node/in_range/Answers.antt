-- A decision's kind leaves one of the two implications.
use Rattle.tree.proofs.NodeTests.{decision_ranged}
use Rattle.tree.proofs.each_node.in_range.Goals as goal

pub returns-in-Decision : goal.returns-in-Decision
returns-in-Decision c = decision_ranged _ _ c.in-Decision.is
