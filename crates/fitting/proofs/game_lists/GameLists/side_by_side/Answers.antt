-- Eight tests, one after the other.
use Rattle.std.proofs.Common.{arith}
use Rattle.std.proofs.lemmas.Grind.{common_steps}
use Rattle.model.specs.Writing.{side_by_side, set_count, node_count}
use Rattle.fitting.proofs.game_lists.GameLists.side_by_side.Goals as goal

pub returns-then-self-nodes-6 : goal.returns-then-self-nodes-6
unfolding side_by_side set_count node_count
returns-then-self-nodes-6 c = grind (arith, common_steps)

pub returns-else-self-nodes-6 : goal.returns-else-self-nodes-6
unfolding side_by_side set_count node_count
returns-else-self-nodes-6 c = grind (arith, common_steps)
