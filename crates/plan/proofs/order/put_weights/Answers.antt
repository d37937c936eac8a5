-- Player 1's weights first, and player 2's after them.
use mathlib.Core.Path.{refl}
use Rattle.plan.proofs.FileOrder.{both_placed}
use Rattle.plan.proofs.order.put_weights.Goals as goal

pub returns : goal.returns
returns c = both_placed _ _ _ _ refl refl (rw c.of-first.ensures at c.put_moves.ensures) (rw c.of-second.ensures at c.put_moves-2.ensures)
