-- The marks are put first; the sum is taken only where the sequence that leads to the set is marked.
use Rattle.odds.proofs.Marks.{set_unmarked, set_marked}
use Rattle.odds.proofs.set_given.Goals as goal

pub returns-then-before-eq0 : goal.returns-then-before-eq0
returns-then-before-eq0 c =
    let put = c.mark_moves.ensures in
    set_unmarked c.item-before.ensures.0 put.0 put.1 c.if-before-eq0.true

pub returns-else-before-eq0 : goal.returns-else-before-eq0
returns-else-before-eq0 c =
    let put = c.mark_moves.ensures in
    set_marked c.item-before.ensures.0 put.0 put.1 c.if-before-eq0.false c.moves_total.ensures
