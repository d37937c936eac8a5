-- The line of a set of the player's is put; any other set leaves the buffer as it was.
use Rattle.text.proofs.Puts.{put_none}
use Rattle.report.proofs.Strategies.{line_own, line_other}
use Rattle.report.proofs.strategy.put_set.Goals as goal

pub put_move_line-requires : goal.put_move_line-requires
put_move_line-requires c =
    rw c.from.ensures (rw (line_own c.args.numbers.now c.owner.result c.args.player c.args.moves.now c.args.h c.owner.ensures c.if-eq.ensures) at c.requires.2)

pub returns-then-eq : goal.returns-then-eq
returns-then-eq c =
    let a = c.args in
    rw (line_own a.numbers.now c.owner.result a.player a.moves.now a.h c.owner.ensures c.if-eq.ensures) (rw c.from.ensures at c.put_move_line.ensures)

pub returns : goal.returns
returns c =
    let a = c.args in
    rw (line_other a.numbers.now c.owner.result a.player a.moves.now a.h c.owner.ensures c.if-eq.ensures) (put_none _ _)
