-- The bytes that a write took come after those before it.
use Rattle.files.proofs.Taken.{taken_more}
use Rattle.files.proofs.write_whole.Goals as goal

pub loop-done-preserved : goal.loop-done-preserved
loop-done-preserved g c =
    let before = c.loop-done.invariant in
    taken_more _ _ _ c.loop-done.done c.in-Continue.count c.args.text.now c.write_part-part.result before.0 c.write_part-part.ensures.within before.1 c.write_part-part.ensures.taken c.in-Continue.ensures
