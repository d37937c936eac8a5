use native.Mathlib.Omega.{arith}
use Rattle.algebra.proofs.Fillings.{filling_none, filling_more}
use Rattle.table.proofs.sequences.Goals as goal

pub loop-k-preserved : goal.loop-k-preserved
loop-k-preserved c =
    let p = c.requires in
    let inv = c.loop-k.invariant in
    (filling_more 0 _ _ _ _ _ _ inv.0 (omega arith) p.0 c.sequence.ensures, filling_more 0 _ _ _ _ _ _ inv.1 (omega arith) p.1 c.sequence-in-loop-k.ensures)

pub loop-k-init : goal.loop-k-init
loop-k-init c = (filling_none 0 _ _ _, filling_none 0 _ _ _)
