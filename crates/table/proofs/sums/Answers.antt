use native.Mathlib.Omega.{arith}
use mathlib.Core.Path.{◌∙◌}
use lib.IntN.{pos}
use mir.Syntax.{w64}
use mir.Facts.{to_z-of_z}
use Rattle.algebra.proofs.Fillings.{filling_none, filling_more}
use Rattle.table.proofs.sums.Goals as goal

pub loop-k-preserved : goal.loop-k-preserved
loop-k-preserved c =
    let p = c.requires in
    let inv = c.loop-k.invariant in
    (filling_more (pos 0) _ _ _ _ _ _ inv.0 (omega arith) p.0 (to_z-of_z {w = w64} {z = c.sum.result} (record { sfits = c.sum.type_inv }) ∙ c.sum.ensures), filling_more (pos 0) _ _ _ _ _ _ inv.1 (omega arith) p.1 (to_z-of_z {w = w64} {z = c.sum-in-loop-k.result} (record { sfits = c.sum-in-loop-k.type_inv }) ∙ c.sum-in-loop-k.ensures))

pub loop-k-init : goal.loop-k-init
loop-k-init c = (filling_none (pos 0) _ _ _, filling_none (pos 0) _ _ _)
