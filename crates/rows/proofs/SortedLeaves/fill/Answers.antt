use native.Mathlib.Omega.{arith}
use Rattle.algebra.proofs.Fillings.{filling_none, filling_more}
use Rattle.rows.specs.Rows.{leaves_sorted, row_made}
use Rattle.rows.proofs.SortedLeaves.fill.Goals as goal

pub loop-k-init : goal.loop-k-init
loop-k-init c = filling_none (row_made (leaves_sorted c.args.self.now) 0) _ _ _

pub loop-k-preserved : goal.loop-k-preserved
loop-k-preserved c = filling_more (row_made (leaves_sorted c.args.self.now) 0) _ _ _ c.loop-k.k c.loop-k.rows c.row.result c.loop-k.invariant (omega arith) c.requires.0 c.row.ensures
