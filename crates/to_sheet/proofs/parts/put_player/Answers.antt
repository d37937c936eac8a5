use native.Mathlib.Omega.{arith}
use Rattle.to_sheet.proofs.SetParts.{below_none, below_more, below_all, turn_long, turn_asks}
use Rattle.to_sheet.proofs.parts.put_player.Goals as goal

pub loop-h-preserved : goal.loop-h-preserved
loop-h-preserved c g S l = below_more (c.loop-h.invariant g S l) (omega (arith, c.requires.room)) (c.put_set.ensures g S (omega arith))

pub loop-h-init : goal.loop-h-init
loop-h-init c g S l = below_none

pub put_set-requires : goal.put_set-requires
put_set-requires c = turn_asks c.requires c.loop-h.h (omega arith) (turn_long c.requires c.loop-h.invariant (omega arith))

pub shape_of-out : goal.shape_of-out
shape_of-out c = turn_long c.requires c.loop-h.invariant (omega arith)

pub returns : goal.returns
returns c g S e = below_all (c.loop-h.invariant g S (omega arith)) (omega arith)
