use native.Mathlib.Omega.{arith}
use Rattle.to_sheet.proofs.Dividing.{dividing_none, dividing_more, dividing_all}
use Rattle.to_sheet.proofs.parts.set_divisor.Goals as goal

pub loop-m-init : goal.loop-m-init
loop-m-init c = dividing_none _ _

pub loop-m-preserved : goal.loop-m-preserved
loop-m-preserved c = dividing_more _ _ _ _ c.loop-m.invariant (omega arith) c.number.ensures.0 c.gcd-divisor.ensures

pub returns : goal.returns
returns c = dividing_all _ _ _ _ c.loop-m.invariant (omega arith)
