use native.Mathlib.Omega.{arith}
use Rattle.algebra.proofs.Arrays.{placing_none, placing_more, placing_all}
use Rattle.model.specs.Bits.{fields}
use Rattle.bits.proofs.runs.read_run.Goals as goal
use Rattle.bits.proofs.runs.read_run.Goals.{At-loop-i, In-loop-i}

pub returns : goal.returns
unfolding fields
returns c = placing_all _ _ _ _ _ _ c.loop-i.invariant (omega arith)

pub loop-i-init : goal.loop-i-init
loop-i-init c = placing_none _ _ _ _

pub loop-i-preserved : goal.loop-i-preserved
loop-i-preserved c = placing_more _ _ _ _ _ _ _ c.loop-i.invariant (omega arith) (omega arith) c.read_field.ensures.0
