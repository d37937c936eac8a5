use mathlib.Core.Path.{◌∙◌}
use native.Mathlib.Omega.{arith}
use Rattle.algebra.proofs.Arrays.{placing_none, placing_more, placing_all}
use Rattle.bits.proofs.Bytes.{run_bytes}
use Rattle.bits.proofs.runs.put_run.Goals as goal
use Rattle.bits.proofs.runs.put_run.Goals.{At-loop-j}

pub returns : goal.returns
returns c =
    let a = c.args in
    placing_all _ _ _ _ _ _ c.loop-j.invariant (omega arith) ∙ rw (run_bytes a.width a.numbers.now)

pub loop-j-init : goal.loop-j-init
loop-j-init c = placing_none _ _ _ _

pub loop-j-preserved : goal.loop-j-preserved
loop-j-preserved c = placing_more _ _ _ _ _ _ _ c.loop-j.invariant (omega arith) (omega arith) c.run_byte.ensures
