-- The denominator is written first, and the run after it.
use native.Mathlib.Omega.{arith}
use lib.ListN.{length-set}
use Rattle.plan.proofs.WeightRuns.{decoded}
use Rattle.plan.proofs.weights.decode.Goals as goal

pub read_run-requires : goal.read_run-requires
read_run-requires c =
    (omega arith, omega (arith, c.weight_at-at.ensures), omega (arith, c.requires.3, length-set c.args.out.now 0 c.args.denominator))

pub returns : goal.returns
returns c =
    let a = c.args in
    decoded a.plan.now a.denominator a.run.before a.run.count a.out.now (rw c.weight_at-at.ensures at c.read_run.ensures) c.requires.3

pub shape_of-out : goal.shape_of-out
shape_of-out c = let a = c.args in omega (arith, c.read_run.auto, length-set a.out.now 0 a.denominator)
