use native.Mathlib.Omega.{arith}
use Rattle.checks.proofs.Passes.{passed_none, passed_more, passed_not, passed_all}
use Rattle.sequences.proofs.Recalls.{recall_by_tests}
use Rattle.sequences.proofs.recall.perfect_recall.Goals as goal

pub loop-n-preserved : goal.loop-n-preserved
loop-n-preserved c g e F = passed_more _ _ _ _ (c.loop-n.invariant g e F) (omega (arith, e)) (c.recalls.ensures g (omega (arith, e)) F) c.if-not-recalls.false

pub returns-then-not-recalls : goal.returns-then-not-recalls
returns-then-not-recalls c g e F = rw (recall_by_tests g F.rooted) (passed_not _ _ _ _ _ (omega (arith, e)) (c.recalls.ensures g (omega (arith, e)) F) c.if-not-recalls.true)

pub returns : goal.returns
returns c g e F = rw (recall_by_tests g F.rooted) (passed_all _ _ _ _ (c.loop-n.invariant g e F) (omega (arith, e)))

pub loop-n-init : goal.loop-n-init
loop-n-init c g e F = passed_none _ _
