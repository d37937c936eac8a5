use native.Mathlib.Omega.{arith}
use borrow.Author.Tests.{lt-ltb, le-ltb}
use Rattle.model.specs.GameChecks.{sets_non_empty_of}
use Rattle.checks.proofs.Passes.{passed_none, passed_more, passed_not, passed_all}
use Rattle.sequences.proofs.FirstNodes.{has_node}
use Rattle.sequences.proofs.sets.sets_non_empty.Goals as goal

pub loop-h-preserved : goal.loop-h-preserved
loop-h-preserved c g d e F = passed_more _ _ _ _ (c.loop-h.invariant g d e F) (omega (arith, e)) (has_node g _ _ _ F (omega (arith, e)) d c.number-first.ensures.0) (lt-ltb _ _ c.if-nodes-first.false)

pub returns-then-nodes-first : goal.returns-then-nodes-first
unfolding sets_non_empty_of
returns-then-nodes-first c g d e F = passed_not _ _ _ _ _ (omega (arith, e)) (has_node g _ _ _ F (omega (arith, e)) d c.number-first.ensures.0) (le-ltb _ _ c.if-nodes-first.true)

pub returns : goal.returns
unfolding sets_non_empty_of
returns c g d e F = passed_all _ _ _ _ (c.loop-h.invariant g d e F) (omega (arith, e))

pub loop-h-init : goal.loop-h-init
loop-h-init c g d e F = passed_none _ _
