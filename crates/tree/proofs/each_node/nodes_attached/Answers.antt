use native.Mathlib.Omega.{arith}
use Rattle.model.specs.GameChecks.{nodes_attached_of}
use Rattle.checks.proofs.Passes.{passed_none, passed_more, passed_not, passed_all}
use Rattle.tree.proofs.each_node.nodes_attached.Goals as goal

pub is_attached-requires : goal.is_attached-requires
is_attached-requires c = let pre = c.requires in (pre.0, omega arith, pre.2, pre.3)

pub loop-n-preserved : goal.loop-n-preserved
loop-n-preserved c = λ g e D t. passed_more _ _ _ _ (c.loop-n.invariant g e D t) (omega arith) (c.is_attached.ensures g (omega arith) D t) c.if-not-is_attached.false

pub returns-then-not-is_attached : goal.returns-then-not-is_attached
unfolding nodes_attached_of
returns-then-not-is_attached c = λ g e D t. passed_not _ _ _ _ _ (omega arith) (c.is_attached.ensures g (omega arith) D t) c.if-not-is_attached.true

pub returns : goal.returns
unfolding nodes_attached_of
returns c = λ g e D t. passed_all _ _ _ _ (c.loop-n.invariant g e D t) (omega arith)

pub loop-n-init : goal.loop-n-init
loop-n-init c g e D t = passed_none _ _
