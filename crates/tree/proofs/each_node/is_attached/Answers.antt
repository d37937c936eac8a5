-- The model's test is one of the root or of any other node; each way returns what is left of it.
use mathlib.Core.Path.{◌∙◌}
use native.Mathlib.Omega.{arith}
use borrow.Author.Tests.{eq-eqb, ne_eqb}
use Rattle.loaded.proofs.NodeReads.{parent_read, place_read}
use Rattle.tree.proofs.NodeTests.{set_there, attached_root, attached_not, attached_at}
use Rattle.tree.proofs.each_node.is_attached.Goals as goal

pub returns-then-parent-eq0 : goal.returns-then-parent-eq0
returns-then-parent-eq0 c = λ g l D t.
    rw (attached_root g _ (c.number-parent.ensures.0 ∙ parent_read D l) (c.number-place.ensures.0 ∙ place_read D l) c.if-n-eq-ROOT.true, eq-eqb _ 0 c.if-parent-eq0.true)

pub returns-else-parent-eq0 : goal.returns-else-parent-eq0
returns-else-parent-eq0 c = λ g l D t.
    rw (attached_root g _ (c.number-parent.ensures.0 ∙ parent_read D l) (c.number-place.ensures.0 ∙ place_read D l) c.if-n-eq-ROOT.true, ne_eqb _ 0 c.if-parent-eq0.false)

pub returns-then-n-parent : goal.returns-then-n-parent
returns-then-n-parent c = λ g l D t. attached_not g _ c.if-n-eq-ROOT.false (c.number-parent.ensures.0 ∙ parent_read D l) (omega (arith, c.if-n-parent.true))

pub move_count-requires : goal.move_count-requires
move_count-requires c = let pre = c.requires in (pre.0, pre.2, set_there pre.3 (omega arith))

pub returns : goal.returns
returns c =
    λ g l D t. attached_at g _ c.if-n-eq-ROOT.false (c.number-parent.ensures.0 ∙ parent_read D l) (c.number-place.ensures.0 ∙ place_read D l) (omega (arith, c.if-n-parent.false)) (c.move_count.ensures g D (set_there t (omega arith)))
