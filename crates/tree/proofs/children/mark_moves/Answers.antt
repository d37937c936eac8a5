use mathlib.Core.Path.{◌≡◌, sym, ap}
use mathlib.Core.Bool.{false, not}
use native.Mathlib.Omega.{arith}
use Rattle.model.specs.Game.{Game}
use Rattle.checks.specs.declared.Refusal.TheVariants.{MissingMove}
use Rattle.checks.proofs.Passes.{passed_more, passed_not, passed_all}
use Rattle.tree.specs.Games.{TreeIn}
use Rattle.tree.specs.Children.{met}
use Rattle.tree.proofs.Masks.{mask_fits}
use Rattle.tree.proofs.Parents.{Stands, stands}
use Rattle.tree.proofs.Moves.{alone_is, not_met, was_met, digit_more, marked_more, alone_first, marked_first, swept_not}
use Rattle.tree.proofs.children.mark_moves.Goals as goal
use Rattle.tree.proofs.children.mark_moves.Goals.{After-number-place, After-power}

-- what is known of node n once it is read
at_node : (c : After-number-place) (g : Game) → TreeIn c.args.nodes c.args.numbers.now g → Stands g c.number-parent.result c.number-place.result c.loop-n.n
at_node c g t = stands t (omega arith) c.loop-n-test.true c.number-parent.ensures.0 c.number-place.ensures.0

-- of the game that is there
here : (c : After-number-place) → Stands c.requires.0 c.number-parent.result c.number-place.result c.loop-n.n
here c = at_node c c.requires.0 c.requires.1

-- its move was not met before
new : (c : After-power) (g : Game) → TreeIn c.args.nodes c.args.numbers.now g → met g c.loop-n.n c.number-parent.result c.number-place.result ≡ false
new c g t =
    not_met (stands t (omega arith) c.loop-n-test.true c.number-parent.ensures.0 c.number-place.ensures.0) _ (c.loop-n.invariant g t).1 _ c.bit_of.ensures c.if-bit_of-ne0.false

pub loop-n-init : goal.loop-n-init
loop-n-init c g t = ((t.rooted.some_node, alone_first _), marked_first _ _ t.rooted.few_nodes c.requires.2)

pub overflow_add-seen : goal.overflow_add-seen
overflow_add-seen c =
    let pre = c.requires in
    rw (c.power.ensures, digit_more (here (goal.at.overflow_add-seen c).After-number-place) _ (c.loop-n.invariant pre.0 pre.1).1 (new c pre.0 pre.1)) (record { fits = mask_fits 64 _ })

pub loop-n-preserved : goal.loop-n-preserved
loop-n-preserved c = λ g t.
    let s = at_node (goal.at.loop-n-preserved c).After-number-place g t in
    let inv = c.loop-n.invariant g t in
    (passed_more _ _ _ _ inv.0 (omega arith) (sym (alone_is s)) (ap not (new c g t)), rw c.power.ensures (marked_more s _ inv.1 (new c g t)))

pub returns-then-bit_of-ne0 : goal.returns-then-bit_of-ne0
returns-then-bit_of-ne0 c =
    λ g t.
    let s = at_node (goal.at.returns-then-bit_of-ne0 c).After-number-place g t in
    let old = was_met s _ (c.loop-n.invariant g t).1 _ c.bit_of.ensures c.if-bit_of-ne0.true in
    swept_not g _ (passed_not _ _ MissingMove _ _ (omega arith) (sym (alone_is s)) (ap not old))

pub returns : goal.returns
returns c = λ g t.
    let inv = c.loop-n.invariant g t in
    let all : c.loop-n.n ≡ g.nodes = omega arith in
    (passed_all _ _ MissingMove _ inv.0 (omega arith), λ e. rw all at inv.1)

pub bounds-seen-parent : goal.bounds-seen-parent
bounds-seen-parent c = (here (goal.at.bounds-seen-parent c).After-number-place).hangs.near

pub bit_of-requires : goal.bit_of-requires
bit_of-requires c = (here (goal.at.bit_of-requires c).After-number-place).small

pub power-requires : goal.power-requires
power-requires c = (here (goal.at.power-requires c).After-number-place).small

pub bounds-seen-parent-in-loop-n : goal.bounds-seen-parent-in-loop-n
bounds-seen-parent-in-loop-n c = (here (goal.at.bounds-seen-parent-in-loop-n c).After-number-place).hangs.near
