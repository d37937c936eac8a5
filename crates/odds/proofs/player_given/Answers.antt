use mathlib.Core.Path.{refl, ◌∙◌}
use native.Mathlib.Omega.{arith}
use Rattle.loaded.specs.Players.{as_player}
use Rattle.plan.proofs.Refusals.{room}
use Rattle.odds.proofs.Marks.{marked_none, marked_more, marked_not, marked_all, asked_at}
use Rattle.odds.proofs.player_given.Goals as goal

pub loop-i-init : goal.loop-i-init
loop-i-init c = (refl, λ g n odds L e X. marked_none g odds (as_player c.args.player) L.rules c.args.marks.now (room L.rules L.limits (as_player c.args.player) c.args.marks.now c.requires.in_marks) c.put.ensures)

pub loop-i-preserved : goal.loop-i-preserved
loop-i-preserved c =
    let inv = c.loop-i.invariant in
    (c.next_given.auto.marks ∙ inv.0, λ g n odds L e X. marked_more g odds _ (inv.1 g n odds L e X) (omega arith) (c.next_given.ensures g n odds L (omega arith) X (inv.1 g n odds L e X).marks_are) c.if-not-next_given.false)

pub returns-then-not-next_given : goal.returns-then-not-next_given
returns-then-not-next_given c g n odds L e X =
    let inv = c.loop-i.invariant in
    marked_not g odds _ L.rules (omega arith) (c.next_given.ensures g n odds L (omega arith) X (inv.1 g n odds L e X).marks_are) c.if-not-next_given.true

pub returns : goal.returns
returns c g n odds L e X = marked_all g odds _ L.rules (c.loop-i.invariant.1 g n odds L e X) (omega arith)

pub next_given-requires : goal.next_given-requires
next_given-requires c = asked_at c.requires (c.loop-i.invariant.0 ∙ c.put.auto.numbers) (omega arith)
