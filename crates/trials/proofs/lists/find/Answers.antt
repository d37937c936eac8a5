-- The byte there is the one, or it is not and stands later, or none is left.
use Rattle.std.proofs.Common.{◌≡◌, arith, sym, ◌∙◌, eq-eqb, ne_eqb, length}
use Rattle.trials.proofs.Scans.{place_end, place_here, place_later}
use Rattle.trials.proofs.lists.find.Goals as goal

pub returns-then-text-at : goal.returns-then-text-at
returns-then-text-at c = (sym (c.loop-at.invariant ∙ place_here _ _ _ (omega arith) (eq-eqb _ _ c.if-text-at.true)), omega arith, omega arith)

pub loop-at-preserved : goal.loop-at-preserved
loop-at-preserved c = c.loop-at.invariant ∙ place_later _ _ _ (omega arith) (ne_eqb _ _ c.if-text-at.false)

pub returns : goal.returns
returns c =
    let all : c.loop-at.at ≡ length c.args.text.now = omega arith in
    (sym (c.loop-at.invariant ∙ place_end _ _ _ (omega arith) ∙ all), omega arith, omega arith)
