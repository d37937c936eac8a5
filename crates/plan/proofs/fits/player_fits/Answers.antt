use native.Mathlib.Omega.{arith}
use Rattle.model.specs.Plan.{fits}
use Rattle.checks.specs.declared.Refusal.TheVariants.{PlanUnfit}
use Rattle.checks.proofs.Passes.{passed_none, passed_more, passed_not, passed_all}
use Rattle.plan.proofs.Balance.{asked_less}
use Rattle.plan.proofs.fits.player_fits.Goals as goal

pub loop-h-init : goal.loop-h-init
loop-h-init c g sets e = passed_none _ _

pub set_balanced-requires : goal.set_balanced-requires
set_balanced-requires c = asked_less c.requires c.loop-h.h (omega arith)

pub loop-h-preserved : goal.loop-h-preserved
loop-h-preserved c g sets e = passed_more _ _ _ _ (c.loop-h.invariant g sets e) (omega arith) (c.set_balanced.ensures g sets (omega arith)) c.if-not-set_balanced.false

pub returns-then-not-set_balanced : goal.returns-then-not-set_balanced
unfolding fits
returns-then-not-set_balanced c g sets e = passed_not _ _ PlanUnfit _ _ (omega arith) (c.set_balanced.ensures g sets (omega arith)) c.if-not-set_balanced.true

pub returns : goal.returns
unfolding fits
returns c g sets e = passed_all _ _ PlanUnfit _ (c.loop-h.invariant g sets e) (omega arith)
