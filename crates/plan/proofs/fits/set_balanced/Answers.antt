-- The sections tell whose the set is and where its weights stand.
use native.Mathlib.Omega.{arith}
use lib.ListN.{length}
use Rattle.loaded.proofs.SetsRead.{Stand}
use Rattle.plan.proofs.Balance.{weights_stand, balance_is, other_set}
use Rattle.plan.proofs.fits.set_balanced.Goals as goal
use Rattle.plan.proofs.fits.set_balanced.Goals.{After-set_sequences-set}

stands : (c : After-set_sequences-set) → Stand (length c.args.x.now) c.set_sequences-set.result
stands c = weights_stand c.owner.result c.args.player c.requires c.owner.ensures c.if-eq.ensures c.set_sequences-set.ensures

pub returns-then-eq : goal.returns-then-eq
returns-then-eq c g sets l = balance_is sets l c.owner.result c.args.player c.owner.ensures c.if-eq.ensures c.set_sequences-set.ensures c.args.x.now c.moves_total.ensures c.number.ensures.0

pub returns : goal.returns
returns c g sets l = other_set sets l c.owner.result c.args.player c.owner.ensures c.args.x.now c.if-eq.ensures

pub moves_total-requires : goal.moves_total-requires
moves_total-requires c = ((stands c).few, (stands c).block)

pub number-requires : goal.number-requires
number-requires c = omega (arith, (stands (goal.at.number-requires c).After-set_sequences-set).below)
