-- The move of a set of the player's is put at its place; any other set leaves the buffer as it was.
use mathlib.Core.Path.{refl}
use native.Mathlib.Omega.{arith}
use Rattle.judgement.proofs.OwnSets.{next_own, next_other, put_own, put_other}
use Rattle.judgement.proofs.strategy.put_move.Goals as goal

-- there is a place for it
pub bounds-out-at : goal.bounds-out-at
bounds-out-at c =
    omega (arith, c.requires.2, next_own c.args.numbers.now c.owner.result c.args.player c.args.h c.owner.ensures c.args.at c.if-eq.ensures)

pub returns-then-eq : goal.returns-then-eq
returns-then-eq c =
    let own = c.if-eq.ensures in
    (next_own _ _ _ _ c.owner.ensures _ own, put_own _ _ _ _ c.owner.ensures _ _ _ _ _ refl own (bounds-out-at c) refl)

pub returns : goal.returns
returns c = (next_other _ _ _ _ c.owner.ensures _ c.if-eq.ensures, put_other _ _ _ _ c.owner.ensures _ _ _ c.if-eq.ensures)
