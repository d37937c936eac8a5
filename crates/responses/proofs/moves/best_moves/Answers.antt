use Prim.Native.Nat.{◌≤◌}
use mathlib.Core.Path.{◌≡◌}
use native.Mathlib.Omega.{arith}
use lib.ListN.{length}
use Rattle.algebra.proofs.Fillings.{filling_none, filling_more, filling_all}
use Rattle.loaded.proofs.Sides.{sets_counted}
use Rattle.responses.proofs.moves.best_moves.Goals as goal
use Rattle.responses.proofs.moves.best_moves.Goals.{Start}

-- there is room for each set's
room : (s : Start) → (s.args.counts.sets ≡ s.requires.0.game.sets) × (s.args.counts.sets ≤ length s.args.moves.now)
room s =
    let Q = s.requires.0 in
    let e = sets_counted Q.game Q.held.loaded.counts_are in
    (e, omega (arith, e, Q.held.loaded.limits.sets, s.requires.1))

pub best_of-requires : goal.best_of-requires
best_of-requires c =
    record { counts = c.args.counts; asked = c.requires.0; is_set = omega (arith, (room (goal.at.best_of-requires c).Start).0) }

pub loop-h-preserved : goal.loop-h-preserved
loop-h-preserved c g y W = filling_more 0 _ _ _ _ _ _ (c.loop-h.invariant g y W) (omega arith) (room (goal.at.loop-h-preserved c).Start).1 (c.best_of.ensures c.args.counts g y W (omega (arith, sets_counted g W.loaded.counts_are)))

pub loop-h-init : goal.loop-h-init
loop-h-init c g y W = filling_none 0 _ _ _

pub offset_bounds-moves-h : goal.offset_bounds-moves-h
offset_bounds-moves-h c = omega (arith, (room (goal.at.offset_bounds-moves-h c).Start).1)

pub bounds-moves-h : goal.bounds-moves-h
bounds-moves-h c = omega (arith, (room (goal.at.bounds-moves-h c).Start).1)

pub returns : goal.returns
returns c g y W = let e = sets_counted g W.loaded.counts_are in
    rw e at (filling_all 0 _ _ _ _ _ (c.loop-h.invariant g y W) (omega arith))
