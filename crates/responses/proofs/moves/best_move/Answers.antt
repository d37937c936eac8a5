use Prim.Native.Nat.{◌+◌}
use mathlib.Core.Path.{◌≡◌}
use native.Mathlib.Omega.{arith}
use borrow.Author.Rules.{sfits_of}
use mir.Syntax.{w64}
use mir.Facts.{to_z-of_z}
use Rattle.algebra.specs.Arrays.{item_z}
use Rattle.responses.specs.BestMoves.{best_stored}
use Rattle.responses.proofs.Greatest.{foremost_one, foremost_new, foremost_old, foremost_is}
use Rattle.responses.proofs.moves.best_move.Goals as goal
use Rattle.responses.proofs.moves.best_move.Goals.{then-worths-start, else-worths-start}

pub loop-m-preserved : goal.loop-m-preserved
loop-m-preserved c =
    let p = c.loop-m in
    let a = c.args in
    let x = to_z-of_z {w = w64} {z = item_z a.worths.now (a.start + p.best)} (sfits_of c.t10-1.given) in
    let y = to_z-of_z {w = w64} {z = item_z a.worths.now (a.start + p.m)} (sfits_of c.t14-1.given) in
    elim c.if-worths-start.branch [
      | then-worths-start w ↦ rw w.best-is (foremost_new _ p.invariant (rw (x, y) at w.if-worths-start.true))
      | else-worths-start w ↦ rw w.best-is (foremost_old _ p.invariant (rw (x, y) at w.if-worths-start.false))
    ]

pub returns : goal.returns
unfolding best_stored
returns c =
    let p = c.loop-m in
    let e : p.m ≡ c.args.count = omega arith in
    foremost_is _ _ _ (rw e at p.invariant)

pub loop-m-init : goal.loop-m-init
loop-m-init c = foremost_one _

pub bounds-worths-start : goal.bounds-worths-start
bounds-worths-start c = omega (arith, c.loop-m.invariant.inside)

pub overflow_cast-result : goal.overflow_cast-result
overflow_cast-result c = omega (arith, c.loop-m.invariant.inside)
