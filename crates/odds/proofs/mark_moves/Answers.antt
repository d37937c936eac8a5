use Prim.Native.Nat.{◌<◌}
use mathlib.Core.Bool.{cond}
use mathlib.Core.Path.{◌≡◌, ap, ◌∙◌}
use native.Mathlib.Omega.{arith}
use lib.Dec.{ltb}
use Rattle.algebra.proofs.Sections.{held_none, held_more, apart_none, apart_set}
use Rattle.odds.proofs.Marks.{mark_small}
use Rattle.odds.proofs.mark_moves.Goals as goal
use Rattle.odds.proofs.mark_moves.Goals.{After-mark-marked}

-- the mark that is put is a number of 16 bits
small : (c : After-mark-marked) → c.mark-marked.result < 65536
small c = rw c.mark-marked.ensures (mark_small (ltb 0 c.number.result) c.args.before c.requires.2)

pub loop-m-preserved : goal.loop-m-preserved
loop-m-preserved c =
    let inv = c.loop-m.invariant in
    let put = c.put.ensures in
    let a = c.args in
    let is = c.mark-marked.ensures ∙ ap (λ k. cond (ltb 0 k) a.before 0) c.number.ensures.0 in
    (held_more _ inv.0 (omega (arith, inv.1.long)) put is, apart_set _ _ inv.1 put (omega arith) (omega arith))

pub returns : goal.returns
returns c =
    let inv = c.loop-m.invariant in
    let e : c.loop-m.m ≡ c.args.set.moves = omega arith in
    (rw e at inv.0, inv.1)

pub loop-m-init : goal.loop-m-init
loop-m-init c = (held_none _ (omega (arith, c.requires.1)), apart_none)

pub put-requires : goal.put-requires
put-requires c = (omega (arith, c.loop-m.invariant.1.long, c.requires.1), small (goal.at.put-requires c).After-mark-marked)
