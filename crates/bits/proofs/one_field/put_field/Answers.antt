use Prim.Native.Nat.{◌+◌, ◌-◌}
use mathlib.Core.Path.{◌≡◌, ap, ◌∙◌}
use native.Mathlib.Omega.{arith}
use lib.ListN.{length}
use Rattle.bits.proofs.Puts.{length_put, field_none, field_more}
use Rattle.bits.proofs.one_field.put_field.Goals as goal
use Rattle.bits.proofs.one_field.put_field.Goals.{At-loop-done}

long : (c : At-loop-done) → length c.loop-done.out ≡ length c.args.out.now
long c = ap length c.loop-done.invariant.1 ∙ length_put _ _ _

pub loop-done-preserved : goal.loop-done-preserved
loop-done-preserved c =
    let a = c.args in
    let count = c.min-count.result in
    let less : a.width - c.loop-done.done - count ≡ a.width - (c.loop-done.done + count) = omega arith in
    let more = field_more a.out.now c.loop-done.out a.at c.loop-done.done (a.width - c.loop-done.done) count a.number c.loop-done.invariant.1 (omega arith) (omega arith) (omega (arith, long (goal.at.loop-done-preserved c).At-loop-done)) (omega arith) in
    (omega arith, rw (c.part_put.ensures, c.power.ensures, ← less) more)

pub loop-done-init : goal.loop-done-init
loop-done-init c = (omega arith, field_none _ _ _)
