use Prim.Native.Nat.{ℕ}
use mathlib.Core.Path.{◌≡◌, ap, ◌∙◌}
use native.Mathlib.Omega.{arith}
use lib.ListN.{length}
use Rattle.algebra.specs.Arrays.{item}
use Rattle.algebra.proofs.Arrays.{placing_none, placing_more, placing_long, placing_all}
use Rattle.plan.proofs.order.put_moves.Goals as goal
use Rattle.plan.proofs.order.put_moves.Goals.{At-loop-i}

long : (c : At-loop-i) → length c.loop-i.out ≡ length c.args.out.now
long c = placing_long _ _ _ _ _ _ c.loop-i.invariant (omega arith)

pub loop-i-preserved : goal.loop-i-preserved
loop-i-preserved c = placing_more _ _ _ _ _ _ _ c.loop-i.invariant (omega arith) (omega arith) (c.number.ensures.0 ∙ ap (λ (k : ℕ). item c.args.x.now k) (omega arith))

pub loop-i-init : goal.loop-i-init
loop-i-init c = placing_none _ _ _ _

pub number-requires : goal.number-requires
number-requires c = omega arith

pub overflow_add-out : goal.overflow_add-out
overflow_add-out c = omega (arith, long (goal.at.overflow_add-out c).At-loop-i)

pub offset_bounds-out-run : goal.offset_bounds-out-run
offset_bounds-out-run c = omega (arith, long (goal.at.offset_bounds-out-run c).At-loop-i)

pub bounds-out-run : goal.bounds-out-run
bounds-out-run c = omega (arith, long (goal.at.bounds-out-run c).At-loop-i)

pub shape_of-out : goal.shape_of-out
shape_of-out c = long (goal.at.shape_of-out c).At-loop-i

pub returns : goal.returns
returns c = placing_all _ _ _ _ _ _ c.loop-i.invariant (omega arith)
