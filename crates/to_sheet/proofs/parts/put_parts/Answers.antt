use mathlib.Core.Path.{◌≡◌}
use native.Mathlib.Omega.{arith}
use lib.ListN.{length}
use Rattle.algebra.proofs.Arrays.{placing_none, placing_more, placing_long, placing_all}
use Rattle.to_sheet.proofs.Dividing.{weight_part}
use Rattle.to_sheet.proofs.parts.put_parts.Goals as goal
use Rattle.to_sheet.proofs.parts.put_parts.Goals.{At-loop-m}

long : (c : At-loop-m) → length c.loop-m.out ≡ length c.args.out.now
long c = placing_long _ _ _ _ _ _ c.loop-m.invariant (omega arith)

pub loop-m-preserved : goal.loop-m-preserved
loop-m-preserved c = placing_more _ _ _ _ _ _ _ c.loop-m.invariant (omega arith) (omega arith) (weight_part c.args.divisor c.number.ensures.0 c.part.ensures)

pub loop-m-init : goal.loop-m-init
loop-m-init c = placing_none _ _ _ _

pub overflow_add-out : goal.overflow_add-out
overflow_add-out c = omega (arith, long (goal.at.overflow_add-out c).At-loop-m)

pub offset_bounds-out-at : goal.offset_bounds-out-at
offset_bounds-out-at c = omega (arith, long (goal.at.offset_bounds-out-at c).At-loop-m)

pub bounds-out-at : goal.bounds-out-at
bounds-out-at c = omega (arith, long (goal.at.bounds-out-at c).At-loop-m)

pub shape_of-out : goal.shape_of-out
shape_of-out c = long (goal.at.shape_of-out c).At-loop-m

pub returns : goal.returns
returns c = placing_all _ _ _ _ _ _ c.loop-m.invariant (omega arith)
