use Prim.Native.Nat.{◌*◌, ◌/◌, ◌≤◌}
use native.Mathlib.Omega.{arith}
use Rattle.algebra.proofs.Fillings.{filling_none, filling_more, filling_long, filling_all}
use Rattle.model.specs.Limits.{weight_limit}
use Rattle.smallest.proofs.Lowest.{share_most}
use Rattle.smallest.proofs.scale.Goals as goal
use Rattle.smallest.proofs.scale.Goals.{After-from-in-loop-k}

-- the weight is not above `d`
most : (c : After-from-in-loop-k) → c.args.d / c.from.result * c.from-in-loop-k.result ≤ weight_limit
most c =
    let k = c.loop-k.k in
    omega (arith, share_most c.args.d c.from-in-loop-k.result c.from.result (omega (arith, c.from-in-loop-k.ensures, c.from.ensures, c.requires.most k (omega arith))), c.requires.small)

pub loop-k-preserved : goal.loop-k-preserved
loop-k-preserved c =
    filling_more 0 _ _ _ c.loop-k.k _ _ c.loop-k.invariant (omega arith) c.requires.in_weights (rw (c.from.ensures, c.from-in-loop-k.ensures))

pub loop-k-init : goal.loop-k-init
loop-k-init c = filling_none 0 _ _ _

pub nonzero_div-share : goal.nonzero_div-share
nonzero_div-share c = rw c.from.ensures (c.requires.some c.loop-k.k (omega arith))

pub overflow_mul-x : goal.overflow_mul-x
overflow_mul-x c = record { fits = omega (arith, most c) }

pub overflow_cast-x : goal.overflow_cast-x
overflow_cast-x c = record { fits = omega (arith, most c) }

pub bounds-x-k : goal.bounds-x-k
bounds-x-k c = omega (arith, filling_long 0 _ _ _ _ _ c.loop-k.invariant c.requires.in_weights, c.requires.in_weights)

pub shape_of-x : goal.shape_of-x
shape_of-x c = filling_long 0 _ _ _ _ _ c.loop-k.invariant c.requires.in_weights

pub returns : goal.returns
returns c = filling_all 0 _ _ _ _ _ c.loop-k.invariant (omega arith)
