use Prim.Native.Nat.{◌+◌}
use mathlib.Core.Path.{◌≡◌, refl}
use native.Mathlib.Numerals.{add-one}
use native.Mathlib.Omega.{arith}
use Rattle.algebra.specs.Arrays.{item}
use Rattle.algebra.specs.Bounded.{total_to}
use Rattle.algebra.proofs.Totals.{count_suc, count_bound}
use Rattle.plan.proofs.fits.moves_total.Goals as goal

-- with the next number the sum is that of at most 64 numbers of 16 bits
pub overflow_add-sum : goal.overflow_add-sum
overflow_add-sum c = omega (arith, c.loop-m.invariant, count_bound c.loop-m.m 65535 (λ k. item c.args.x.now (c.args.start + k)) (λ k _. omega (arith, c.type_inv.x (c.args.start + k))))

pub loop-m-init : goal.loop-m-init
unfolding total_to
loop-m-init c = refl

pub loop-m-preserved : goal.loop-m-preserved
loop-m-preserved c = rw add-one (omega (arith, count_suc c.loop-m.m (λ k. item c.args.x.now (c.args.start + k))))

pub returns : goal.returns
returns c = let e : c.loop-m.m ≡ c.args.moves = omega arith in rw e at c.loop-m.invariant
