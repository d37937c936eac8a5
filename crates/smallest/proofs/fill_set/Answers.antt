use native.Mathlib.Omega.{arith}
use Rattle.smallest.proofs.SetFills.{done_none, done_all, done_stop, done_more, next_proper, next_small}
use Rattle.smallest.proofs.fill_set.Goals as goal

pub loop-m-init : goal.loop-m-init
loop-m-init c = done_none c.requires

pub common_multiple-requires : goal.common_multiple-requires
common_multiple-requires c = let within = c.loop-m.invariant.within in (within.some, omega (arith, within.most, within.small), (next_proper c.requires c.loop-m.invariant (omega arith) c.number.ensures.0 c.extended-next.ensures).small)

pub returns-in_err-common : goal.returns-in_err-common
returns-in_err-common c = rw c.from_residual.ensures (done_stop c.requires c.loop-m.invariant (omega arith) c.number.ensures.0 c.extended-next.ensures c.common_multiple.ensures c.in_err-common.was)

pub put-requires : goal.put-requires
put-requires c = (omega (arith, c.loop-m.invariant.numerators_apart.long, c.requires.in_numerators), (next_small c.requires c.loop-m.invariant (omega arith) c.number.ensures.0 c.extended-next.ensures c.common_multiple.ensures c.in_ok-common.was).0)

pub put-requires-in-loop-m : goal.put-requires-in-loop-m
put-requires-in-loop-m c = (omega (arith, c.loop-m.invariant.denominators_apart.long, c.requires.in_denominators), (next_small c.requires c.loop-m.invariant (omega arith) c.number.ensures.0 c.extended-next.ensures c.common_multiple.ensures c.in_ok-common.was).1)

pub loop-m-preserved : goal.loop-m-preserved
loop-m-preserved c = done_more c.requires c.loop-m.invariant (omega arith) c.number.ensures.0 c.extended-next.ensures c.common_multiple.ensures c.in_ok-common.was c.put.ensures c.put-in-loop-m.ensures

pub returns : goal.returns
returns c = done_all c.requires c.loop-m.invariant (omega arith)
