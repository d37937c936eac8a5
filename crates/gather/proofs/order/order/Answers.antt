use native.Mathlib.Omega.{arith}
use Rattle.gather.proofs.Numbered.{numbered_apart}
use Rattle.gather.proofs.GatheringLaws.{gathering_none, gathering_more}
use Rattle.gather.proofs.OrderLaws.{order_none, order_all}
use Rattle.gather.proofs.order.order.Goals as goal

pub add_set-count-requires : goal.add_set-count-requires
add_set-count-requires c =
    let some = c.requires in
    let T = c.loop-n.invariant in
    (T.few, record { game = some.game; has = omega (arith, some.has); numbered = numbered_apart some.numbered T.apart (omega arith) })

pub returns : goal.returns
returns c =
    let T = c.loop-n.invariant in
    (T.apart, λ g e N. order_all g _ _ N (T.held g e N) (omega (arith, T.some, e)))

pub loop-n-init : goal.loop-n-init
loop-n-init c = gathering_none (λ g N. order_none g _ N)

pub loop-n-preserved : goal.loop-n-preserved
loop-n-preserved c = gathering_more c.loop-n.invariant c.loop-n-test.true c.add_set-count.ensures (omega arith)
