use native.Mathlib.Omega.{arith}
use Rattle.gather.proofs.GatheringLaws.{gathering_none, gathering_more}
use Rattle.gather.proofs.LeafLaws.{leaves_none, leaves_all}
use Rattle.gather.proofs.leaves.leaves.Goals as goal

pub add_node-count-requires : goal.add_node-count-requires
add_node-count-requires c =
    let some = c.requires in
    let few = some.numbered.decoded.few_nodes in
    let T = c.loop-n.invariant in
    (omega (arith, some.has, few), omega (arith, some.has, few, T.few), omega (arith, T.apart.long, some.numbered.decoded.room))

pub returns : goal.returns
returns c =
    let T = c.loop-n.invariant in
    (T.apart, λ g e N. leaves_all g _ _ N (T.held g e N) (omega (arith, T.some, e)))

pub loop-n-init : goal.loop-n-init
loop-n-init c = gathering_none (λ g N. leaves_none g _ N)

pub loop-n-preserved : goal.loop-n-preserved
loop-n-preserved c = gathering_more c.loop-n.invariant c.loop-n-test.true c.add_node-count.ensures (omega arith)
