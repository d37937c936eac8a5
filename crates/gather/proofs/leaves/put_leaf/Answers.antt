-- Three numbers are read and put into three sections.
use Rattle.gather.proofs.LeafLaws.{leaf_apart, leaf_put_lem}
use Rattle.gather.proofs.leaves.put_leaf.Goals as goal

pub returns : goal.returns
returns c =
    let few = c.requires.1 in
    let first = c.put.ensures in
    let second = c.put-2.ensures in
    let third = c.put-3.ensures in
    (leaf_apart _ _ _ _ first second third few, λ g v kind N L. leaf_put_lem _ _ _ _ first second third few g _ v kind c.number-own1.ensures.0 c.number-own2.ensures.0 c.number-weight.ensures.0 N L)
