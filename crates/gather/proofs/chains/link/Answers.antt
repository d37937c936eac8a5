-- What is read is the set's player, the sequence that leads to it, and the head of its chain.
use native.Mathlib.Omega.{arith}
use Rattle.gather.proofs.ChainLaws.{heads_are, lead_is, head_in, link_apart, linked}
use Rattle.gather.proofs.chains.link.Goals as goal

pub number-next-requires : goal.number-next-requires
number-next-requires c =
    let some = c.requires in
    let N = some.numbered in
    let v = some.has in
    omega (arith, (head_in N v (heads_are N v c.owner.ensures c.head_section-heads.ensures) (lead_is N v c.number-lead.ensures.0)).1, N.decoded.room)

pub put-requires-2 : goal.put-requires-2
put-requires-2 c =
    let some = c.requires in
    let N = some.numbered in
    let v = some.has in
    let i = head_in N v (heads_are N v c.owner.ensures c.head_section-heads.ensures) (lead_is N v c.number-lead.ensures.0) in
    (omega (arith, i.1, N.decoded.room, c.put.auto.numbers), omega (arith, v, N.decoded.few_sets))

pub returns : goal.returns
returns c =
    let some = c.requires in
    let whose = c.owner.ensures in
    let heads = c.head_section-heads.ensures in
    let lead = c.number-lead.ensures.0 in
    let first = c.put.ensures in
    let second = c.put-2.ensures in
    let M = some.numbered in
    let u = some.has in
    (link_apart M u _ _ _ (heads_are M u whose heads) (lead_is M u lead) first second, λ g v N C. linked N v _ _ _ (heads_are N v whose heads) (lead_is N v lead) first second C c.number-next.ensures.0)
