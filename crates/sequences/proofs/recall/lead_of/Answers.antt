-- The own number of the set's player at the set's first node.
use native.Mathlib.Omega.{arith}
use Rattle.loaded.specs.Players.{as_player}
use Rattle.sequences.proofs.Leading.{first_in_nodes, lead_read}
use Rattle.sequences.proofs.Stored.{own_range}
use Rattle.sequences.proofs.recall.lead_of.Goals as goal

pub number-requires : goal.number-requires
number-requires c =
    let q = c.requires in
    let own = c.own_section.ensures in
    omega (arith, own, own_range (as_player c.owner-player.result), first_in_nodes q.2 q.1 c.owner-player.ensures own c.number-first.ensures.0, q.2.decoded.room, q.2.decoded.few_nodes)

pub returns : goal.returns
returns c = (
  c.number.ensures.1,
  λ g l F. lead_read F l c.owner-player.ensures c.own_section.ensures c.number-first.ensures.0 c.number.ensures.0,
)
