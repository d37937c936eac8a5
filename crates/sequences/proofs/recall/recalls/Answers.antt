-- At a decision the own number there is compared with that of the sequence that leads to its set; elsewhere the test passes.
use Prim.Native.Nat.{◌<◌}
use native.Mathlib.Omega.{arith}
use Rattle.model.specs.Game.{Game}
use Rattle.sequences.specs.Recall.{OwnFilled}
use Rattle.sequences.proofs.Nodes.{Decision, decision_of, no_set}
use Rattle.sequences.proofs.Leading.{own_read}
use Rattle.sequences.proofs.Recalls.{recall_none, recall_here}
use Rattle.sequences.proofs.recall.recalls.Goals as goal
use Rattle.sequences.proofs.recall.recalls.Goals.{In-Some}

-- the node is a decision of the set that is read
decision : (c : In-Some) (g : Game) → c.args.n < g.nodes → OwnFilled g c.args.numbers.now → Decision g c.args.n c.in-Some.set
decision c g l F = decision_of (c.set_of.ensures g l F.decoded) F.rooted l c.in-Some.is

pub owner-player-requires : goal.owner-player-requires
owner-player-requires c =
    let q = c.requires in
    omega (arith, (decision (goal.at.owner-player-requires c).In-Some q.0 q.1 q.2).below, q.2.decoded.room, q.2.decoded.few_sets)

pub lead_of-lead-requires : goal.lead_of-lead-requires
lead_of-lead-requires c =
    let q = c.requires in
    (q.0, (decision (goal.at.lead_of-lead-requires c).In-Some q.0 q.1 q.2).below, q.2)

pub returns : goal.returns
returns c g l F =
    let D = decision (goal.at.returns c).In-Some g l F in
    recall_here g D (own_read F D.below c.owner-player.ensures c.own_section.ensures l c.number-own.ensures.0) (c.lead_of-lead.ensures.1 g D.below F)

pub returns-in_default : goal.returns-in_default
returns-in_default c g l F = recall_none g _ (no_set g _ (c.set_of.ensures g l F.decoded) c.in_default.is)
