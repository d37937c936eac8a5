-- At the root the number is 0; elsewhere it is that of the player's move at the parent, or the parent's own, stored or not.
use Prim.Native.Nat.{ℕ, ◌<◌}
use mathlib.Core.Path.{sym}
use native.Mathlib.Omega.{arith}
use lib.Dec.{T}
use Rattle.model.specs.Game.{Game}
use Rattle.model.specs.Sequences.{acts}
use Rattle.loaded.specs.Players.{as_player}
use Rattle.loaded.proofs.Owners.{is_owner, not_owner}
use Rattle.sequences.specs.Recall.{OwnStored}
use Rattle.sequences.proofs.Nodes.{Decision, no_decision, own_decision, other_decision, decision_of, no_set}
use Rattle.sequences.proofs.Own.{number_root, parent_below, parent_in, number_made, number_walked, number_stored}
use Rattle.sequences.proofs.recall.+last_own_move.Goals as goal
use Rattle.sequences.proofs.recall.+last_own_move.Goals.{In-Some, Joined-set_of, in-Some+else-eq, in_default}

-- a parent that is a decision, of the set that is read
decision : {t : ℕ} (c : In-Some t) (g : Game) → c.args.n < g.nodes → OwnStored g (as_player c.args.player) c.args.stored c.args.numbers.now → Decision g c.number-parent.result c.in-Some.set
decision c g l S =
    let v = parent_in S c.if-n-eq-ROOT.false l c.number-parent.ensures.0 in
    decision_of (c.set_of.ensures g v S.decoded) S.rooted v c.in-Some.is

-- past the test of the parent, the player does not move there
waits : {t : ℕ} (c : Joined-set_of t) (g : Game) → c.args.n < g.nodes → OwnStored g (as_player c.args.player) c.args.stored c.args.numbers.now → ¬ T (acts g (as_player c.args.player) c.number-parent.result)
waits c g l S =
    let v = parent_in S c.if-n-eq-ROOT.false l c.number-parent.ensures.0 in
    let asked = c.set_of.ensures g v S.decoded in
    elim c.match-set_of.branch [
      | in-Some+else-eq w ↦ let D = decision_of asked S.rooted v w.in-Some.is in other_decision D _ (not_owner g S.decoded.sets_decoded.players D.below _ _ w.owner.ensures w.if-eq.ensures)
      | in_default w ↦ no_decision g _ _ (no_set g _ asked w.in_default.is)
    ]

pub returns-then-n-eq-ROOT : goal.returns-then-n-eq-ROOT
returns-then-n-eq-ROOT t c = λ g l S. rw c.if-n-eq-ROOT.true (sym (number_root g _))

pub set_of-requires : goal.set_of-requires
set_of-requires t c =
    let q = c.requires in
    omega (arith, parent_in q.2 c.if-n-eq-ROOT.false q.1 c.number-parent.ensures.0, q.2.decoded.room, q.2.decoded.few_nodes)

pub owner-requires : goal.owner-requires
owner-requires t c =
    let q = c.requires in
    omega (arith, (decision (goal.at.owner-requires t c).In-Some q.0 q.1 q.2).below, q.2.decoded.room, q.2.decoded.few_sets)

pub number-start-requires : goal.number-start-requires
number-start-requires t c =
    let q = c.requires in
    omega (arith, (decision (goal.at.number-start-requires t c).In-Some q.0 q.1 q.2).below, q.2.decoded.room, q.2.decoded.few_sets)

pub returns-then-eq : goal.returns-then-eq
returns-then-eq t c = λ g l S.
    let D = decision (goal.at.returns-then-eq t c).In-Some g l S in
    let moves = own_decision D _ (is_owner g S.decoded.sets_decoded.players D.below _ _ c.owner.ensures c.if-eq.ensures) in
    number_made S c.if-n-eq-ROOT.false l c.number-parent.ensures.0 D moves c.number-start.ensures.0 c.number-place.ensures.0

pub returns-then-parent-stored : goal.returns-then-parent-stored
returns-then-parent-stored t c = λ g l S.
    number_stored S c.if-n-eq-ROOT.false l c.number-parent.ensures.0 (waits (goal.at.returns-then-parent-stored t c).Joined-set_of g l S) c.if-parent-stored.true c.own_section.ensures c.number.ensures.0

pub last_own_move-requires : goal.last_own_move-requires
last_own_move-requires t c =
    let q = c.requires in
    let z = c.if-n-eq-ROOT.false in
    let e = c.number-parent.ensures.0 in
    (omega (arith, c.decreases, parent_below q.2 z q.1 e), (q.0, parent_in q.2 z q.1 e, q.2))

pub returns : goal.returns
returns t c = λ g l S.
    let e = c.number-parent.ensures.0 in
    let z = c.if-n-eq-ROOT.false in
    number_walked S z l e (waits (goal.at.returns t c).Joined-set_of g l S) (c.last_own_move.ensures g (parent_in S z l e) S)
