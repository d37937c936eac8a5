-- The set that stands there is read; where it is the player's, its sequences are marked.
use native.Mathlib.Omega.{arith}
use Rattle.loaded.specs.Players.{as_player}
use Rattle.loaded.proofs.SetsRead.{set_stands}
use Rattle.loaded.proofs.SetOrder.{order_set}
use Rattle.plan.proofs.Refusals.{room}
use Rattle.sheets.proofs.OwnSets.{own_set_some, own_set_none}
use Rattle.odds.proofs.Marks.{next_own, next_other}
use Rattle.odds.proofs.next_given.Goals as goal

pub own_set-requires : goal.own_set-requires
own_set-requires c = c.requires.place

-- the set's sequences stand among the player's
pub set_given-requires : goal.set_given-requires
set_given-requires c =
    let A = c.requires.place in
    let p = as_player c.args.player in
    let own = own_set_some A.game p c.args.i (c.own_set.ensures A.game A.counts A.loaded A.inside) c.in-Some.is in
    let at = set_stands A.loaded.rules p (order_set A.game A.loaded.rules c.args.i A.inside) own.0 own.1 in
    let few = room A.loaded.rules A.loaded.limits p in
    let odds = few c.args.x.now c.requires.in_odds in
    let marks = few c.args.marks.now c.requires.in_marks in
    record { few = at.few; in_odds = omega (arith, at.block, odds); in_marks = omega (arith, at.block, marks); below = omega (arith, at.below, marks) }

pub returns-in-Some : goal.returns-in-Some
returns-in-Some c g n odds L l X K =
    let p = as_player c.args.player in
    let own = own_set_some g p c.args.i (c.own_set.ensures g n L l) c.in-Some.is in
    next_own L.rules p odds X l K own.0 own.1 c.set_given.ensures

pub returns-in-None : goal.returns-in-None
returns-in-None c g n odds L l X K =
    let p = as_player c.args.player in
    next_other L.rules p odds X l K (own_set_none g p c.args.i (c.own_set.ensures g n L l) c.in-None.is)
