use mathlib.Core.Path.{refl, ◌∙◌}
use native.Mathlib.Omega.{arith}
use Rattle.loaded.specs.Players.{as_player}
use Rattle.plan.proofs.Refusals.{room}
use Rattle.smallest.proofs.Orders.{taken_none, taken_all, taken_more, taken_stop, own_odds, own_odds_lem, asked_at}
use Rattle.smallest.proofs.smallest.Goals as goal

pub loop-i-init : goal.loop-i-init
loop-i-init c =
    record {
      long1 = refl;
      long2 = refl;
      taken = λ g n given L e X.
          let few = room L.rules L.limits (as_player c.args.player) in
          taken_none L.rules given (as_player c.args.player) c.requires.within c.args.numerators.now c.args.denominators.now (few c.args.numerators.now c.requires.in_numerators) (few c.args.denominators.now c.requires.in_denominators) c.put.ensures c.put-2.ensures;
    }

pub loop-i-preserved : goal.loop-i-preserved
loop-i-preserved c =
    let inv = c.loop-i.invariant in
    let next = c.next_multiple in
    record {
      long1 = next.auto.numerators ∙ inv.long1;
      long2 = next.auto.denominators ∙ inv.long2;
      taken = λ g n given L e X.
          let K = inv.taken g n given L e X in
          taken_more L.rules given _ K (omega arith) (next.ensures g n given L (omega arith) X K.probabilities) c.in_ok-multiple.was;
    }

pub returns-in_err-multiple : goal.returns-in_err-multiple
returns-in_err-multiple c g n given L e X =
    let K = c.loop-i.invariant.taken g n given L e X in
    rw c.from_residual.ensures (taken_stop L.rules given _ K (omega arith) (c.next_multiple.ensures g n given L (omega arith) X K.probabilities) c.in_err-multiple.was)

pub next_multiple-requires : goal.next_multiple-requires
next_multiple-requires c =
    let A = c.requires in
    let p = as_player c.args.player in
    let x = c.args.x.now in
    let long = room A.loaded.rules A.loaded.limits p x A.in_odds in
    asked_at A long (omega arith) (c.loop-i.invariant.taken A.game A.counts (own_odds A.game p x) A.loaded A.sets_are (own_odds_lem A.game p x long))

pub returns : goal.returns
returns c g n given L e X = taken_all L.rules given _ (c.loop-i.invariant.taken g n given L e X) (omega arith)
