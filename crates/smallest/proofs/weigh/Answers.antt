-- The smallest D first; the weights only where it is within the limit.
use native.Mathlib.Omega.{arith}
use native.Mathlib.Nat.{le_refl}
use Rattle.model.specs.Limits.{count_limit}
use Rattle.loaded.specs.Players.{as_player}
use Rattle.loaded.proofs.Sides.{sequences_is}
use Rattle.plan.proofs.Refusals.{counted, room}
use Rattle.smallest.proofs.Orders.{own_odds_lem}
use Rattle.smallest.proofs.Weighing.{all_asked, scalable, scaled, weighed_none, weighed_some, smallest_is, probabilities_put}
use Rattle.smallest.proofs.weigh.Goals as goal

-- all that is asked for is there
pub smallest-requires : goal.smallest-requires
smallest-requires c = all_asked c.requires.0 c.requires.1 c.requires.2 c.requires.3 (le_refl count_limit) (le_refl count_limit)

-- the probabilities are those of some sheet's odds
pub scale-requires : goal.scale-requires
scale-requires c =
    let p = as_player c.args.player in
    let x = c.args.x.now in
    let g = c.requires.0.game in
    let L = c.requires.0.loaded in
    let long = room L.rules L.limits p x c.requires.1 in
    let S = c.smallest.ensures g _ _ L (counted L.counts_are).sets_are (own_odds_lem g p x long) in
    scalable L.rules _ p (probabilities_put S c.in_ok-d.was) (sequences_is _ p c.side-side.ensures g L.counts_are) (omega (arith, (smallest_is S c.in_ok-d.was).1, c.requires.3)) long

pub returns-in_err-d : goal.returns-in_err-d
returns-in_err-d c g given L X = rw c.from_residual.ensures (weighed_none (c.smallest.ensures g _ given L (counted L.counts_are).sets_are X) c.in_err-d.was)

pub returns : goal.returns
returns c g given L X =
    let p = as_player c.args.player in
    let S = c.smallest.ensures g _ given L (counted L.counts_are).sets_are X in
    let some = c.in_ok-d.was in
    weighed_some S some (scaled L.rules given p (probabilities_put S some) c.args.x.now (sequences_is _ p c.side-side.ensures g L.counts_are) (smallest_is S some).0 c.scale.ensures)
