-- The set that stands there is read; where it is the player's, its probabilities are found after the one that leads to it.
use native.Mathlib.Omega.{arith}
use lib.Dec.{T}
use mathlib.Core.Path.{◌≡◌}
use Rattle.algebra.specs.Arrays.{item}
use Rattle.model.specs.Game.{owns}
use Rattle.model.specs.Sequences.{sequence_count}
use Rattle.loaded.specs.Players.{as_player}
use Rattle.loaded.specs.Sets.{set_order}
use Rattle.loaded.specs.SetSequences.{set_sequences_of}
use Rattle.loaded.proofs.SetOrder.{order_set}
use Rattle.loaded.proofs.SetsRead.{Stand, set_stands}
use Rattle.sheets.proofs.OwnSets.{own_set_some, own_set_none}
use Rattle.smallest.proofs.Lowest.{total_small}
use Rattle.smallest.proofs.Orders.{lead_proper, next_own, next_other}
use Rattle.smallest.proofs.next_multiple.Goals as goal
use Rattle.smallest.proofs.next_multiple.Goals.{In-Some}

pub own_set-requires : goal.own_set-requires
own_set-requires c = c.requires.place

-- it is the player's set that stands there
own : (c : In-Some) → let g = c.requires.place.game in let h = item (set_order g) c.args.i in T (owns g (as_player c.args.player) h) × (c.in-Some.set ≡ set_sequences_of g h)
own c = let A = c.requires.place in own_set_some A.game (as_player c.args.player) c.args.i (c.own_set.ensures A.game A.counts A.loaded A.inside) c.in-Some.is

-- so its sequences stand among his
stands : (c : In-Some) → Stand (sequence_count c.requires.place.game (as_player c.args.player)) c.in-Some.set
stands c =
    let A = c.requires.place in
    let o = own c in
    set_stands A.loaded.rules (as_player c.args.player) (order_set A.game A.loaded.rules c.args.i A.inside) o.0 o.1

pub moves_total-total-requires : goal.moves_total-total-requires
moves_total-total-requires c = let at = stands c in (at.few, omega (arith, at.block, c.requires.odds_are.long))

pub offset_bounds-numerators-set : goal.offset_bounds-numerators-set
offset_bounds-numerators-set c = omega (arith, (stands (goal.at.offset_bounds-numerators-set c).In-Some).below, c.requires.probabilities.numerators_are.long)

pub bounds-numerators-set : goal.bounds-numerators-set
bounds-numerators-set c = omega (arith, (stands (goal.at.bounds-numerators-set c).In-Some).below, c.requires.probabilities.numerators_are.long)

pub offset_bounds-denominators-set : goal.offset_bounds-denominators-set
offset_bounds-denominators-set c = omega (arith, (stands (goal.at.offset_bounds-denominators-set c).In-Some).below, c.requires.probabilities.denominators_are.long)

pub bounds-denominators-set : goal.bounds-denominators-set
bounds-denominators-set c = omega (arith, (stands (goal.at.bounds-denominators-set c).In-Some).below, c.requires.probabilities.denominators_are.long)

-- what is asked at the set
pub fill_set-requires : goal.fill_set-requires
fill_set-requires c =
    let A = c.requires in
    let set = c.in-Some.set in
    let o = own (goal.at.fill_set-requires c).In-Some in
    let at = stands (goal.at.fill_set-requires c).In-Some in
    let few = c.moves_total-total.ensures in
    record {
      in_odds = omega (arith, at.block, A.odds_are.long);
      in_numerators = omega (arith, at.block, A.probabilities.numerators_are.long);
      in_denominators = omega (arith, at.block, A.probabilities.denominators_are.long);
      proper = lead_proper A.place.loaded.rules A.odds (as_player c.args.player) A.place.inside A.probabilities o.0 o.1 c.from.ensures c.from-2.ensures (omega (arith, c.from-2.ensures));
      total_is = few;
      total_small = total_small c.args.x.now set.start set.moves at.few (λ k. omega (arith, c.type_inv.x k)) few;
      within = A.within;
    }

pub returns : goal.returns
returns c g n given L l X K =
    let p = as_player c.args.player in
    let o = own_set_some g p c.args.i (c.own_set.ensures g n L l) c.in-Some.is in
    next_own L.rules given p l K X o.0 o.1 (rw (c.from.ensures, c.from-2.ensures)) c.moves_total-total.ensures c.fill_set.ensures

pub returns-in_default : goal.returns-in_default
returns-in_default c g n given L l X K =
    let p = as_player c.args.player in
    next_other L.rules given p l K c.requires.within (own_set_none g p c.args.i (c.own_set.ensures g n L l) c.in_default.is)
