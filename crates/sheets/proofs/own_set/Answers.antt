-- The set that stands there is read, and its owner tested.
use Prim.Native.Nat.{◌<◌}
use native.Mathlib.Omega.{arith}
use Rattle.loaded.specs.Players.{as_player}
use Rattle.loaded.proofs.SetsRead.{set_place, sequences_read, next_read, next_inside, next_his, next_not_his}
use Rattle.sheets.proofs.OwnSets.{own_set_is, own_set_not}
use Rattle.sheets.proofs.own_set.Goals as goal
use Rattle.sheets.proofs.own_set.Goals.{After-number-h}

-- the set is one of the game's
inside : (c : After-number-h) → c.number-h.result < c.requires.game.sets
inside c = let asked = c.requires in next_inside asked.loaded asked.inside c.number-h.ensures.0

pub owner-requires : goal.owner-requires
owner-requires c = omega (arith, inside c, c.requires.loaded.decoded.sets_decoded.players.long)

pub set_sequences-requires : goal.set_sequences-requires
set_sequences-requires c = set_place c.requires.loaded (inside (goal.at.set_sequences-requires c).After-number-h)

pub returns-then-eq : goal.returns-then-eq
returns-then-eq c g n L l =
    let read = c.number-h.ensures.0 in
    own_set_is g (as_player c.args.player) c.args.i (next_read L l read) (next_his L l read c.owner.result c.args.player c.owner.ensures c.if-eq.ensures) (sequences_read L (next_inside L l read) c.set_sequences.ensures)

pub returns : goal.returns
returns c g n L l =
    let read = c.number-h.ensures.0 in
    own_set_not g (as_player c.args.player) c.args.i (next_read L l read) (next_not_his L l read c.owner.result c.args.player c.owner.ensures c.if-eq.ensures)
