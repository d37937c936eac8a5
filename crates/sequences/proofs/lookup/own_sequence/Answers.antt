-- The last own move of the set's player before the set's first node ends the sequence that leads to the set.
use native.Mathlib.Omega.{arith}
use Rattle.loaded.specs.Players.{as_player}
use Rattle.sequences.proofs.Leading.{first_read, leading_is, loaded_stored, loaded_first}
use Rattle.sequences.proofs.lookup.own_sequence.Goals as goal

pub last_own_move-number-requires : goal.last_own_move-number-requires
last_own_move-number-requires c =
    let q = c.requires in
    let D = q.3.decoded in
    let player = c.owner-player.ensures in
    let first = first_read D q.2 player q.3.first_nodes c.number-first.ensures.0 in
    (q.0, omega (arith, first, loaded_first q.3 _ q.2), loaded_stored q.3 (as_player c.owner-player.result))

pub returns : goal.returns
returns c g k l L =
    let player = c.owner-player.ensures in
    let first = first_read L.decoded l player L.first_nodes c.number-first.ensures.0 in
    leading_is L.decoded l player L.first_nodes c.number-first.ensures.0 (c.last_own_move-number.ensures g (omega (arith, first, loaded_first L _ l)) (loaded_stored L (as_player c.owner-player.result)))
