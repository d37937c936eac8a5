-- Player 1's odds first, and player 2's after them.
use native.Mathlib.Omega.{arith}
use Rattle.plan.proofs.Balance.{loaded_sets}
use Rattle.plan.proofs.Refusals.{counted}
use Rattle.to_sheet.proofs.SetParts.{some_sequence, first_asks, second_asks, both_put}
use Rattle.to_sheet.proofs.parts.put.Goals as goal

pub returns : goal.returns
returns c g L =
    let S = loaded_sets L in
    let e = (counted L.counts_are).sets_are in
    both_put g L.counts_are _ _ _ (c.put_player.ensures g S e) (c.put_player-2.ensures g S e)

pub overflow_sub-moves1 : goal.overflow_sub-moves1
overflow_sub-moves1 c = some_sequence c.requires.0

pub put_player-requires : goal.put_player-requires
put_player-requires c = first_asks c.requires.0 c.requires.1 c.requires.3

pub put_player-requires-2 : goal.put_player-requires-2
put_player-requires-2 c = second_asks c.requires.0 c.requires.2 (omega (arith, c.requires.3, c.put_player.auto))
