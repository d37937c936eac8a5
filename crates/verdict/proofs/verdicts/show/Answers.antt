-- With room the moves are put and the deviation is stated; without it nothing is.
use mathlib.Core.Path.{sym, ◌∙◌}
use mathlib.Core.List.{map}
use native.Mathlib.Omega.{arith}
use borrow.Author.Rules.{rules}
use mir.Syntax.{w64}
use mir.Val.{SFits}
use mir.Facts.{to_z-of_z}
use lib.Dec.{leb, leb→le}
use lib.ListN.{length, length-map}
use Rattle.algebra.specs.Arrays.{item}
use Rattle.loaded.specs.Players.{as_player}
use Rattle.checks.specs.declared.Refusal.TheVariants.{Room}
use Rattle.checks.proofs.AnswerLaws.{passed_on}
use Rattle.model.specs.Earnings.{sets_of}
use Rattle.checks.proofs.Chains.{fine_test}
use Rattle.verdict.proofs.Showing.{shown_short, shown_given}
use Rattle.verdict.proofs.verdicts.show.Goals as goal

pub returns-in_err-has_room : goal.returns-in_err-has_room
returns-in_err-has_room c g sets held =
    let a = c.args in
    let own = sets_of g (as_player a.found.player) in
    rw (passed_on c.from_residual.ensures.1) (shown_short _ _ _ (map (item a.moves.now) own) a.out.now (c.set_count-count.ensures g sets held ∙ sym (length-map own (item a.moves.now))) c.has_room.ensures c.in_err-has_room.was)

pub returns : goal.returns
returns c g sets held =
    let a = c.args in
    let own = sets_of g (as_player a.found.player) in
    let fits : SFits w64 a.found.gain = search rules in
    rw (to_z-of_z fits) (shown_given _ _ _ (map (item a.moves.now) own) a.out.now (c.set_count-count.ensures g sets held ∙ sym (length-map own (item a.moves.now))) c.has_room.ensures c.in_ok-has_room.was (c.put_strategy.ensures g sets held))

pub set_count-count-requires : goal.set_count-count-requires
set_count-count-requires c = let asked = c.requires in omega (arith, asked.sets_are, asked.players.long)

pub put_strategy-requires : goal.put_strategy-requires
put_strategy-requires c =
    let asked = c.requires in
    let size = c.set_count-count.result in
    let room = length c.args.out.now in
    let l = leb→le size room (fine_test Room (leb size room) c.has_room.ensures c.in_ok-has_room.was) in
    record { game = asked.game; sets_are = asked.sets_are; players = asked.players; moves_long = asked.moves_long; room = omega (arith, c.set_count-count.ensures asked.game asked.sets_are asked.players, l) }
