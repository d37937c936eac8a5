-- 17 comes first, then 18; with room for the file it is written.
use mathlib.Core.Path.{refl}
use native.Mathlib.Omega.{arith}
use Rattle.model.specs.Writing.{set_count, node_count}
use Rattle.model.proofs.FieldRules.{FieldRules}
use Rattle.fitting.specs.GameLists.{fields_of_lists}
use Rattle.fitting.proofs.GameFits.{fitting}
use Rattle.checks.proofs.AnswerLaws.{passed_on}
use Rattle.fitting.proofs.Refusals.{has_room}
use Rattle.game_writer.proofs.GameFiles.{game_fits, game_misfit, game_short, game_written}
use Rattle.game_writer.proofs.write.Goals as goal
use Rattle.game_writer.proofs.write.Goals.{In_ok-check}

pub returns-in_err-check : goal.returns-in_err-check
returns-in_err-check c = let a = c.args in rw (passed_on c.from_residual.ensures.1) (game_misfit (fields_of_lists c.args.lists.now) c.args.out.now c.fit.ensures c.check.ensures c.in_err-check.was)

-- the counts of fields that fit
counted : (c : In_ok-check) → FieldRules (fields_of_lists c.args.lists.now)
counted c = fitting _ (game_fits (fields_of_lists c.args.lists.now) c.args.out.now c.fit.ensures c.check.ensures c.in_ok-check.was)

pub new-header-requires : goal.new-header-requires
unfolding set_count
new-header-requires c = omega (arith, (counted (goal.at.new-header-requires c).In_ok-check).sets)

pub file_bytes-size-requires : goal.file_bytes-size-requires
unfolding set_count node_count
file_bytes-size-requires c = rw c.new-header.ensures (omega (arith, (counted (goal.at.file_bytes-size-requires c).In_ok-check).nodes), omega (arith, (counted (goal.at.file_bytes-size-requires c).In_ok-check).sets))

pub returns-in_err-has_room : goal.returns-in_err-has_room
returns-in_err-has_room c =
    rw (passed_on c.from_residual-in_err-has_room.ensures.1) (game_short (fields_of_lists c.args.lists.now) c.args.out.now
    c.fit.ensures
    c.check.ensures
    c.in_ok-check.was
    (rw c.new-header.ensures at c.file_bytes-size.ensures)
    c.has_room.ensures
    c.in_err-has_room.was)

pub put_game-requires : goal.put_game-requires
put_game-requires c =
    rw c.new-header.ensures (
      refl,
      game_fits (fields_of_lists c.args.lists.now) c.args.out.now c.fit.ensures c.check.ensures c.in_ok-check.was,
      has_room (rw c.new-header.ensures at c.file_bytes-size.ensures) c.has_room.ensures c.in_ok-has_room.was,
    )

pub returns : goal.returns
returns c =
    game_written (fields_of_lists c.args.lists.now) c.args.out.now
    c.fit.ensures
    c.check.ensures
    c.in_ok-check.was
    (rw c.new-header.ensures at c.file_bytes-size.ensures)
    c.has_room.ensures
    c.in_ok-has_room.was
    c.put_game.ensures
