-- The game's refusal comes first, then 18; with room for each field all buffers are filled.
use Rattle.std.proofs.Common.{rules}
use Rattle.records.proofs.Headers.{header_framed, header_sets}
use Rattle.checks.proofs.AnswerLaws.{passed_on}
use Rattle.columns.specs.Buffers.{held}
use Rattle.game.proofs.Refusals.{Opened, opened, refused_with}
use Rattle.fields.proofs.Buffers.{file_refused, no_room, has_room, all_given}
use Rattle.fields.proofs.game_fields.Goals as goal
use Rattle.fields.proofs.game_fields.Goals.{In_ok-header}

-- an accepted game
accepted : (c : In_ok-header) → Opened c.args.game.now c.in_ok-header.header
accepted c = opened _ c.check.ensures c.in_ok-header.was

pub returns-in_err-header : goal.returns-in_err-header
returns-in_err-header c =
    let g = c.args.game.now in
    record {
      call = rw (passed_on c.from_residual.ensures.1) (file_refused g (held c.args.buffers.now) (refused_with g c.check.ensures c.in_err-header.was));
      same = search rules;
    }

pub returns-in_err-has_room : goal.returns-in_err-has_room
returns-in_err-has_room c =
    let g = c.args.game.now in
    record {
      call = rw (passed_on c.from_residual-in_err-has_room.ensures.1) (no_room g (held c.args.buffers.now) c.in_ok-header.header (accepted (goal.at.returns-in_err-has_room c).In_ok-header) c.has_room.ensures c.in_err-has_room.was);
      same = search rules;
    }

pub fill_all-requires : goal.fill_all-requires
fill_all-requires c =
    let g = c.args.game.now in
    let h = c.in_ok-header.header in
    let o = accepted (goal.at.fill_all-requires c).In_ok-header in
    (header_framed h g o.header, header_sets h g o.header, has_room g (held c.args.buffers.now) h.sets h.nodes c.has_room.ensures c.in_ok-has_room.was)

pub returns : goal.returns
returns c =
    let g = c.args.game.now in
    record {
      call = all_given g (held c.args.buffers.now) c.in_ok-header.header (accepted (goal.at.returns c).In_ok-header) c.has_room.ensures c.in_ok-has_room.was c.fill_all.ensures.fields;
      same = c.fill_all.ensures.same;
    }
