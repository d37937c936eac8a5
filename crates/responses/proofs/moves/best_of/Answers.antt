-- A set whose player is the one asked for is his; at any other the answer is 0.
use Rattle.loaded.proofs.Owners.{is_owner, not_owner}
use Rattle.responses.proofs.MoveLaws.{best_own, best_other, moves_stored}
use Rattle.responses.proofs.moves.best_of.Goals as goal

pub best_move-requires : goal.best_move-requires
best_move-requires c =
    let Q = c.requires in
    let W = Q.asked.held in
    let own = is_owner Q.asked.game W.loaded.decoded.sets_decoded.players Q.is_set c.owner.result c.args.player c.owner.ensures c.if-eq.ensures in
    moves_stored W c.args.h Q.is_set own c.number-start.ensures.0 c.number-count.ensures.0

pub returns-then-eq : goal.returns-then-eq
returns-then-eq c k g y W l =
    let own = is_owner g W.loaded.decoded.sets_decoded.players l c.owner.result c.args.player c.owner.ensures c.if-eq.ensures in
    best_own W c.args.h l own c.number-start.ensures.0 c.number-count.ensures.0 c.best_move.ensures

pub returns-else-eq : goal.returns-else-eq
returns-else-eq c k g y W l =
    best_other W c.args.h l (not_owner g W.loaded.decoded.sets_decoded.players l c.owner.result c.args.player c.owner.ensures c.if-eq.ensures)
