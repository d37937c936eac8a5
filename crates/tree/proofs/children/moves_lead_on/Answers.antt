-- `children::moves_lead_on` meets its contract: the pass answers one half of check 9, and the comparison the other.
use Rattle.std.proofs.lemmas.Result.{err_from_is_err_and}
use Rattle.tree.proofs.Moves.{moves_broken, moves_second}
use Rattle.tree.proofs.children.moves_lead_on.Goals as goal

pub returns-in_err-mark_moves : goal.returns-in_err-mark_moves
returns-in_err-mark_moves c = λ g t.
    let p = err_from_is_err_and c.from_residual.result c.from_residual.ensures.1 in
    rw (p.1, p.2) (moves_broken g (c.mark_moves.ensures g t).0 c.in_err-mark_moves.was)

pub returns : goal.returns
returns c = λ g t.
    let marked = c.mark_moves.ensures g t in
    let fine = c.in_ok-mark_moves.was in
    moves_second g marked.0 fine (c.all_complete.ensures g t (marked.1 fine))
