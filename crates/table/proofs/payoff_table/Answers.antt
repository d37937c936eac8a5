-- The leaves are laid out where there is room in every column, and all columns are filled from them.
use Prim.Native.Nat.{◌≤◌}
use lib.ListN.{length}
use Rattle.rows.proofs.Answers.{rows_ready}
use Rattle.checks.proofs.AnswerLaws.{passed_on}
use Rattle.table.proofs.Columns.{all_long, columns_kept, columns_filled}
use Rattle.table.proofs.payoff_table.Goals as goal
use Rattle.table.proofs.payoff_table.Goals.{In_ok-rows}

-- each column has room for the rows that are given
roomy : (c : In_ok-rows) → let a = c.args in let n = c.in_ok-rows.rows in (n ≤ length a.sequence1.now) × (n ≤ length a.sequence2.now) × (n ≤ length a.sum1.now) × (n ≤ length a.sum2.now)
roomy c =
    let a = c.args in
    all_long (length a.sequence1.now) (length a.sequence2.now) (length a.sum1.now) (length a.sum2.now) _ c.shortest-room.ensures c.in_ok-rows.rows (rows_ready a.game.now c.shortest-room.result c.laid_out.ensures c.in_ok-rows.was).0

pub returns-in_err-rows : goal.returns-in_err-rows
returns-in_err-rows c =
    let a = c.args in
    rw (passed_on c.from_residual.ensures.1) (columns_kept a.game.now a.sequence1.now a.sequence2.now a.sum1.now a.sum2.now c.shortest-room.ensures c.laid_out.ensures c.in_err-rows.was)

pub returns : goal.returns
returns c =
    let a = c.args in
    columns_filled a.game.now a.sequence1.now a.sequence2.now a.sum1.now a.sum2.now c.shortest-room.ensures c.laid_out.ensures c.in_ok-rows.was c.sequences.ensures.0 c.sequences.ensures.1 c.sums.ensures.0 c.sums.ensures.1

pub sequences-requires : goal.sequences-requires
sequences-requires c =
    let fit = roomy (goal.at.sequences-requires c).In_ok-rows in
    let ready = (rows_ready c.args.game.now c.shortest-room.result c.laid_out.ensures c.in_ok-rows.was).1 in
    (fit.0, fit.1, λ k v. ((ready k v).sequence1_ready, (ready k v).sequence2_ready))

pub sums-requires : goal.sums-requires
sums-requires c =
    let fit = roomy (goal.at.sums-requires c).In_ok-rows in
    let ready = (rows_ready c.args.game.now c.shortest-room.result c.laid_out.ensures c.in_ok-rows.was).1 in
    (fit.2, fit.3, λ k v. ((ready k v).sum1_ready, (ready k v).sum2_ready))
