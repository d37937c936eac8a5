-- The rows that the answer gives are filled from the leaves.
use Rattle.rows.proofs.Rows.{rows_call_lem}
use Rattle.rows.proofs.payoff_rows.Goals as goal

pub returns : goal.returns
returns c = rows_call_lem c.args.game.now c.args.rows.now c.laid_out-answer.result c.laid_out-answer.ensures c.unwrap_or.ensures c.fill.ensures
