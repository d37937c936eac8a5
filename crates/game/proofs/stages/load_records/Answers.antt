-- Check 5 is broken, or check 6 gives the answer.
use Rattle.checks.proofs.AnswerLaws.{passed_on}
use Rattle.records.proofs.Headers.{header_sets}
use Rattle.game.proofs.RecordStage.{sets_broken, nodes_after}
use Rattle.game.proofs.stages.load_records.Goals as goal

pub returns-in_err-load_sets : goal.returns-in_err-load_sets
returns-in_err-load_sets c = rw (passed_on c.from_residual.ensures.1) (sets_broken _ c.load_sets.ensures _ c.in_err-load_sets.was)

pub returns : goal.returns
returns c = nodes_after _ c.load_sets.ensures c.in_ok-load_sets.was c.requires.1 c.load_nodes.ensures

pub load_sets-requires : goal.load_sets-requires
load_sets-requires c = (header_sets _ _ c.requires.0, c.requires.1)
