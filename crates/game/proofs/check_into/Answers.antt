-- Each stage that is fine leaves what the next asks; one that is not gives its refusal, and the last gives the answer.
use Rattle.game.proofs.FileStages.{header_refuses, records_refuse, file_decoded, tree_refuses, file_rooted, file_checked}
use Rattle.checks.proofs.AnswerLaws.{passed_on}
use Rattle.game.proofs.check_into.Goals as goal

pub returns-in_err-check_header : goal.returns-in_err-check_header
returns-in_err-check_header c = rw (passed_on c.from_residual.ensures.1) (header_refuses _ _ _ c.check_header.ensures c.in_err-check_header.was)

pub returns-in_err-leaves : goal.returns-in_err-leaves
returns-in_err-leaves c = rw (passed_on c.from_residual-in_err-leaves.ensures.1) (records_refuse _ c.check_header.ensures c.in_ok-check_header.was c.load_records.ensures c.in_err-leaves.was)

pub returns-in_err-check_tree : goal.returns-in_err-check_tree
returns-in_err-check_tree c = rw (passed_on c.from_residual-in_err-check_tree.ensures.1) (tree_refuses _ c.check_header.ensures c.in_ok-check_header.was c.read-header.ensures c.load_records.ensures c.in_ok-leaves.was c.check_tree.ensures c.in_err-check_tree.was)

pub returns : goal.returns
returns c = file_checked _ c.check_header.ensures c.in_ok-check_header.was c.read-header.ensures c.load_records.ensures c.in_ok-leaves.was c.check_tree.ensures c.in_ok-check_tree.was c.load_sequences.ensures

pub load_records-requires : goal.load_records-requires
load_records-requires c = (c.read-header.ensures, c.requires.0, c.requires.1)

pub check_tree-requires : goal.check_tree-requires
check_tree-requires c = (c.args.bytes.now, file_decoded _ c.check_header.ensures c.in_ok-check_header.was c.read-header.ensures c.load_records.ensures c.in_ok-leaves.was)

pub load_sequences-requires : goal.load_sequences-requires
load_sequences-requires c = (c.args.bytes.now, file_rooted _ c.check_header.ensures c.in_ok-check_header.was c.read-header.ensures c.load_records.ensures c.in_ok-leaves.was c.check_tree.ensures c.in_ok-check_tree.was)
