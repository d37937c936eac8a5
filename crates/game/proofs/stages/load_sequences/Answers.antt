-- The two checks hold one after the other, whichever file stands in the sections, and the first that does not gives the answer.
use native.Mathlib.Omega.{arith}
use Rattle.model.specs.Game.{game_of}
use Rattle.checks.proofs.AnswerLaws.{passed_on}
use Rattle.records.proofs.Headers.{header_nodes, header_sets}
use Rattle.loaded.proofs.Decoded.{rooted_apart}
use Rattle.game.proofs.SequenceStage.{rooted_in, counts_made, sets_refuse, recall_refuses, sequences_loaded, made_12, made_13, number_asked, numbered, filled}
use Rattle.game.proofs.stages.load_sequences.Goals as goal

pub returns-in_err-sets_non_empty : goal.returns-in_err-sets_non_empty
returns-in_err-sets_non_empty c b F e = rw (passed_on c.from_residual.ensures.1) (sets_refuse b (made_12 F c.first_nodes.ensures c.sets_non_empty.ensures) _ c.in_err-sets_non_empty.was)

pub returns-in_err-perfect_recall : goal.returns-in_err-perfect_recall
returns-in_err-perfect_recall c b F e =
    let t = made_12 F c.first_nodes.ensures c.sets_non_empty.ensures in
    let r = made_13 F c.first_nodes.ensures c.sets_non_empty.ensures c.in_ok-sets_non_empty.was c.number_sequences-sequences.ensures c.perfect_recall.ensures in
    rw (passed_on c.from_residual-in_err-perfect_recall.ensures.1) (recall_refuses b t c.in_ok-sets_non_empty.was r _ c.in_err-perfect_recall.was)

pub returns : goal.returns
returns c b F e =
    let t = made_12 F c.first_nodes.ensures c.sets_non_empty.ensures in
    let r = made_13 F c.first_nodes.ensures c.sets_non_empty.ensures c.in_ok-sets_non_empty.was c.number_sequences-sequences.ensures c.perfect_recall.ensures in
    let n = numbered F c.first_nodes.ensures c.sets_non_empty.ensures c.in_ok-sets_non_empty.was c.number_sequences-sequences.ensures in
    sequences_loaded b t c.in_ok-sets_non_empty.was r c.in_ok-perfect_recall.was (counts_made F e n.counted) (filled F c.first_nodes.ensures c.sets_non_empty.ensures c.in_ok-sets_non_empty.was c.number_sequences-sequences.ensures)

pub first_nodes-requires : goal.first_nodes-requires
first_nodes-requires c = rooted_in c.requires.1

pub sets_non_empty-requires : goal.sets_non_empty-requires
sets_non_empty-requires c = rooted_apart (rooted_in c.requires.1) c.first_nodes.ensures.1 (omega arith)

pub number_sequences-sequences-requires : goal.number_sequences-sequences-requires
number_sequences-sequences-requires c =
    let p = c.requires in
    let n = number_asked p.1 c.first_nodes.ensures c.sets_non_empty.ensures c.in_ok-sets_non_empty.was in
    (game_of p.0, header_nodes _ _ p.1.header_is, header_sets _ _ p.1.header_is, n.0, n.1)

pub perfect_recall-requires : goal.perfect_recall-requires
perfect_recall-requires c =
    let p = c.requires in
    (game_of p.0, header_nodes _ _ p.1.header_is, (filled p.1 c.first_nodes.ensures c.sets_non_empty.ensures c.in_ok-sets_non_empty.was c.number_sequences-sequences.ensures).filled)
