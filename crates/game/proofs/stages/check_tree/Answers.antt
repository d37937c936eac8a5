-- The checks hold one after the other, whichever file stands in the sections; the first that does not gives the answer.
use mathlib.Core.Path.{ap, ◌∙◌}
use Rattle.model.specs.Game.{game_of}
use Rattle.checks.specs.Answers.{number_of}
use Rattle.checks.proofs.AnswerLaws.{passed_on}
use Rattle.records.proofs.Headers.{header_nodes, header_sets}
use Rattle.game.proofs.TreeStage.{stops_7, stops_8, stops_9, stops_10, ends_11, fine_7, tree_in}
use Rattle.game.proofs.stages.check_tree.Goals as goal

pub returns-in_err-payloads_in_range : goal.returns-in_err-payloads_in_range
returns-in_err-payloads_in_range c b F = ap number_of (passed_on c.from_residual.ensures.1) ∙ stops_7 F c.payloads_in_range.ensures c.in_err-payloads_in_range.was

pub returns-in_err-nodes_attached : goal.returns-in_err-nodes_attached
returns-in_err-nodes_attached c b F = ap number_of (passed_on c.from_residual-in_err-nodes_attached.ensures.1) ∙ stops_8 F c.payloads_in_range.ensures c.in_ok-payloads_in_range.was c.nodes_attached.ensures c.in_err-nodes_attached.was

pub returns-in_err-moves_lead_on : goal.returns-in_err-moves_lead_on
returns-in_err-moves_lead_on c b F = ap number_of (passed_on c.from_residual-in_err-moves_lead_on.ensures.1) ∙ stops_9 F c.payloads_in_range.ensures c.in_ok-payloads_in_range.was c.nodes_attached.ensures c.in_ok-nodes_attached.was c.moves_lead_on.ensures c.in_err-moves_lead_on.was

pub returns-in_err-weights_obey_rules : goal.returns-in_err-weights_obey_rules
returns-in_err-weights_obey_rules c b F = ap number_of (passed_on c.from_residual-in_err-weights_obey_rules.ensures.1) ∙ stops_10 F c.payloads_in_range.ensures c.in_ok-payloads_in_range.was c.nodes_attached.ensures c.in_ok-nodes_attached.was c.moves_lead_on.ensures c.in_ok-moves_lead_on.was c.weights_obey_rules.ensures c.in_err-weights_obey_rules.was

pub returns : goal.returns
returns c b F = ends_11 F c.payloads_in_range.ensures c.in_ok-payloads_in_range.was c.nodes_attached.ensures c.in_ok-nodes_attached.was c.moves_lead_on.ensures c.in_ok-moves_lead_on.was c.weights_obey_rules.ensures c.in_ok-weights_obey_rules.was c.paths_in_limit.ensures

pub payloads_in_range-requires : goal.payloads_in_range-requires
payloads_in_range-requires c = let p = c.requires in (game_of p.0, header_nodes _ _ p.1.header_is, header_sets _ _ p.1.header_is, p.1.decoded)

pub nodes_attached-requires : goal.nodes_attached-requires
nodes_attached-requires c = let p = c.requires in (game_of p.0, header_nodes _ _ p.1.header_is, p.1.decoded, fine_7 p.1 c.payloads_in_range.ensures c.in_ok-payloads_in_range.was)

pub moves_lead_on-requires : goal.moves_lead_on-requires
moves_lead_on-requires c = let p = c.requires in (game_of p.0, tree_in p.1 c.payloads_in_range.ensures c.in_ok-payloads_in_range.was c.nodes_attached.ensures c.in_ok-nodes_attached.was)

pub weights_obey_rules-requires : goal.weights_obey_rules-requires
weights_obey_rules-requires c = let p = c.requires in (game_of p.0, tree_in p.1 c.payloads_in_range.ensures c.in_ok-payloads_in_range.was c.nodes_attached.ensures c.in_ok-nodes_attached.was)

pub paths_in_limit-requires : goal.paths_in_limit-requires
paths_in_limit-requires c = let p = c.requires in (game_of p.0, tree_in p.1 c.payloads_in_range.ensures c.in_ok-payloads_in_range.was c.nodes_attached.ensures c.in_ok-nodes_attached.was)
