-- The game's refusal comes first, then 17; for a number in the game the record is read, and an accepted game has no kind past 2.
use mathlib.Core.Path.{ap, ◌∙◌}
use native.Mathlib.Omega.{arith}
use Rattle.model.specs.Call.{given}
use Rattle.model.specs.Calls.NodeRecord.{call}
use Rattle.model.proofs.Budget.{game_limits}
use Rattle.model.proofs.Checks.{game_rules}
use Rattle.checks.specs.Answers.{answered}
use Rattle.checks.proofs.AnswerLaws.{passed_on}
use Rattle.records.proofs.Headers.{header_nodes, header_records}
use Rattle.game.proofs.Refusals.{Opened, opened, refused_with}
use Rattle.lookups.specs.Answers.{node_seen}
use Rattle.lookups.proofs.Asked.{in_game, game_refused, number_missing, number_found}
use Rattle.lookups.proofs.Answers.{node_is_read}
use Rattle.lookups.proofs.node_record.Goals as goal
use Rattle.lookups.proofs.node_record.Goals.{In_ok-header}

game_opened : (c : In_ok-header) → Opened c.args.game.now c.in_ok-header.header
game_opened c = opened _ c.check.ensures c.in_ok-header.was

pub returns-in_err-header : goal.returns-in_err-header
unfolding call
returns-in_err-header c = ap (answered node_seen) (passed_on c.from_residual.ensures.1) ∙ game_refused _ _ _ _ (refused_with _ c.check.ensures c.in_err-header.was)

pub returns-in_err-in_game : goal.returns-in_err-in_game
unfolding call
returns-in_err-in_game c =
    let o = game_opened (goal.at.returns-in_err-in_game c).In_ok-header in
    ap (answered node_seen) (passed_on c.from_residual-in_err-in_game.ensures.1)
    ∙ number_missing _ _ _ _ o.none (header_nodes _ _ o.header) c.in_game.ensures c.in_err-in_game.was

pub read-node-requires : goal.read-node-requires
read-node-requires c =
    let o = game_opened (goal.at.read-node-requires c).In_ok-header in
    let a = c.args in
    let k = c.in_ok-header.header.nodes in
    let l = in_game a.number k c.in_game.ensures c.in_ok-in_game.was in
    (header_records _ _ o.header, omega (arith, l, c.index.ensures, (game_limits a.game.now).nodes, header_nodes _ _ o.header))

pub returns : goal.returns
unfolding call
returns c =
    let o = game_opened (goal.at.returns c).In_ok-header in
    let made = c.in_game.ensures in
    let fine = c.in_ok-in_game.was in
    let n = c.args.number in
    let k = c.in_ok-header.header.nodes in
    let kind = (game_rules _ o.none).kinds n (omega (arith, in_game n k made fine, header_nodes _ _ o.header)) in
    ap given (c.node_by_kind.ensures ∙ node_is_read _ c.read-node.result c.read-node.ensures c.index.ensures kind)
    ∙ number_found _ _ _ _ o.none (header_nodes _ _ o.header) made fine
