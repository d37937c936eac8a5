-- The game's refusal comes first, then 17; for a number in the game the entry is read.
use mathlib.Core.Path.{ap, ◌∙◌}
use native.Mathlib.Omega.{arith}
use Rattle.model.specs.Call.{given}
use Rattle.model.specs.Calls.SetEntry.{call}
use Rattle.checks.specs.Answers.{answered}
use Rattle.checks.proofs.AnswerLaws.{passed_on}
use Rattle.records.proofs.Headers.{header_sets}
use Rattle.records.proofs.Widths.{few_sets}
use Rattle.game.proofs.Refusals.{Opened, opened, refused_with}
use Rattle.lookups.specs.Answers.{set_seen}
use Rattle.lookups.proofs.Asked.{in_game, game_refused, number_missing, number_found}
use Rattle.lookups.proofs.Answers.{set_is_read}
use Rattle.lookups.proofs.set_entry.Goals as goal
use Rattle.lookups.proofs.set_entry.Goals.{In_ok-header}

game_opened : (c : In_ok-header) → Opened c.args.game.now c.in_ok-header.header
game_opened c = opened _ c.check.ensures c.in_ok-header.was

pub returns-in_err-header : goal.returns-in_err-header
unfolding call
returns-in_err-header c = ap (answered set_seen) (passed_on c.from_residual.ensures.1) ∙ game_refused _ _ _ _ (refused_with _ c.check.ensures c.in_err-header.was)

pub returns-in_err-in_game : goal.returns-in_err-in_game
unfolding call
returns-in_err-in_game c =
    let o = game_opened (goal.at.returns-in_err-in_game c).In_ok-header in
    ap (answered set_seen) (passed_on c.from_residual-in_err-in_game.ensures.1)
    ∙ number_missing _ _ _ _ o.none (header_sets _ _ o.header) c.in_game.ensures c.in_err-in_game.was

pub read-entry-requires : goal.read-entry-requires
read-entry-requires c =
    let o = game_opened (goal.at.read-entry-requires c).In_ok-header in
    let a = c.args in
    let k = c.in_ok-header.header.sets in
    let l = in_game a.number k c.in_game.ensures c.in_ok-in_game.was in
    omega (arith, l, c.index.ensures, few_sets a.game.now, header_sets _ _ o.header)

pub returns : goal.returns
unfolding call
returns c =
    let o = game_opened (goal.at.returns c).In_ok-header in
    let n = c.args.number in
    ap given (set_is_read _ {h = n} c.read-entry.result c.read-entry.ensures c.index.ensures)
    ∙ number_found _ _ _ _ o.none (header_sets _ _ o.header) c.in_game.ensures c.in_ok-in_game.was
