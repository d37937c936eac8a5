-- An accepted game gives its header's counts; a refusal is passed on.
use mathlib.Core.Path.{ap, ◌∙◌}
use Rattle.checks.specs.Answers.{answered}
use Rattle.checks.proofs.AnswerLaws.{passed_on}
use Rattle.game.proofs.Refusals.{opened, refused_with}
use Rattle.lookups.specs.Answers.{game_seen}
use Rattle.lookups.proofs.Answers.{check_refused, check_given}
use Rattle.lookups.proofs.check_game.Goals as goal

pub returns-in_err-header : goal.returns-in_err-header
returns-in_err-header c = ap (answered game_seen) (passed_on c.from_residual.ensures.1) ∙ check_refused _ (refused_with _ c.check.ensures c.in_err-header.was)

pub returns : goal.returns
returns c = check_given _ _ (opened _ c.check.ensures c.in_ok-header.was)
