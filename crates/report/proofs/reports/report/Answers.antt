-- The pair's refusal; or the report on what was evaluated and judged.
use mathlib.Core.Path.{◌∙◌}
use native.Mathlib.Nat.{le_refl}
use Rattle.model.specs.Limits.{count_limit}
use Rattle.loaded.specs.Sections.{numbers_room, payoffs_room}
use Rattle.checks.proofs.AnswerLaws.{passed_on}
use Rattle.evaluation.proofs.EvaluatedPairs.{EvaluationOpened, evaluation_opened, evaluation_refused_with}
use Rattle.verdict.proofs.VerdictAnswered.{judge_asks}
use Rattle.report.proofs.Calls.{report_refused, report_given, file_most, pair_ready, report_agrees}
use Rattle.report.proofs.reports.report.Goals as goal
use Rattle.report.proofs.reports.report.Goals.{In_ok-pair}

pub returns-in_err-pair : goal.returns-in_err-pair
returns-in_err-pair c =
    let a = c.args in
    let s = evaluation_refused_with a.game.now a.plan.now c.evaluate.ensures c.in_err-pair.was in
    rw (passed_on c.from_residual.ensures.1) (report_refused a.game.now a.plan.now a.out.now s.0 s.1)

-- what is known of the pair, once it is taken apart
opened : (c : In_ok-pair) → let x = c.in_ok-pair.field-0 in EvaluationOpened c.args.game.now c.args.plan.now x.pair x.values c.evaluate.new.numbers c.evaluate.new.moves1 c.evaluate.new.moves2
opened c = evaluation_opened _ _ c.evaluate.ensures c.in_ok-pair.was

pub judge-judged-requires : goal.judge-judged-requires
judge-judged-requires c =
    let v = opened (goal.at.judge-judged-requires c).In_ok-pair in
    judge_asks _ _ _ v.opened v.values

pub give_report-requires : goal.give_report-requires
give_report-requires c =
    let v = opened (goal.at.give_report-requires c).In_ok-pair in
    (pair_ready _ _ _ v, rw (report_agrees _ _ _ v c.judge-judged.ensures) (file_most _ _ v.opened.none))

pub returns : goal.returns
returns c =
    let a = c.args in
    let g = a.game.now in
    let p = a.plan.now in
    let v = opened (goal.at.returns c).In_ok-pair in
    (rw (report_agrees g p _ v c.judge-judged.ensures) at c.give_report.ensures) ∙ report_given g p a.out.now v.opened.none

pub evaluate-requires : goal.evaluate-requires
evaluate-requires c = (le_refl numbers_room, le_refl payoffs_room, le_refl count_limit, le_refl count_limit)
