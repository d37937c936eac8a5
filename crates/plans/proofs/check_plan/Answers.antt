-- A pair that fits gives D1 and D2; a refusal gives its number.
use mathlib.Core.Path.{refl, ap, ◌∙◌}
use native.Mathlib.Nat.{le_refl}
use Rattle.model.specs.Limits.{count_limit}
use Rattle.loaded.specs.Sections.{numbers_room, payoffs_room}
use Rattle.checks.specs.Answers.{answered}
use Rattle.checks.proofs.AnswerLaws.{passed_on}
use Rattle.plans.specs.Answers.{denominators_seen}
use Rattle.pair.proofs.Pairs.{pair_opened, pair_refused_with}
use Rattle.plans.proofs.Answers.{plan_refused, plan_fits}
use Rattle.plans.proofs.check_plan.Goals as goal

pub returns-in_err-header : goal.returns-in_err-header
returns-in_err-header c =
    let s = pair_refused_with _ _ c.read.ensures.answer c.in_err-header.was in
    ap (answered denominators_seen) (passed_on c.from_residual.ensures.1) ∙ plan_refused _ _ s.0 s.1

pub returns : goal.returns
returns c = plan_fits _ _ _ (pair_opened _ _ c.read.ensures.answer c.in_ok-header.was)

pub slice_bounds-read-end : goal.slice_bounds-read-end
slice_bounds-read-end c = refl

pub slice_bounds-read-end-2 : goal.slice_bounds-read-end-2
slice_bounds-read-end-2 c = refl

pub slice_bounds-read-end-3 : goal.slice_bounds-read-end-3
slice_bounds-read-end-3 c = refl

pub slice_bounds-read-end-4 : goal.slice_bounds-read-end-4
slice_bounds-read-end-4 c = refl

pub read-requires : goal.read-requires
read-requires c = (le_refl numbers_room, le_refl payoffs_room, le_refl count_limit, le_refl count_limit)
