-- The pair's refusal; or whether both gains of what was evaluated are within the tolerance. The answers stand before what the calls ask.
use mathlib.Core.Path.{refl}
use native.Mathlib.Nat.{le_refl}
use Rattle.model.specs.Limits.{count_limit}
use Rattle.checks.proofs.AnswerLaws.{passed_on}
use Rattle.loaded.specs.Sections.{numbers_room, payoffs_room}
use Rattle.evaluation.proofs.EvaluatedPairs.{EvaluationOpened, evaluation_opened, evaluation_refused_with}
use Rattle.verdict.proofs.VerdictAnswered.{base_is, base_asks}
use Rattle.tolerance.proofs.Tolerated.{pair_refused, passes_given, passes_asks, passes_is}
use Rattle.tolerance.proofs.tolerates.Goals as goal
use Rattle.tolerance.proofs.tolerates.Goals.{In_ok-pair}

pub returns-in_err-pair : goal.returns-in_err-pair
returns-in_err-pair c =
    let a = c.args in
    let s = evaluation_refused_with a.game.now a.plan.now c.evaluate.ensures c.in_err-pair.was in
    let m = pair_refused a.game.now a.plan.now a.tolerance s.0 s.1 in
    rw (passed_on c.from_residual.ensures.1) (record { equation = m.0; promise = m.1 })

-- what is known of the pair, once it is taken apart
opened : (c : In_ok-pair) → let x = c.in_ok-pair.field-0 in EvaluationOpened c.args.game.now c.args.plan.now x.pair x.values c.evaluate.new.numbers c.evaluate.new.moves1 c.evaluate.new.moves2
opened c = evaluation_opened _ _ c.evaluate.ensures c.in_ok-pair.was

pub returns : goal.returns
returns c =
    let v = opened (goal.at.returns c).In_ok-pair in
    let judged = passes_is _ _ _ v.opened v.values (base_is _ _ _ v.opened c.base-base.ensures) _ c.passes-passes.ensures in
    let m = passes_given _ _ _ v.opened.none judged in
    record { equation = m.0; promise = m.1 }

pub base-base-requires : goal.base-base-requires
base-base-requires c = base_asks _ _ _ (opened (goal.at.base-base-requires c).In_ok-pair).opened

pub passes-passes-requires : goal.passes-passes-requires
passes-passes-requires c =
    let v = opened (goal.at.passes-passes-requires c).In_ok-pair in
    passes_asks _ _ _ v.opened v.values (base_is _ _ _ v.opened c.base-base.ensures)

pub slice_bounds-evaluate-end : goal.slice_bounds-evaluate-end
slice_bounds-evaluate-end c = refl

pub slice_bounds-evaluate-end-2 : goal.slice_bounds-evaluate-end-2
slice_bounds-evaluate-end-2 c = refl

pub slice_bounds-evaluate-end-3 : goal.slice_bounds-evaluate-end-3
slice_bounds-evaluate-end-3 c = refl

pub slice_bounds-evaluate-end-4 : goal.slice_bounds-evaluate-end-4
slice_bounds-evaluate-end-4 c = refl

pub evaluate-requires : goal.evaluate-requires
evaluate-requires c = (le_refl numbers_room, le_refl payoffs_room, le_refl count_limit, le_refl count_limit)
