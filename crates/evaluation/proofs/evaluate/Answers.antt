-- The pair's refusal, or what is evaluated of its weights. The answers stand before what the evaluation asks.
use mathlib.Core.Path.{refl, sym}
use native.Mathlib.Nat.{le_refl}
use Rattle.model.specs.Limits.{count_limit}
use Rattle.checks.proofs.AnswerLaws.{passed_on}
use Rattle.pair.proofs.Pairs.{pair_refused_with}
use Rattle.evaluation.proofs.EvaluatedPairs.{evaluate_asks, pair_evaluated_lem, pair_refused}
use Rattle.evaluation.proofs.evaluate.Goals as goal

pub returns-in_err-pair : goal.returns-in_err-pair
returns-in_err-pair c =
    let a = c.args in
    let s = pair_refused_with a.game.now a.plan.now c.read.ensures.answer c.in_err-pair.was in
    rw (passed_on c.from_residual.ensures.1) (pair_refused a.game.now a.plan.now s.0 c.read.ensures.loaded)

pub returns : goal.returns
returns c =
    let a = c.args in
    pair_evaluated_lem a.game.now a.plan.now c.read.ensures c.in_ok-pair.was a.moves1.now a.moves2.now c.evaluate-values.ensures

pub evaluate-values-requires : goal.evaluate-values-requires
evaluate-values-requires c =
    (evaluate_asks c.args.game.now c.args.plan.now c.read.ensures c.in_ok-pair.was refl refl refl, c.requires.2, c.requires.3)

pub slice_bounds-read-end : goal.slice_bounds-read-end
slice_bounds-read-end c = refl

pub slice_bounds-read-end-2 : goal.slice_bounds-read-end-2
slice_bounds-read-end-2 c = refl

pub read-requires : goal.read-requires
read-requires c = (c.requires.0, c.requires.1, le_refl count_limit, le_refl count_limit)

pub slice_bounds-evaluate-end : goal.slice_bounds-evaluate-end
slice_bounds-evaluate-end c = sym c.read.auto.x

pub slice_bounds-evaluate-end-2 : goal.slice_bounds-evaluate-end-2
slice_bounds-evaluate-end-2 c = sym c.read.auto.y
