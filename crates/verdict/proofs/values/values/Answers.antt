-- The pair's refusal, or what was evaluated.
use mathlib.Core.Path.{refl, ap, ◌∙◌}
use borrow.Author.Rules.{sfits_of}
use native.Mathlib.Nat.{le_refl}
use mir.Syntax.{w64}
use mir.Facts.{to_z-of_z}
use Rattle.model.specs.Limits.{count_limit}
use Rattle.loaded.specs.Sections.{numbers_room, payoffs_room}
use Rattle.checks.specs.Answers.{answered}
use Rattle.checks.proofs.AnswerLaws.{passed_on}
use Rattle.verdict.specs.Answers.{values_seen}
use Rattle.evaluation.proofs.EvaluatedPairs.{evaluation_opened, evaluation_refused_with}
use Rattle.verdict.proofs.ValuesAnswered.{values_refused, values_given}
use Rattle.verdict.proofs.values.values.Goals as goal

pub returns-in_err-pair : goal.returns-in_err-pair
returns-in_err-pair c =
    let a = c.args in
    let g = a.game.now in
    let p = a.plan.now in
    let s = evaluation_refused_with g p c.evaluate.ensures c.in_err-pair.was in
    ap (answered values_seen) (passed_on c.from_residual.ensures.1) ∙ values_refused g p s.0 s.1

pub returns : goal.returns
returns c =
    let a = c.args in
    let v = evaluation_opened a.game.now a.plan.now c.evaluate.ensures c.in_ok-pair.was in
    let values = c.in_ok-pair.field-0.values in
    let told = c.struct_told-1.given in
    values_given a.game.now a.plan.now _ v.opened v.values
    (to_z-of_z {w = w64} {z = values.value1} (sfits_of told.0.1))
    (to_z-of_z {w = w64} {z = values.value2} (sfits_of told.1.0.1))
    (to_z-of_z {w = w64} {z = values.best1} (sfits_of told.1.1.0.1))
    (to_z-of_z {w = w64} {z = values.best2} (sfits_of told.1.1.1.0.1))

pub slice_bounds-evaluate-end : goal.slice_bounds-evaluate-end
slice_bounds-evaluate-end c = refl

pub slice_bounds-evaluate-end-2 : goal.slice_bounds-evaluate-end-2
slice_bounds-evaluate-end-2 c = refl

pub slice_bounds-evaluate-end-3 : goal.slice_bounds-evaluate-end-3
slice_bounds-evaluate-end-3 c = refl

pub slice_bounds-evaluate-end-4 : goal.slice_bounds-evaluate-end-4
slice_bounds-evaluate-end-4 c = refl

pub evaluate-requires : goal.evaluate-requires
evaluate-requires c = (le_refl numbers_room, le_refl payoffs_room, le_refl count_limit, le_refl count_limit)
