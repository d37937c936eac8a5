-- The pair's refusal; or the verdict on what was evaluated, with its strategy. The answers stand before what their calls ask.
use mathlib.Core.Path.{refl, sym, ap, ◌∙◌}
use native.Mathlib.Omega.{arith}
use native.Mathlib.Nat.{le_refl}
use Rattle.model.specs.Limits.{count_limit}
use Rattle.model.specs.Game.{game_of, one, two}
use Rattle.model.specs.Plan.{plan_pair_of}
use Rattle.loaded.specs.declared.Player as Code
use Rattle.loaded.specs.Players.{as_player}
use Rattle.loaded.specs.Sections.{numbers_room, payoffs_room}
use Rattle.checks.proofs.AnswerLaws.{passed_on}
use Rattle.evaluation.proofs.EvaluatedPairs.{EvaluationOpened, evaluation_opened, evaluation_refused_with, sets_are}
use Rattle.judgement.proofs.Judgement.{says_equilibrium}
use Rattle.verdict.proofs.VerdictAnswered.{pair_refused, accepted_given, strategy_given, base_is, base_asks, judge_asks, judged_as, show_asks, deviates}
use Rattle.verdict.proofs.verdicts.verdict.Goals as goal
use Rattle.verdict.proofs.verdicts.verdict.Goals.{In_ok-pair}

pub returns-in_err-pair : goal.returns-in_err-pair
returns-in_err-pair c =
    let a = c.args in
    let s = evaluation_refused_with a.game.now a.plan.now c.evaluate.ensures c.in_err-pair.was in
    let m = pair_refused a.game.now a.plan.now a.moves.now s.0 s.1 in
    rw (passed_on c.from_residual.ensures.1) (record { equation = m.0; promise = m.1 })

-- what is known of the pair, once it is taken apart
opened : (c : In_ok-pair) → let x = c.in_ok-pair.field-0 in EvaluationOpened c.args.game.now c.args.plan.now x.pair x.values c.evaluate.new.numbers c.evaluate.new.moves1 c.evaluate.new.moves2
opened c = evaluation_opened _ _ c.evaluate.ensures c.in_ok-pair.was

pub returns-in_default : goal.returns-in_default
returns-in_default c =
    let a = c.args in
    let g = a.game.now in
    let p = a.plan.now in
    let v = opened (goal.at.returns-in_default c).In_ok-pair in
    let yes = sym (judged_as g p _ v.opened v.values c.judge.ensures) ∙ c.in_default.is in
    let m = accepted_given g p a.moves.now v.opened.none (says_equilibrium (game_of g) (plan_pair_of (game_of g) p) yes) (base_is g p _ v.opened c.base-base.ensures) in
    record { equation = m.0; promise = m.1 }

pub returns-in-One : goal.returns-in-One
returns-in-One c =
    let a = c.args in
    let g = a.game.now in
    let p = a.plan.now in
    let v = opened (goal.at.returns-in-One c).In_ok-pair in
    let no = sym (judged_as g p _ v.opened v.values c.judge.ensures) ∙ c.in-Some.is in
    let is = ap as_player c.in-One.is in
    let shown = c.show.ensures (game_of g) (sets_are g p _ v.opened) v.players in
    let m = strategy_given g p a.moves.now _ v.opened one _ _ (deviates g p _ no one is) (base_is g p _ v.opened c.base-base.ensures) v.best1 (rw is at shown) in
    record { equation = m.0; promise = m.1 }

pub returns-in-Two : goal.returns-in-Two
returns-in-Two c =
    let a = c.args in
    let g = a.game.now in
    let p = a.plan.now in
    let v = opened (goal.at.returns-in-Two c).In_ok-pair in
    let no = sym (judged_as g p _ v.opened v.values c.judge.ensures) ∙ c.in-Some.is in
    let is = ap as_player c.in-Two.is in
    let shown = c.show-in-Two.ensures (game_of g) (sets_are g p _ v.opened) v.players in
    let m = strategy_given g p a.moves.now _ v.opened two _ _ (deviates g p _ no two is) (base_is g p _ v.opened c.base-base.ensures) v.best2 (rw is at shown) in
    record { equation = m.0; promise = m.1 }

pub base-base-requires : goal.base-base-requires
base-base-requires c = base_asks _ _ _ (opened (goal.at.base-base-requires c).In_ok-pair).opened

pub judge-requires : goal.judge-requires
judge-requires c =
    let v = opened (goal.at.judge-requires c).In_ok-pair in
    judge_asks _ _ _ v.opened v.values

pub show-requires : goal.show-requires
show-requires c =
    let v = opened (goal.at.show-requires c).In_ok-pair in
    show_asks _ _ _ v.opened v.players v.best1.long

pub show-requires-in-Two : goal.show-requires-in-Two
show-requires-in-Two c =
    let v = opened (goal.at.show-requires-in-Two c).In_ok-pair in
    show_asks _ _ _ v.opened v.players v.best2.long

pub evaluate-requires : goal.evaluate-requires
evaluate-requires c = (le_refl numbers_room, le_refl payoffs_room, le_refl count_limit, le_refl count_limit)
