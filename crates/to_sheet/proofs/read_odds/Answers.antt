-- The pair's refusal, or the odds of the weights that were read.
use mathlib.Core.Path.{sym}
use native.Mathlib.Nat.{le_refl, le_of_eq}
use Rattle.model.specs.Limits.{count_limit}
use Rattle.model.specs.Game.{game_of, one, two}
use Rattle.checks.proofs.AnswerLaws.{passed_on}
use Rattle.loaded.specs.Loaded.{NumbersLoaded}
use Rattle.loaded.specs.Sections.{numbers_room, payoffs_room}
use Rattle.pair.proofs.Pairs.{PairOpened, pair_opened, pair_refused_with, pair_holds, pair_few}
use Rattle.to_sheet.proofs.MadeSheets.{odds_refused, odds_given_lem, pair_loads}
use Rattle.to_sheet.proofs.read_odds.Goals as goal
use Rattle.to_sheet.proofs.read_odds.Goals.{In_ok-pair}

pub returns-in_err-pair : goal.returns-in_err-pair
returns-in_err-pair c =
    let a = c.args in
    let s = pair_refused_with a.game.now a.plan.now c.read.ensures.answer c.in_err-pair.was in
    rw (passed_on c.from_residual.ensures.1) (odds_refused a.game.now a.plan.now a.out.now s.0 s.1)

opened : (c : In_ok-pair) → PairOpened c.args.game.now c.args.plan.now c.in_ok-pair.pair
opened c = let a = c.args in pair_opened a.game.now a.plan.now c.read.ensures.answer c.in_ok-pair.was

-- the game is loaded
loads : (c : In_ok-pair) → NumbersLoaded (game_of c.args.game.now) c.in_ok-pair.pair.counts c.read.new.numbers
loads c = let a = c.args in pair_loads a.game.now a.plan.now (opened c) c.read.ensures

pub returns : goal.returns
returns c =
    let game = c.args.game.now in
    let plan = c.args.plan.now in
    let o = opened (goal.at.returns c).In_ok-pair in
    let e = c.read.ensures in
    odds_given_lem game plan c.args.out.now o c.requires c.weight_count.ensures (pair_holds game plan o one _ e.first (le_refl count_limit)) (pair_holds game plan o two _ e.second (le_refl count_limit)) (c.put.ensures (game_of game) (loads (goal.at.returns c).In_ok-pair))

pub put-requires : goal.put-requires
put-requires c =
    let r = c.read in
    (record { game = game_of c.args.game.now; loaded = loads (goal.at.put-requires c).In_ok-pair }, le_of_eq (sym r.auto.x), le_of_eq (sym r.auto.y), c.requires)

pub read-requires : goal.read-requires
read-requires c = (le_refl numbers_room, le_refl payoffs_room, le_refl count_limit, le_refl count_limit)

pub weight_count-requires : goal.weight_count-requires
weight_count-requires c = pair_few _ _ (opened (goal.at.weight_count-requires c).In_ok-pair)
