-- The game's refusal comes first, then the plan's. The answers stand before what the checks of the plan ask.
use mathlib.Core.Path.{◌≡◌, sym, ap, ◌∙◌}
use Rattle.model.specs.Game.{game_of, one, two}
use Rattle.model.specs.Exported.{same}
use Rattle.model.specs.Checks.{game_refusal}
use Rattle.checks.specs.Answers.{answered}
use Rattle.checks.proofs.AnswerLaws.{passed_on}
use Rattle.loaded.specs.Counts.{counts_of}
use Rattle.loaded.specs.Loaded.{NumbersLoaded}
use Rattle.game.proofs.Loads.{load_accepted, load_refused}
use Rattle.plan.proofs.Refusals.{after_early}
use Rattle.pair.proofs.Pairs.{game_refused, game_early, plan_decides, plan_refused_with, pair_refused_as, pair_fits_as}
use Rattle.pair.proofs.read.Goals as goal
use Rattle.pair.proofs.read.Goals.{In_ok-counts}

pub returns-in_err-counts : goal.returns-in_err-counts
returns-in_err-counts c =
    let a = c.args in
    let g = a.game.now in
    let p = a.plan.now in
    let e = c.load.ensures in
    let s = load_refused g e.answer c.in_err-counts.was in
    let n = game_refused g p s.0 s.1 in
    let early = game_early g p s.0 s.1 in
    record { answer = ap (answered same) (passed_on c.from_residual.ensures.1) ∙ pair_refused_as g p _ (sym n); first = after_early g p one _ _ n early; second = after_early g p two _ _ n early; loaded = e.loaded }

-- an accepted game
accepted : (c : In_ok-counts) → let game = c.args.game.now in (game_refusal game ≡ 0) × (c.in_ok-counts.counts ≡ counts_of (game_of game))
accepted c = load_accepted _ c.load.ensures.answer c.in_ok-counts.was

-- is loaded
loads : (c : In_ok-counts) → NumbersLoaded (game_of c.args.game.now) c.in_ok-counts.counts c.load.new.numbers
loads c = let e = accepted c in rw e.1 (c.load.ensures.loaded e.0).in_numbers

pub returns-in_err-denominators : goal.returns-in_err-denominators
returns-in_err-denominators c =
    let a = c.args in
    let g = a.game.now in
    let p = a.plan.now in
    let d = plan_decides g p (accepted (goal.at.returns-in_err-denominators c).In_ok-counts).0 in
    let e = c.check.ensures g (loads (goal.at.returns-in_err-denominators c).In_ok-counts) in
    let s = plan_refused_with g p e.answer c.in_err-denominators.was in
    record { answer = ap (answered same) (passed_on c.from_residual-in_err-denominators.ensures.1) ∙ pair_refused_as g p _ (s ∙ sym d); first = rw d e.first; second = rw d e.second; loaded = c.load.ensures.loaded }

pub returns : goal.returns
returns c =
    let a = c.args in
    let g = a.game.now in
    let p = a.plan.now in
    let o = accepted (goal.at.returns c).In_ok-counts in
    let d = plan_decides g p o.0 in
    let e = c.check.ensures g (loads (goal.at.returns c).In_ok-counts) in
    record { answer = pair_fits_as g p o.0 o.1 e.answer c.in_ok-denominators.was; first = rw d e.first; second = rw d e.second; loaded = c.load.ensures.loaded }

pub check-requires : goal.check-requires
check-requires c =
    (record { game = game_of c.args.game.now; loaded = loads (goal.at.check-requires c).In_ok-counts }, c.requires.2, c.requires.3)

pub load-requires : goal.load-requires
load-requires c = (c.requires.0, c.requires.1)
