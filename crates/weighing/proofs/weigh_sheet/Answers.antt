-- The checks hold one after the other (`Left`), and the first that does not gives its refusal.
use Prim.Native.Nat.{ℕ}
use mathlib.Core.Path.{refl, sym}
use mathlib.Core.List.{List}
use native.Mathlib.Omega.{arith}
use lib.ListN.{drop}
use Rattle.model.specs.Game.{game_of}
use Rattle.model.specs.Calls.PlanFromSheet.{sheet_files, sheet_rows}
use Rattle.checks.specs.declared.Refusal.TheVariants.{SheetForm, NoOdds, NoDenominator}
use Rattle.checks.proofs.AnswerLaws.{passed_on}
use Rattle.checks.proofs.Chains.{Left, begin, passes, stops}
use Rattle.loaded.specs.Loaded.{NumbersLoaded}
use Rattle.plan.specs.Loaded.{SequencesCounted}
use Rattle.plan.proofs.Refusals.{few_sequences}
use Rattle.weighing.proofs.Weights.{as_last}
use Rattle.weighing.proofs.weigh_sheet.Goals as goal
use Rattle.weighing.proofs.weigh_sheet.Goals.{In_ok-well_formed, In_ok-given, Start}

-- the sequences are few
few : (s : Start) → SequencesCounted s.args.counts
few s = let l = s.requires.0.loaded in few_sequences l.rules l.limits l.counts_are

-- 19 holds
left_20 : (c : In_ok-well_formed) (game : List ℕ) → NumbersLoaded (game_of game) c.args.counts c.args.numbers.now → let rows = sheet_rows c.args.width c.args.limit in Left rows (drop 1 rows) (sheet_files game c.args.sheet.now)
unfolding sheet_rows
left_20 c game L = passes SheetForm (begin (sheet_rows c.args.width c.args.limit) _) (c.well_formed-2.ensures _ L.counts_are) c.in_ok-well_formed.was

pub returns-in_err-well_formed : goal.returns-in_err-well_formed
unfolding sheet_rows
returns-in_err-well_formed c game L =
    let F = stops SheetForm (begin (sheet_rows c.args.width c.args.limit) (sheet_files game c.args.sheet.now)) refl (c.well_formed-2.ensures _ L.counts_are) c.in_err-well_formed.was in
    rw (passed_on c.from_residual.ensures.1) (record { answer = sym F.is; weights = tt })

pub returns-in_err-given : goal.returns-in_err-given
unfolding sheet_rows
returns-in_err-given c game L =
    let read = c.read_odds.ensures _ L.counts_are in
    let F = stops NoOdds (left_20 (goal.at.returns-in_err-given c).In_ok-well_formed game L) refl (c.given.ensures _ _ L read.first read.second) c.in_err-given.was in
    rw (passed_on c.from_residual-in_err-given.ensures.1) (record { answer = sym F.is; weights = tt })

-- 21, and both players' weights
pub returns : goal.returns
unfolding sheet_rows
returns c game L =
    let read = c.read_odds.ensures _ L.counts_are in
    let W = c.weigh_both.ensures _ _ L read.first read.second in
    let left = passes NoOdds (left_20 (goal.at.returns c).In_ok-well_formed game L) (c.given.ensures _ _ L read.first read.second) c.in_ok-given.was in
    record { answer = as_last NoDenominator left refl W.answer; weights = W.weights }

pub well_formed-requires : goal.well_formed-requires
well_formed-requires c = (few (goal.at.well_formed-requires c).Start, c.requires.1)

pub read_odds-requires : goal.read_odds-requires
read_odds-requires c = (few (goal.at.read_odds-requires c).Start, c.requires.1, c.requires.4, c.requires.5)

pub given-requires : goal.given-requires
given-requires c = (c.requires.0, omega (arith, c.requires.4, c.read_odds.auto.x), omega (arith, c.requires.5, c.read_odds.auto.y))

pub weigh_both-requires : goal.weigh_both-requires
weigh_both-requires c = (c.requires.0, omega (arith, c.requires.4, c.read_odds.auto.x), omega (arith, c.requires.5, c.read_odds.auto.y), c.requires.2, c.requires.3)
