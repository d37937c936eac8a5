-- The checks hold one after the other (`Left`), and the first that does not gives its refusal. Before 16 the arrays are left; by it they are filled.
use Prim.Native.Nat.{ℕ}
use mathlib.Core.Path.{refl}
use mathlib.Core.List.{List}
use lib.ListN.{drop}
use Rattle.model.specs.Game.{game_of}
use Rattle.model.specs.PlanChecks.{plan_has_length}
use Rattle.model.specs.Checks.{plan_rows}
use Rattle.checks.specs.declared.Refusal.TheVariants.{PlanLength, PlanForm, PlanUnfit}
use Rattle.checks.proofs.Chains.{Left, begin, passes, stops, ends, fine_test, broken_fails}
use Rattle.checks.proofs.AnswerLaws.{passed_on}
use Rattle.loaded.specs.Loaded.{NumbersLoaded}
use Rattle.plan.specs.Loaded.{SequencesCounted}
use Rattle.plan.proofs.FormatChecks.{length_is, header_denominators}
use Rattle.plan.proofs.Refusals.{counted, few_sequences, refused_early, refused_late, plan_given}
use Rattle.plan.proofs.check.Goals as goal
use Rattle.plan.proofs.check.Goals.{In_ok-has_length, In_ok-well_formed, Start}

-- the sequences are few
few : (s : Start) → SequencesCounted s.args.counts
few s = let l = s.requires.0.loaded in few_sequences l.rules l.limits l.counts_are

pub has_length-requires : goal.has_length-requires
has_length-requires c = few (goal.at.has_length-requires c).Start

-- check 14 gives the length
pub well_formed-requires : goal.well_formed-requires
well_formed-requires c =
    let l = c.requires.0 in
    let g = l.game in
    let e = l.loaded.counts_are in
    let plan = c.args.plan.now in
    (few (goal.at.well_formed-requires c).Start, length_is g plan _ (counted e).all (fine_test PlanLength (plan_has_length g plan) (c.has_length.ensures g e) c.in_ok-has_length.was))

left_15 : (c : In_ok-has_length) (game : List ℕ) → NumbersLoaded (game_of game) c.args.counts c.args.numbers.now → Left plan_rows (drop 1 plan_rows) (record { game = game; plan = c.args.plan.now })
unfolding plan_rows
left_15 c game l = passes PlanLength (begin plan_rows _) (c.has_length.ensures _ l.counts_are) c.in_ok-has_length.was

left_16 : (c : In_ok-well_formed) (game : List ℕ) → NumbersLoaded (game_of game) c.args.counts c.args.numbers.now → Left plan_rows (drop 2 plan_rows) (record { game = game; plan = c.args.plan.now })
unfolding plan_rows
left_16 c game l = passes PlanForm (passes PlanLength (begin plan_rows _) (c.has_length.ensures _ l.counts_are) c.in_ok-has_length.was) (c.well_formed-2.ensures _ l.counts_are) c.in_ok-well_formed.was

pub returns-in_err-has_length : goal.returns-in_err-has_length
unfolding plan_rows
returns-in_err-has_length c game l =
    let e = c.has_length.ensures _ l.counts_are in
    let was = c.in_err-has_length.was in
    refused_early game c.args.plan.now PlanLength (stops PlanLength (begin plan_rows _) refl e was).is (broken_fails PlanLength _ e was).1 (passed_on c.from_residual.ensures.1) refl _ _

pub returns-in_err-well_formed : goal.returns-in_err-well_formed
unfolding plan_rows
returns-in_err-well_formed c game l =
    let left = left_15 (goal.at.returns-in_err-well_formed c).In_ok-has_length game l in
    let e = c.well_formed-2.ensures _ l.counts_are in
    let was = c.in_err-well_formed.was in
    refused_early game c.args.plan.now PlanForm (stops PlanForm left refl e was).is (broken_fails PlanForm _ e was).1 (passed_on c.from_residual-in_err-well_formed.ensures.1) refl _ _

pub returns-in_err-plan_fits : goal.returns-in_err-plan_fits
unfolding plan_rows
returns-in_err-plan_fits c game l =
    let left = left_16 (goal.at.returns-in_err-plan_fits c).In_ok-well_formed game l in
    let e = c.plan_fits.ensures _ l in
    let was = c.in_err-plan_fits.was in
    refused_late game c.args.plan.now PlanUnfit (stops PlanUnfit left refl e.answer was).is (broken_fails PlanUnfit _ e.answer was).1 (passed_on c.from_residual-in_err-plan_fits.ensures.1) refl e.first e.second

pub returns : goal.returns
unfolding plan_rows
returns c game l =
    let left = left_16 (goal.at.returns c).In_ok-well_formed game l in
    let e = c.plan_fits.ensures _ l in
    plan_given game c.args.plan.now (ends (passes PlanUnfit left e.answer c.in_ok-plan_fits.was)) (header_denominators _ _ c.read-header.ensures) e.first e.second
