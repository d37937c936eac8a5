-- The game's refusal comes first, then the sheet's; then the plan is written.
use mathlib.Core.Path.{◌∙◌}
use native.Mathlib.Omega.{arith}
use native.Mathlib.Nat.{le_refl}
use Rattle.model.specs.Limits.{count_limit}
use Rattle.model.specs.Game.{game_of}
use Rattle.model.specs.Calls.PlanFromSheet.{sheet_files}
use Rattle.checks.proofs.AnswerLaws.{passed_on, number_ok}
use Rattle.loaded.specs.Sections.{numbers_room, payoffs_room}
use Rattle.game.proofs.Loads.{game_opened}
use Rattle.plan.proofs.Refusals.{few_sequences}
use Rattle.from_sheet.proofs.SheetPlans.{game_refused, sheet_refused, plan_written}
use Rattle.from_sheet.proofs.make.Goals as goal

pub returns-in_err-counts : goal.returns-in_err-counts
returns-in_err-counts c =
    let a = c.args in
    rw (passed_on c.from_residual.ensures.1) (game_refused a.width a.limit (sheet_files a.game.now a.sheet.now) a.out.now c.load.ensures c.in_err-counts.was)

pub weigh_sheet-requires : goal.weigh_sheet-requires
weigh_sheet-requires c =
    let o = game_opened c.args.game.now c.load.ensures c.in_ok-counts.was in
    (record { game = game_of c.args.game.now; loaded = o.in_numbers }, c.requires.0, c.requires.1, omega (arith, c.requires.2), le_refl count_limit, le_refl count_limit)

pub returns-in_err-weigh_sheet : goal.returns-in_err-weigh_sheet
returns-in_err-weigh_sheet c =
    let a = c.args in
    let o = game_opened a.game.now c.load.ensures c.in_ok-counts.was in
    rw (passed_on c.from_residual-in_err-weigh_sheet.ensures.1) (sheet_refused a.width a.limit (sheet_files a.game.now a.sheet.now) a.out.now o.none (c.weigh_sheet.ensures a.game.now o.in_numbers).answer c.in_err-weigh_sheet.was)

pub write-requires : goal.write-requires
write-requires c =
    let o = game_opened c.args.game.now c.load.ensures c.in_ok-counts.was in
    (few_sequences o.in_numbers.rules o.in_numbers.limits o.counts_are, omega (arith, c.weigh_sheet.auto.x, le_refl count_limit), omega (arith, c.weigh_sheet.auto.y, le_refl count_limit))

pub returns : goal.returns
returns c =
    let a = c.args in
    let o = game_opened a.game.now c.load.ensures c.in_ok-counts.was in
    let W = c.weigh_sheet.ensures a.game.now o.in_numbers in
    let fine = c.in_ok-weigh_sheet.was in
    c.write.ensures
    ∙ plan_written a.width a.limit (sheet_files a.game.now a.sheet.now) a.out.now o.none c.requires.2 o.counts_are (number_ok W.answer fine) (rw fine at W.weights)

pub load-requires : goal.load-requires
load-requires c = (le_refl numbers_room, le_refl payoffs_room)
