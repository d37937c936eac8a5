-- What reading refuses is refused; of the odds that it gives the sheet is made.
use mathlib.Core.Path.{sym, ◌∙◌}
use native.Mathlib.Omega.{arith}
use native.Mathlib.Nat.{le_refl}
use lib.Seq.{length-take-le}
use Rattle.model.specs.Limits.{count_limit}
use Rattle.checks.proofs.AnswerLaws.{passed_on}
use Rattle.to_sheet.proofs.MadeSheets.{sheet_refused, OddsTaken, odds_read, sheet_made}
use Rattle.to_sheet.proofs.make.Goals as goal
use Rattle.to_sheet.proofs.make.Goals.{In_ok-count}

pub returns-in_err-count : goal.returns-in_err-count
returns-in_err-count c = rw (passed_on c.from_residual.ensures.1) (sheet_refused _ _ _ _ _ (omega arith) c.read_odds.ensures c.in_err-count.was)

-- what was read
read : (c : In_ok-count) → let a = c.args in OddsTaken a.width a.game.now a.plan.now a.out.now c.in_ok-count.count c.read_odds.new.out
read c = odds_read _ _ _ _ _ c.read_odds.ensures c.in_ok-count.was

pub slice_bounds-odds-end : goal.slice_bounds-odds-end
slice_bounds-odds-end c = omega (arith, (read c).small, c.read_odds.auto.out)

pub returns : goal.returns
returns c = c.put_sheet.ensures ∙ sheet_made _ _ _ _ (read (goal.at.returns c).In_ok-count)

pub put_sheet-requires : goal.put_sheet-requires
put_sheet-requires c =
    (c.requires.0, c.requires.1, omega (arith, (read (goal.at.put_sheet-requires c).In_ok-count).small, length-take-le c.in_ok-count.count c.read_odds.new.out (slice_bounds-odds-end (goal.at.put_sheet-requires c).In_ok-count)))

pub read_odds-requires : goal.read_odds-requires
read_odds-requires c = le_refl count_limit

pub slice_bounds-put_sheet-end : goal.slice_bounds-put_sheet-end
slice_bounds-put_sheet-end c = sym (length-take-le _ _ (slice_bounds-odds-end (goal.at.slice_bounds-put_sheet-end c).In_ok-count))
