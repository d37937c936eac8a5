-- Play sheets worked out by hand, proved by computation: what each call gives, with buffers as long as the result, longer, and one byte short;
-- and what it refuses, each case for a wrong turn that it bars. By its name this file is checked before the laws of sheets, so that a wrong
-- definition is first refused by a case whose answer changes.
use Prim.Native.Nat.{ℕ}
use mathlib.Core.Path.{refl}
use mathlib.Core.List.{List, [], ◌∷◌, ◌++◌}
use lib.IntN.{pos}
use Rattle.algebra.specs.Arrays.{item}
use Rattle.algebra.specs.Bounded as Bounded
use Rattle.algebra.specs.Divisors as Divisors
use Rattle.algebra.specs.Divisors.{gcd, gcd_to, lcm, lcm_to}
use Rattle.model.specs.Bits as Bits
use Rattle.model.specs.Bits.{run_bits, pack}
use Rattle.model.specs.Game as Game
use Rattle.model.specs.Game.{game_of, Player, one, two}
use Rattle.model.specs.Sequences as Sequences
use Rattle.model.specs.GameChecks as GameChecks
use Rattle.model.specs.Plan as Plan
use Rattle.model.specs.Plan.{plan_pair_of}
use Rattle.model.specs.PlanChecks as PlanChecks
use Rattle.model.specs.PlanOrder as PlanOrder
use Rattle.model.specs.Earnings.{◌over◌}
use Rattle.model.specs.Writing as Writing
use Rattle.model.specs.Writing.{plan_bytes}
use Rattle.model.specs.Rows as Rows
use Rattle.model.specs.Checks as Checks
use Rattle.model.specs.Sheet as Sheet
use Rattle.model.specs.Sheet.{odds_of, odds_probability, lowest_numerator, lowest_denominator, plan_divisor}
use Rattle.model.specs.Call as Call
use Rattle.model.specs.Call.{given, refused, Outcome, outcome}
use Rattle.model.specs.Calls.PlanFromSheet as PlanFromSheet
use Rattle.model.specs.Calls.PlanFromSheet.{sheet_rows, plan_from_sheet_of}
use Rattle.model.specs.Calls.SheetFromPlan as SheetFromPlan
use Rattle.model.specs.Calls.SheetFromPlan.{sheet_from_plan_of}
use Rattle.model.specs.Starred as Starred
use Rattle.model.specs.Starred.{decision, leaf, game_file, study, plan_m, plan_q, plan_f, single, bare, absent_minded, Case, ◌is◌, AllHold, end, ◌then◌}
use Rattle.model.proofs.AllStarred.{backward, cautious, lent}

-- a sheet of 12 bits a move. For the game of document 003 the moves are L, R, S, T of player 1, then l, r of player 2.
unfoldable pub sheet : List ℕ → List ℕ
sheet odds = pack (run_bits 12 odds)

-- the sheet of plan M, byte by byte
abbrev pub sheet_m : List ℕ
sheet_m = 0x00 ∷ 0x10 ∷ 0x00 ∷ 0x00 ∷ 0x10 ∷ 0x02 ∷ 0x00 ∷ 0x10 ∷ 0x02 ∷ []

-- a third of L and a fifth of S after it, a third of l: the plan over 15 and 3, byte by byte
abbrev pub over_fifteen : List ℕ
over_fifteen = 0x10 ∷ 0x0F ∷ 0x00 ∷ 0x30 ∷ 0x00 ∷ 0x50 ∷ 0x0A ∷ 0x00 ∷ 0x10 ∷ 0x04 ∷ 0x00 ∷ 0x10 ∷ 0x02 ∷ []

-- plan M with D2 = 6, and with D1 = 6 and D2 = 9
unfoldable over_six : List ℕ
over_six = plan_bytes 3 6 (3 ∷ 0 ∷ 1 ∷ 2 ∷ 2 ∷ 4 ∷ [])

unfoldable over_six_nine : List ℕ
over_six_nine = plan_bytes 6 9 (6 ∷ 0 ∷ 2 ∷ 4 ∷ 3 ∷ 6 ∷ [])

-- player 2 alone has a set, of three moves: 36 bits, and four that fill the fifth byte
unfoldable pub wide : List ℕ
wide = game_file 1 (1 ∷ []) (3 ∷ []) (decision 0 0 1 0 ∷ leaf 0 0 1 (pos 0) (pos 0) ∷ leaf 0 1 1 (pos 0) (pos 0) ∷ leaf 0 2 1 (pos 0) (pos 0) ∷ [])

-- three sets of player 1's, each after move 0 of the one before
unfoldable pub chain : List ℕ
chain =
    game_file 1 (0 ∷ 0 ∷ 0 ∷ []) (2 ∷ 2 ∷ 2 ∷ [])
    (decision 0 0 1 0
    ∷ decision 0 0 1 1
    ∷ leaf 0 1 1 (pos 0) (pos 0)
    ∷ decision 1 0 1 2
    ∷ leaf 1 1 1 (pos 0) (pos 0)
    ∷ leaf 3 0 1 (pos 0) (pos 0)
    ∷ leaf 3 1 1 (pos 0) (pos 0)
    ∷ [])

-- a plan file of six moves is given whole
abbrev pub gives : List ℕ → Outcome (ℕ ∷ []) ℕ
gives plan = outcome (given 13) (plan, tt)

-- plans made of sheets
abbrev pub made : List Case
made =
    -- plan M comes back
    (plan_from_sheet_of study sheet_m (lent 13) is outcome (given 13) (plan_m, tt))
    ∷ (plan_from_sheet_of study sheet_m (lent 15) is outcome (given 13) (plan_m ++ 213 ∷ 214 ∷ [], tt))
    ∷ (plan_from_sheet_of study sheet_m (lent 12) is outcome (refused 18) (lent 12, tt))
    -- 15 is the common denominator of a third, two thirds, a fifteenth and four of them; player 2's own is 3
    ∷ (plan_from_sheet_of study (sheet (1 ∷ 2 ∷ 1 ∷ 4 ∷ 3 ∷ 6 ∷ [])) (lent 13) is gives over_fifteen)
    -- a half of L, two thirds of S after it
    ∷ (plan_from_sheet_of study (sheet (2 ∷ 2 ∷ 2 ∷ 1 ∷ 1 ∷ 0 ∷ [])) (lent 13) is gives (plan_bytes 6 1 (3 ∷ 3 ∷ 2 ∷ 1 ∷ 1 ∷ 0 ∷ [])))
    -- 6 of 10 and then 5 of 6 are a half: 10 serves, though the totals 10 and 6 have the common multiple 30
    ∷ (plan_from_sheet_of study (sheet (6 ∷ 4 ∷ 5 ∷ 1 ∷ 1 ∷ 0 ∷ [])) (lent 13) is gives (plan_bytes 10 1 (6 ∷ 4 ∷ 5 ∷ 1 ∷ 1 ∷ 0 ∷ [])))
    -- odds at a set that is never arrived at do not count, and none are asked for there
    ∷ (plan_from_sheet_of study (sheet (0 ∷ 7 ∷ 5 ∷ 8 ∷ 4 ∷ 0 ∷ [])) (lent 13) is gives plan_q)
    ∷ (plan_from_sheet_of study (sheet (0 ∷ 7 ∷ 0 ∷ 0 ∷ 4 ∷ 0 ∷ [])) (lent 13) is gives plan_q)
    ∷ (plan_from_sheet_of study (sheet (0 ∷ 1 ∷ 0 ∷ 0 ∷ 1 ∷ 0 ∷ [])) (lent 13) is gives plan_q)
    -- whether the first or the last move on the way there has none
    ∷ (plan_from_sheet_of chain (sheet (0 ∷ 1 ∷ 1 ∷ 1 ∷ 0 ∷ 0 ∷ [])) (lent 13) is gives (plan_bytes 1 1 (0 ∷ 1 ∷ 0 ∷ 0 ∷ 0 ∷ 0 ∷ [])))
    ∷ (plan_from_sheet_of chain (sheet (1 ∷ 0 ∷ 0 ∷ 1 ∷ 0 ∷ 0 ∷ [])) (lent 13) is gives (plan_bytes 1 1 (1 ∷ 0 ∷ 0 ∷ 1 ∷ 0 ∷ 0 ∷ [])))
    -- a half, a third of it, a fifth of that
    ∷ (plan_from_sheet_of chain (sheet (1 ∷ 1 ∷ 1 ∷ 2 ∷ 1 ∷ 4 ∷ [])) (lent 13) is gives (plan_bytes 30 1 (15 ∷ 15 ∷ 5 ∷ 10 ∷ 1 ∷ 4 ∷ [])))
    -- D1 = 4,095 is taken
    ∷ (plan_from_sheet_of study (sheet (1 ∷ 4094 ∷ 1 ∷ 0 ∷ 1 ∷ 0 ∷ [])) (lent 13) is gives (plan_bytes 4095 1 (1 ∷ 4094 ∷ 1 ∷ 0 ∷ 1 ∷ 0 ∷ [])))
    -- set 0 follows set 1; player 2 has no set, and D2 is 1
    ∷ (plan_from_sheet_of backward (sheet (1 ∷ 2 ∷ 1 ∷ 1 ∷ [])) (lent 10) is outcome (given 10) (plan_bytes 6 1 (1 ∷ 2 ∷ 3 ∷ 3 ∷ []), tt))
    -- player 1 has none, and D1 is 1; four zero bits fill the sheet
    ∷ (plan_from_sheet_of wide (0x00 ∷ 0x20 ∷ 0x04 ∷ 0x00 ∷ 0x60 ∷ []) (lent 9) is outcome (given 9) (0x10 ∷ 0x01 ∷ 0x00 ∷ 0x60 ∷ 0x00 ∷ 0x10 ∷ 0x02 ∷ 0x00 ∷ 0x30 ∷ [], tt))
    -- no move: an empty sheet
    ∷ (plan_from_sheet_of single [] (lent 5) is outcome (given 4) (0x10 ∷ 0x01 ∷ 0x00 ∷ 0x10 ∷ 204 ∷ [], tt))
    ∷ []

pub made_hold : AllHold made
unfolding sheet lent backward wide chain sheet_rows PlanFromSheet.call Bounded.opened Divisors.opened Bits.opened Game.opened Sequences.opened GameChecks.opened Plan.opened PlanChecks.opened PlanOrder.opened Writing.opened Rows.opened Checks.opened Sheet.opened Call.opened Starred.opened
made_hold = refl then refl then refl then refl then refl then refl then refl then refl then refl then refl then refl then refl then refl then refl then refl then refl then end

-- sheets that no plan is made of
abbrev refusals : List Case
refusals =
    -- 19: a byte too many or too few, and a filling bit that is one, the first and the last
    (plan_from_sheet_of study (sheet_m ++ 0x00 ∷ []) (lent 13) is outcome (refused 19) (lent 13, tt))
    ∷ (plan_from_sheet_of study [] (lent 13) is outcome (refused 19) (lent 13, tt))
    ∷ (plan_from_sheet_of wide (0x00 ∷ 0x20 ∷ 0x04 ∷ 0x00 ∷ 0x68 ∷ []) (lent 9) is outcome (refused 19) (lent 9, tt))
    ∷ (plan_from_sheet_of wide (0x00 ∷ 0x20 ∷ 0x04 ∷ 0x00 ∷ 0x61 ∷ []) (lent 9) is outcome (refused 19) (lent 9, tt))
    ∷ (plan_from_sheet_of single (0x00 ∷ []) (lent 4) is outcome (refused 19) (lent 4, tt))
    -- 20: set 2 is arrived at and has no odds
    ∷ (plan_from_sheet_of study (sheet (1 ∷ 1 ∷ 0 ∷ 0 ∷ 1 ∷ 0 ∷ [])) (lent 13) is outcome (refused 20) (lent 13, tt))
    -- 21: 1 of 4,096, whatever the buffer
    ∷ (plan_from_sheet_of study (sheet (1 ∷ 4095 ∷ 1 ∷ 0 ∷ 1 ∷ 0 ∷ [])) (lent 13) is outcome (refused 21) (lent 13, tt))
    ∷ (plan_from_sheet_of study (sheet (1 ∷ 4095 ∷ 1 ∷ 0 ∷ 1 ∷ 0 ∷ [])) [] is outcome (refused 21) ([], tt))
    -- and of player 2
    ∷ (plan_from_sheet_of study (sheet (1 ∷ 0 ∷ 1 ∷ 0 ∷ 1 ∷ 4095 ∷ [])) (lent 13) is outcome (refused 21) (lent 13, tt))
    -- player 2's 20 before player 1's 21
    ∷ (plan_from_sheet_of study (sheet (1 ∷ 4095 ∷ 1 ∷ 0 ∷ 0 ∷ 0 ∷ [])) (lent 13) is outcome (refused 20) (lent 13, tt))
    -- the game's refusals before the sheet's
    ∷ (plan_from_sheet_of absent_minded [] [] is outcome (refused 13) ([], tt))
    ∷ []

refusals_hold : AllHold refusals
unfolding sheet lent wide sheet_rows PlanFromSheet.call Bounded.opened Divisors.opened Bits.opened Game.opened Sequences.opened GameChecks.opened Plan.opened PlanChecks.opened PlanOrder.opened Writing.opened Rows.opened Checks.opened Sheet.opened Call.opened Starred.opened
refusals_hold = refl then refl then refl then refl then refl then refl then refl then refl then refl then refl then refl then end

-- sheets made of plans
abbrev sheets : List Case
sheets =
    (sheet_from_plan_of study plan_m (lent 9) is outcome (given 9) (sheet_m, tt))
    ∷ (sheet_from_plan_of study plan_m (lent 11) is outcome (given 9) (sheet_m ++ 209 ∷ 210 ∷ [], tt))
    ∷ (sheet_from_plan_of study plan_m (lent 8) is outcome (refused 18) (lent 8, tt))
    -- M over other denominators has the same sheet, and so comes back as M
    ∷ (sheet_from_plan_of study over_six (lent 9) is outcome (given 9) (sheet_m, tt))
    ∷ (sheet_from_plan_of study over_six_nine (lent 9) is outcome (given 9) (sheet_m, tt))
    -- each set's weights are divided by their own common divisor, 3 and 2, which need not divide D1
    ∷ (sheet_from_plan_of study (plan_bytes 9 1 (6 ∷ 3 ∷ 2 ∷ 4 ∷ 1 ∷ 0 ∷ [])) (lent 9) is outcome (given 9) (sheet (2 ∷ 1 ∷ 1 ∷ 2 ∷ 1 ∷ 0 ∷ []), tt))
    -- zeros at set 2, where plan F never arrives
    ∷ (sheet_from_plan_of study plan_f (lent 9) is outcome (given 9) (sheet (0 ∷ 1 ∷ 0 ∷ 0 ∷ 1 ∷ 1 ∷ []), tt))
    -- the odds 3 and 6 come back as 1 and 2
    ∷ (sheet_from_plan_of study over_fifteen (lent 9) is outcome (given 9) (sheet (1 ∷ 2 ∷ 1 ∷ 4 ∷ 1 ∷ 2 ∷ []), tt))
    -- set 0 follows move 0 of set 1, which is not made
    ∷ (sheet_from_plan_of backward cautious (lent 6) is outcome (given 6) (sheet (0 ∷ 0 ∷ 0 ∷ 1 ∷ []), tt))
    -- weights 4, 0 and 8 over 12: four zero bits fill the sheet
    ∷ (sheet_from_plan_of wide (plan_bytes 7 12 (4 ∷ 0 ∷ 8 ∷ [])) (lent 5) is outcome (given 5) (0x00 ∷ 0x10 ∷ 0x00 ∷ 0x00 ∷ 0x20 ∷ [], tt))
    ∷ (sheet_from_plan_of single bare [] is outcome (given 0) ([], tt))
    ∷ (sheet_from_plan_of study bare [] is outcome (refused 14) ([], tt))
    ∷ []

sheets_hold : AllHold sheets
unfolding sheet lent over_six over_six_nine wide backward cautious SheetFromPlan.call Bounded.opened Divisors.opened Bits.opened Game.opened Sequences.opened GameChecks.opened Plan.opened PlanChecks.opened PlanOrder.opened Writing.opened Rows.opened Checks.opened Sheet.opened Call.opened Starred.opened
sheets_hold = refl then refl then refl then refl then refl then refl then refl then refl then refl then refl then refl then refl then end

-- the common divisor of a player's plan in the game of document 003
abbrev divisor_of : Player → (plan : List ℕ) → ℕ
divisor_of p plan = plan_divisor (game_of study) p (plan_pair_of (game_of study) plan p)

-- divisors and multiples; L 6 and R 4, and after L S 5 and T 1, as fractions; and which plans are over the smallest D
abbrev numbers : List Case
numbers =
    (gcd 36 24 is 12)
    ∷ (gcd 0 7 is 7)
    ∷ (gcd 7 0 is 7)
    ∷ (gcd_to 3 (item (12 ∷ 18 ∷ 8 ∷ [])) is 2)
    ∷ (lcm 10 6 is 30)
    ∷ (lcm_to 3 (item (4 ∷ 6 ∷ 9 ∷ [])) is 36)
    ∷ (odds_probability (game_of study) (odds_of (game_of study) 12 (sheet (6 ∷ 4 ∷ 5 ∷ 1 ∷ 1 ∷ 0 ∷ []))) ((0, 0) ∷ (2, 0) ∷ []) is pos 30 over 60)
    ∷ (lowest_numerator (game_of study) (odds_of (game_of study) 12 (sheet (6 ∷ 4 ∷ 5 ∷ 1 ∷ 1 ∷ 0 ∷ []))) ((0, 0) ∷ (2, 0) ∷ []) is 1)
    ∷ (lowest_denominator (game_of study) (odds_of (game_of study) 12 (sheet (6 ∷ 4 ∷ 5 ∷ 1 ∷ 1 ∷ 0 ∷ []))) ((0, 0) ∷ (2, 0) ∷ []) is 2)
    ∷ (divisor_of one plan_m is 1)
    ∷ (divisor_of two plan_m is 1)
    ∷ (divisor_of one over_six is 1)
    ∷ (divisor_of two over_six is 2)
    ∷ (divisor_of one over_six_nine is 2)
    ∷ (divisor_of two over_six_nine is 3)
    ∷ []

numbers_hold : AllHold numbers
unfolding sheet over_six over_six_nine Bounded.opened Divisors.opened Bits.opened Game.opened Sequences.opened Plan.opened Writing.opened Sheet.opened Starred.opened
numbers_hold = refl then refl then refl then refl then refl then refl then refl then refl then refl then refl then refl then refl then refl then refl then refl then end
