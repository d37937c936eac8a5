-- Answers that are worked out by hand, proved by computation: document 01's starred cases, its listing for plan F and others,
-- and further cases, each for a wrong turn that it bars.
use Prim.Native.Nat.{ℕ, ◌+◌}
use mathlib.Core.Path.{refl}
use mathlib.Core.List.{List, [], ◌∷◌}
use lib.IntN.{pos, negsuc}
use Rattle.algebra.specs.Bounded as Bounded
use Rattle.algebra.specs.Bounded.{list_to}
use Rattle.model.specs.Bits as Bits
use Rattle.model.specs.Game as Game
use Rattle.model.specs.Game.{game_of, one, two}
use Rattle.model.specs.Sequences as Sequences
use Rattle.model.specs.GameChecks as GameChecks
use Rattle.model.specs.Checks.{game_refusal}
use Rattle.model.specs.Plan as Plan
use Rattle.model.specs.PlanChecks as PlanChecks
use Rattle.model.specs.Rows as Rows
use Rattle.model.specs.Checks as Checks
use Rattle.model.specs.Table as Table
use Rattle.model.specs.Table.{payoff_table}
use Rattle.model.specs.Earnings as Earnings
use Rattle.model.specs.Earnings.{◌over◌}
use Rattle.model.specs.BestResponse as BestResponse
use Rattle.model.specs.Verdict as Verdict
use Rattle.model.specs.Verdict.{deviation}
use Rattle.model.specs.Writing as Writing
use Rattle.model.specs.Writing.{plan_bytes}
use Rattle.model.specs.Report as Report
use Rattle.model.specs.Report.{ascii, printed}
use Rattle.model.specs.Starred as Starred
use Rattle.model.specs.Starred.{decision, chance, leaf, game_file, study, plan_m, plan_f, bare, absent_minded, pair_result, row, fitting, Case, ◌is◌, AllHold, end, ◌then◌, starred}

-- every starred case holds
pub starred_hold : AllHold starred
unfolding Bounded.opened Bits.opened Game.opened Sequences.opened GameChecks.opened Plan.opened PlanChecks.opened Rows.opened Checks.opened Table.opened Earnings.opened BestResponse.opened Verdict.opened Writing.opened Starred.opened
starred_hold = refl then refl then refl then refl then refl then refl then refl then refl then refl then refl then refl then refl then refl then refl then end

-- plan F with player 1's weights over 2: the gain is counted over D0 × D1 × D2
unfoldable doubled : List ℕ
doubled = plan_bytes 2 2 (0 ∷ 2 ∷ 0 ∷ 0 ∷ 1 ∷ 1 ∷ [])

-- against l 1, r 3 move T is best at set 2, though S is at the node after l
unfoldable pub leaning : List ℕ
leaning = plan_bytes 1 4 (0 ∷ 1 ∷ 0 ∷ 0 ∷ 1 ∷ 3 ∷ [])

-- L, T and r: only player 2 gains
unfoldable pub second : List ℕ
second = plan_bytes 1 1 (1 ∷ 0 ∷ 0 ∷ 1 ∷ 0 ∷ 1 ∷ [])

-- two leaves under one chance node stand at one pair of sequences
unfoldable pub drawn : List ℕ
drawn = game_file 3 [] [] (chance 0 0 3 2 ∷ leaf 0 0 1 (pos 1) (negsuc 0) ∷ leaf 0 1 2 (pos 4) (pos 2) ∷ [])

-- set 0 follows set 1
unfoldable pub backward : List ℕ
backward =
    game_file 1 (0 ∷ 0 ∷ []) (2 ∷ 2 ∷ [])
    (decision 0 0 1 1
    ∷ decision 0 0 1 0
    ∷ leaf 0 1 1 (pos 1) (pos 0)
    ∷ leaf 1 0 1 (pos 0) (pos 0)
    ∷ leaf 1 1 1 (pos 5) (pos 0)
    ∷ [])

-- move 1 at set 1, which ends the game
unfoldable pub cautious : List ℕ
cautious = plan_bytes 1 1 (0 ∷ 0 ∷ 0 ∷ 1 ∷ [])

-- A game of amounts below zero, D0 = 3,000: with weight 1 a leaf of -1 and -2,000, and with weight 2,999 a set of player 1,
-- whose move 0 gives 0 and whose move 1 gives 1.
unfoldable losing : List ℕ
losing =
    game_file 3000 (0 ∷ []) (2 ∷ [])
    (chance 0 0 3000 2
    ∷ leaf 0 0 1 (negsuc 0) (negsuc 1999)
    ∷ decision 0 1 2999 0
    ∷ leaf 2 0 2999 (pos 0) (pos 0)
    ∷ leaf 2 1 2999 (pos 1) (pos 0)
    ∷ [])

-- move 0 there
unfoldable first : List ℕ
first = plan_bytes 1 1 (1 ∷ 0 ∷ [])

-- with weight 1 of 3 a leaf of -5 and 2, and else nothing
unfoldable thirds : List ℕ
thirds = game_file 3 [] [] (chance 0 0 3 2 ∷ leaf 0 0 1 (negsuc 4) (pos 2) ∷ leaf 0 1 2 (pos 0) (pos 0) ∷ [])

-- one leaf: -3 and 0
unfoldable nought : List ℕ
nought = game_file 1 [] [] (leaf 0 0 1 (negsuc 2) (pos 0) ∷ [])

-- the lowest and the highest payoff, D0 = 4,095
unfoldable extreme : List ℕ
extreme = game_file 4095 [] [] (leaf 0 0 4095 (negsuc 32767) (pos 32767) ∷ [])

-- D1 = D2 = 4,095
unfoldable large : List ℕ
large = plan_bytes 4095 4095 []

-- What the desk program prints: for plan F, D1 = 1 and D2 = 2; for plan M, over 9 and not reduced; where player 2 gains;
-- for plan F with D1 = 2; where amounts are below 0; where they are no whole numbers; where one is 0 beside one below 0;
-- and where they are the largest.
abbrev listings : List Case
listings =
    (printed study plan_f is ascii "value 1 6 of 2\nvalue 2 6 of 2\nbest 1 7 of 2\nbest 2 6 of 2\ndeviation player 1 gain 1 of 2\nset 0 move 0\nset 2 move 0\n")
    ∷ (printed study plan_m is ascii "value 1 36 of 9\nvalue 2 24 of 9\nbest 1 36 of 9\nbest 2 24 of 9\naccepted\n")
    ∷ (printed study second is ascii "value 1 6 of 1\nvalue 2 1 of 1\nbest 1 6 of 1\nbest 2 3 of 1\ndeviation player 2 gain 2 of 1\nset 1 move 0\n")
    ∷ (printed study doubled is ascii "value 1 12 of 4\nvalue 2 12 of 4\nbest 1 14 of 4\nbest 2 12 of 4\ndeviation player 1 gain 2 of 4\nset 0 move 0\nset 2 move 0\n")
    ∷ (printed losing first is ascii "value 1 -1 of 3000\nvalue 2 -2000 of 3000\nbest 1 2998 of 3000\nbest 2 -2000 of 3000\ndeviation player 1 gain 2999 of 3000\nset 0 move 1\n")
    ∷ (printed thirds bare is ascii "value 1 -5 of 3\nvalue 2 2 of 3\nbest 1 -5 of 3\nbest 2 2 of 3\naccepted\n")
    ∷ (printed nought bare is ascii "value 1 -3 of 1\nvalue 2 0 of 1\nbest 1 -3 of 1\nbest 2 0 of 1\naccepted\n")
    ∷ (printed extreme large is ascii "value 1 -2250150948864000 of 68669157375\nvalue 2 2250082279706625 of 68669157375\nbest 1 -2250150948864000 of 68669157375\nbest 2 2250082279706625 of 68669157375\naccepted\n")
    -- "as `refusal 13`"
    ∷ (printed absent_minded [] is ascii "refusal 13\n")
    ∷ []

listings_hold : AllHold listings
unfolding doubled second losing first thirds nought extreme large Bounded.opened Bits.opened Game.opened Sequences.opened Rows.opened GameChecks.opened Checks.opened Plan.opened PlanChecks.opened Earnings.opened BestResponse.opened Verdict.opened Writing.opened Report.opened Starred.opened
listings_hold = refl then refl then refl then refl then refl then refl then refl then refl then refl then end

-- what the definitions give for the games and plans above
abbrev worked : List Case
worked =
    (pair_result study doubled is fitting (pos 12 over 4) (pos 12 over 4) (pos 7 over 2) (pos 6 over 2) (deviation one (pos 2) ((0, 0) ∷ (2, 0) ∷ [])))
    ∷ (pair_result study leaning is fitting (pos 12 over 4) (pos 12 over 4) (pos 18 over 4) (pos 3 over 1) (deviation one (pos 6) ((0, 0) ∷ (2, 1) ∷ [])))
    ∷ (pair_result study second is fitting (pos 6 over 1) (pos 1 over 1) (pos 6 over 1) (pos 3 over 1) (deviation two (pos 2) ((1, 0) ∷ [])))
    ∷ (game_refusal drawn is 0)
    ∷ (payoff_table (game_of drawn) is row 0 0 (pos 9) (pos 3) ∷ [])
    ∷ (pair_result backward cautious is fitting (pos 1 over 1) (pos 0 over 1) (pos 5 over 1) (pos 0 over 1) (deviation one (pos 4) ((0, 1) ∷ (1, 0) ∷ [])))
    ∷ []

worked_hold : AllHold worked
unfolding doubled leaning second drawn backward cautious Bounded.opened Bits.opened Game.opened Sequences.opened GameChecks.opened Plan.opened PlanChecks.opened Rows.opened Checks.opened Table.opened Earnings.opened BestResponse.opened Verdict.opened Writing.opened Starred.opened
worked_hold = refl then refl then refl then refl then refl then refl then end

-- a buffer of so many entries, 200, 201, ..: what is kept of it is seen, and where
unfoldable pub lent : ℕ → List ℕ
lent n = list_to n (λ i. 200 + i)
