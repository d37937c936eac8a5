-- Calls worked out by hand from document 01, proved by computation: what each call gives, with buffers as long as the result,
-- longer, and one entry short. What 18 is measured against is said here in numbers.
use Prim.Native.Nat.{ℕ, ◌+◌, pred}
use mathlib.Core.Path.{refl}
use mathlib.Core.Bool.{true, false, cond}
use mathlib.Core.List.{List, [], ◌∷◌, ◌++◌}
use lib.Dec.{eqb}
use lib.IntN.{ℤ, pos, negsuc}
use Rattle.algebra.specs.Bounded as Bounded
use Rattle.algebra.specs.Bounded.{list_to}
use Rattle.model.specs.Bits as Bits
use Rattle.model.specs.Game as Game
use Rattle.model.specs.Sequences as Sequences
use Rattle.model.specs.GameChecks as GameChecks
use Rattle.model.specs.Plan as Plan
use Rattle.model.specs.PlanChecks as PlanChecks
use Rattle.model.specs.Table as Table
use Rattle.model.specs.Earnings as Earnings
use Rattle.model.specs.BestResponse as BestResponse
use Rattle.model.specs.Verdict as Pair
use Rattle.model.specs.Tolerance as Tolerated
use Rattle.model.specs.Tolerance.{thousandths_up}
use Rattle.model.specs.Writing as Writing
use Rattle.model.specs.Writing.{GameFields, plan_bytes}
use Rattle.model.specs.Report as Text
use Rattle.model.specs.Report.{ascii}
use Rattle.model.specs.Rows as Rows
use Rattle.model.specs.Checks as Checks
use Rattle.model.specs.Call as Call
use Rattle.model.specs.Call.{Buffers, given, refused, outcome}
use Rattle.model.specs.Exported.{exported, leaves}
use Rattle.model.specs.Calls.Asked.{asked_rows}
use Rattle.model.specs.Calls.CheckGame as CheckGame
use Rattle.model.specs.Calls.CheckGame.{Counts, check_game_of}
use Rattle.model.specs.Calls.SetEntry as SetEntry
use Rattle.model.specs.Calls.SetEntry.{set_entry_of}
use Rattle.model.specs.Calls.NodeRecord as NodeRecord
use Rattle.model.specs.Calls.NodeRecord.{Place, node_record_of}
use Rattle.model.specs.Calls.OwnSequence as OwnSequence
use Rattle.model.specs.Calls.OwnSequence.{own_sequence_of}
use Rattle.model.specs.Calls.GameFields as GameFields
use Rattle.model.specs.Calls.GameFields.{game_fields_of}
use Rattle.model.specs.Calls.CheckPlan as CheckPlan
use Rattle.model.specs.Calls.CheckPlan.{check_plan_of}
use Rattle.model.specs.Calls.PlanFields as PlanFields
use Rattle.model.specs.Calls.PlanFields.{PlanCounts, plan_fields_of, denominators_in}
use Rattle.model.specs.Calls.PayoffTable as PayoffTable
use Rattle.model.specs.Calls.PayoffTable.{payoff_rows_of, payoff_columns}
use Rattle.model.specs.Calls.Values as Values
use Rattle.model.specs.Calls.Values.{values_call}
use Rattle.model.specs.Calls.Verdict as Verdict
use Rattle.model.specs.Calls.Verdict.{accepted, deviates, verdict_call, numbers, verdict_numbers}
use Rattle.model.specs.Calls.Tolerance as Tolerance
use Rattle.model.specs.Calls.Tolerance.{tolerates}
use Rattle.model.specs.Calls.Report as Report
use Rattle.model.specs.Calls.Report.{report_call}
use Rattle.model.specs.Calls.RefusalLine as RefusalLine
use Rattle.model.specs.Calls.RefusalLine.{refusal_line_of}
use Rattle.model.specs.Calls.WriteGame as WriteGame
use Rattle.model.specs.Calls.WriteGame.{write_game_of}
use Rattle.model.specs.Calls.WritePlan as WritePlan
use Rattle.model.specs.Calls.WritePlan.{write_plan_of}
use Rattle.model.specs.Calls.RewriteGame as RewriteGame
use Rattle.model.specs.Calls.RewriteGame.{rewrite_game_of}
use Rattle.model.specs.Calls.RewritePlan as RewritePlan
use Rattle.model.specs.Calls.RewritePlan.{rewrite_plan_of}
use Rattle.model.specs.Calls.RereadGame as RereadGame
use Rattle.model.specs.Calls.RereadGame.{reread_game_of}
use Rattle.model.specs.Calls.RereadPlan as RereadPlan
use Rattle.model.specs.Calls.RereadPlan.{reread_plan_of}
use Rattle.model.specs.Starred as Starred
use Rattle.model.specs.Starred.{study, plan_m, plan_f, single, bare, absent_minded, row, Case, ◌is◌, AllHold, end, ◌then◌}
use Rattle.model.proofs.AllStarred.{leaning, second, drawn, lent}

-- a buffer of integers, -1, -2, ..
unfoldable lent_z : ℕ → List ℤ
lent_z n = list_to n negsuc

-- N, H and D0 of the game of document 003
abbrev study_counts : Counts
study_counts = record { nodes = 9; sets = 3; root_weight = 1 }

-- where a node stands
abbrev at : (parent move weight : ℕ) → Place
at parent move weight = record { parent = parent; move = move; weight = weight }

-- calls without buffers, each with a refusal
abbrev look_ups : List Case
look_ups =
    (check_game_of study is outcome (given study_counts) tt)
    ∷ (check_game_of absent_minded is outcome (refused 13) tt)
    ∷ (set_entry_of study 1 is outcome (given (record { player = 1; moves = 2 })) tt)
    ∷ (set_entry_of study 2 is outcome (given (record { player = 0; moves = 2 })) tt)
    ∷ (set_entry_of study 3 is outcome (refused 17) tt)
    ∷ (node_record_of study 8 is outcome (given (NodeRecord.leaf (at 4 1 1) (pos 6) (pos 1))) tt)
    ∷ (node_record_of study 4 is outcome (given (NodeRecord.decision (at 1 1 1) 2)) tt)
    ∷ (node_record_of drawn 0 is outcome (given (NodeRecord.chance (at 0 0 3) 2)) tt)
    ∷ (node_record_of study 9 is outcome (refused 17) tt)
    ∷ (own_sequence_of study 2 is outcome (given 1) tt)
    ∷ (own_sequence_of study 1 is outcome (given 0) tt)
    ∷ (own_sequence_of study 3 is outcome (refused 17) tt)
    ∷ (check_plan_of study plan_f is outcome (given (record { d1 = 1; d2 = 2 })) tt)
    ∷ (check_plan_of study bare is outcome (refused 14) tt)
    ∷ (values_call study plan_f is outcome (given (record { value1 = pos 6; value2 = pos 6; best1 = pos 7; best2 = pos 3; d0 = 1; d1 = 1; d2 = 2 })) tt)
    ∷ (values_call study bare is outcome (refused 14) tt)
    ∷ []

look_ups_hold : AllHold look_ups
unfolding drawn asked_rows CheckGame.call SetEntry.call NodeRecord.call OwnSequence.call CheckPlan.call Values.call Bounded.opened Bits.opened Game.opened Sequences.opened GameChecks.opened Plan.opened PlanChecks.opened Earnings.opened BestResponse.opened Writing.opened Rows.opened Checks.opened Call.opened Starred.opened
look_ups_hold = refl then refl then refl then refl then refl then refl then refl then refl then refl then refl then refl then refl then refl then refl then refl then refl then end

-- The fields of the game of document 003, column by column.
abbrev players : List ℕ
players = 0 ∷ 1 ∷ 0 ∷ []

abbrev counts : List ℕ
counts = 2 ∷ 2 ∷ 2 ∷ []

abbrev kinds : List ℕ
kinds = 1 ∷ 1 ∷ 0 ∷ 1 ∷ 1 ∷ 0 ∷ 0 ∷ 0 ∷ 0 ∷ []

abbrev parents : List ℕ
parents = 0 ∷ 0 ∷ 0 ∷ 1 ∷ 1 ∷ 3 ∷ 3 ∷ 4 ∷ 4 ∷ []

abbrev moves : List ℕ
moves = 0 ∷ 0 ∷ 1 ∷ 0 ∷ 1 ∷ 0 ∷ 1 ∷ 0 ∷ 1 ∷ []

abbrev weights : List ℕ
weights = 1 ∷ 1 ∷ 1 ∷ 1 ∷ 1 ∷ 1 ∷ 1 ∷ 1 ∷ 1 ∷ []

abbrev sets : List ℕ
sets = 0 ∷ 1 ∷ 0 ∷ 2 ∷ 2 ∷ 0 ∷ 0 ∷ 0 ∷ 0 ∷ []

abbrev chances : List ℕ
chances = 0 ∷ 0 ∷ 0 ∷ 0 ∷ 0 ∷ 0 ∷ 0 ∷ 0 ∷ 0 ∷ []

abbrev payoffs1 : List ℤ
payoffs1 = pos 0 ∷ pos 0 ∷ pos 3 ∷ pos 0 ∷ pos 0 ∷ pos 2 ∷ pos 0 ∷ pos 5 ∷ pos 6 ∷ []

abbrev payoffs2 : List ℤ
payoffs2 = pos 0 ∷ pos 0 ∷ pos 3 ∷ pos 0 ∷ pos 0 ∷ pos 2 ∷ pos 3 ∷ pos 6 ∷ pos 1 ∷ []

-- what is given to the writer, with D0
abbrev fields_with : (d0 : ℕ) → GameFields
fields_with d0 = record {
  root_weight = d0;
  set_players = players;
  set_moves = counts;
  kinds = kinds;
  parents = parents;
  moves = moves;
  weights = weights;
  node_sets = sets;
  chance_moves = chances;
  payoffs1 = payoffs1;
  payoffs2 = payoffs2;
}

-- ten buffers that hold them, and after them what is kept
abbrev columns_with : (by_set by_node : List ℕ) → (integers : List ℤ) → Buffers GameFields.shape
columns_with s n z = (players ++ s, (counts ++ s, (kinds ++ n, (parents ++ n, (moves ++ n, (weights ++ n, (sets ++ n, (chances ++ n, (payoffs1 ++ z, (payoffs2 ++ z, tt))))))))))

-- one less for the buffer that is short
unfoldable size : (full short k : ℕ) → ℕ
size full short k = cond (eqb short k) (pred full) full

-- ten buffers of so many sets and nodes, the one numbered `short` one entry less; none where it is 10
unfoldable ten : (h n short : ℕ) → Buffers GameFields.shape
ten h n s = (lent (size h s 0), (lent (size h s 1), (lent (size n s 2), (lent (size n s 3), (lent (size n s 4), (lent (size n s 5), (lent (size n s 6), (lent (size n s 7), (lent_z (size n s 8), (lent_z (size n s 9), tt))))))))))

-- the file of those fields, byte by byte
abbrev study_bytes : List ℕ
study_bytes =
    0x10 ∷ 0x09 ∷ 0x00 ∷ 0x30 ∷ 0x01
    ∷ 0x02 ∷ 0x82 ∷ 0x02
    ∷ 0x40 ∷ 0x00 ∷ 0x00 ∷ 0x01 ∷ 0x00 ∷ 0x00 ∷ 0x00 ∷ 0x00
    ∷ 0x40 ∷ 0x00 ∷ 0x00 ∷ 0x01 ∷ 0x00 ∷ 0x10 ∷ 0x00 ∷ 0x00
    ∷ 0x00 ∷ 0x00 ∷ 0x10 ∷ 0x01 ∷ 0x00 ∷ 0x03 ∷ 0x00 ∷ 0x03
    ∷ 0x40 ∷ 0x04 ∷ 0x00 ∷ 0x01 ∷ 0x00 ∷ 0x20 ∷ 0x00 ∷ 0x00
    ∷ 0x40 ∷ 0x04 ∷ 0x10 ∷ 0x01 ∷ 0x00 ∷ 0x20 ∷ 0x00 ∷ 0x00
    ∷ 0x00 ∷ 0x0C ∷ 0x00 ∷ 0x01 ∷ 0x00 ∷ 0x02 ∷ 0x00 ∷ 0x02
    ∷ 0x00 ∷ 0x0C ∷ 0x10 ∷ 0x01 ∷ 0x00 ∷ 0x00 ∷ 0x00 ∷ 0x03
    ∷ 0x00 ∷ 0x10 ∷ 0x00 ∷ 0x01 ∷ 0x00 ∷ 0x05 ∷ 0x00 ∷ 0x06
    ∷ 0x00 ∷ 0x10 ∷ 0x10 ∷ 0x01 ∷ 0x00 ∷ 0x06 ∷ 0x00 ∷ 0x01
    ∷ []

-- A smaller game: player 2 has one set of one move, and after it is a leaf. Its fields, its file, and N, H and D0.
abbrev small_with : (d0 : ℕ) → GameFields
small_with d0 = record {
  root_weight = d0;
  set_players = 1 ∷ [];
  set_moves = 1 ∷ [];
  kinds = 1 ∷ 0 ∷ [];
  parents = 0 ∷ 0 ∷ [];
  moves = 0 ∷ 0 ∷ [];
  weights = 5 ∷ 5 ∷ [];
  node_sets = 0 ∷ 0 ∷ [];
  chance_moves = 0 ∷ 0 ∷ [];
  payoffs1 = pos 0 ∷ pos 3 ∷ [];
  payoffs2 = pos 0 ∷ negsuc 1 ∷ [];
}

abbrev small : List ℕ
small =
    0x10 ∷ 0x02 ∷ 0x00 ∷ 0x10 ∷ 0x05
    ∷ 0x81
    ∷ 0x40 ∷ 0x00 ∷ 0x00 ∷ 0x05 ∷ 0x00 ∷ 0x00 ∷ 0x00 ∷ 0x00
    ∷ 0x00 ∷ 0x00 ∷ 0x00 ∷ 0x05 ∷ 0x00 ∷ 0x03 ∷ 0xFF ∷ 0xFE
    ∷ []

abbrev small_counts : Counts
small_counts = record { nodes = 2; sets = 1; root_weight = 5 }

-- ten buffers that hold its fields, and after them what is kept
abbrev small_columns_with : (by_set by_node : List ℕ) → (integers : List ℤ) → Buffers GameFields.shape
small_columns_with s n z =
    (1 ∷ s, (1 ∷ s, (1 ∷ 0 ∷ n, (0 ∷ 0 ∷ n, (0 ∷ 0 ∷ n, (5 ∷ 5 ∷ n, (0 ∷ 0 ∷ n, (0 ∷ 0 ∷ n, (pos 0 ∷ pos 3 ∷ z, (pos 0 ∷ negsuc 1 ∷ z, tt))))))))))

-- a game's fields, read, written, and both
abbrev games : List Case
games =
    (game_fields_of study (ten 3 9 10) is outcome (given study_counts) (columns_with [] [] []))
    ∷ (game_fields_of study (ten 4 10 10) is outcome (given study_counts) (columns_with (203 ∷ []) (209 ∷ []) (negsuc 9 ∷ [])))
    ∷ (game_fields_of study (ten 3 9 9) is outcome (refused 18) (ten 3 9 9))
    ∷ (list_to 10 (λ k. game_fields_of small (ten 1 2 k)) is list_to 10 (λ k. outcome (refused 18) (ten 1 2 k)))
    ∷ (game_fields_of absent_minded (ten 0 0 10) is outcome (refused 13) (ten 0 0 10))
    ∷ (write_game_of (fields_with 1) (lent 80) is outcome (given 80) (study_bytes, tt))
    ∷ (write_game_of (fields_with 1) (lent 82) is outcome (given 80) (study_bytes ++ 280 ∷ 281 ∷ [], tt))
    ∷ (write_game_of (fields_with 1) (lent 79) is outcome (refused 18) (lent 79, tt))
    ∷ (write_game_of (small_with 5) (lent 22) is outcome (given 22) (small, tt))
    ∷ (write_game_of (fields_with 4096) (lent 79) is outcome (refused 17) (lent 79, tt))
    ∷ (rewrite_game_of small (lent 22) is outcome (given 22) (small, tt))
    ∷ (rewrite_game_of small (lent 24) is outcome (given 22) (small ++ 222 ∷ 223 ∷ [], tt))
    ∷ (rewrite_game_of small (lent 21) is outcome (refused 18) (lent 21, tt))
    ∷ (rewrite_game_of absent_minded [] is outcome (refused 13) ([], tt))
    ∷ (reread_game_of (small_with 5) (ten 1 2 10) is outcome (given small_counts) (small_columns_with [] [] []))
    ∷ (reread_game_of (small_with 5) (ten 2 3 10) is outcome (given small_counts) (small_columns_with (201 ∷ []) (202 ∷ []) (negsuc 2 ∷ [])))
    ∷ (list_to 10 (λ k. reread_game_of (small_with 5) (ten 1 2 k)) is list_to 10 (λ k. outcome (refused 18) (ten 1 2 k)))
    ∷ (reread_game_of (small_with 4096) (ten 0 0 10) is outcome (refused 17) (ten 0 0 10))
    ∷ (reread_game_of (small_with 2) (ten 0 0 10) is outcome (refused 10) (ten 0 0 10))
    ∷ []

games_hold : AllHold games
unfolding lent lent_z size ten GameFields.call WriteGame.rows WriteGame.call RewriteGame.call RereadGame.rows RereadGame.call Bounded.opened Bits.opened Game.opened Sequences.opened GameChecks.opened Writing.opened Rows.opened Checks.opened Call.opened Starred.opened
games_hold = refl then refl then refl then refl then refl then refl then refl then refl then refl then refl then refl then refl then refl then refl then refl then refl then refl then refl then refl then end

-- the weights of plan M in file order, D1 and D2 with how many they are, and its file
abbrev weights_m : List ℕ
weights_m = 3 ∷ 0 ∷ 1 ∷ 2 ∷ 1 ∷ 2 ∷ []

abbrev counts_m : PlanCounts
counts_m = record { d1 = 3; d2 = 3; count = 6 }

abbrev bytes_m : List ℕ
bytes_m = 0x10 ∷ 0x03 ∷ 0x00 ∷ 0x30 ∷ 0x00 ∷ 0x30 ∷ 0x00 ∷ 0x00 ∷ 0x10 ∷ 0x02 ∷ 0x00 ∷ 0x10 ∷ 0x02 ∷ []

-- a plan of the smaller game, D1 = 2, D2 = 3 and one weight: 44 bits, filled to six bytes
abbrev small_plan : List ℕ
small_plan = 0x10 ∷ 0x02 ∷ 0x00 ∷ 0x30 ∷ 0x00 ∷ 0x30 ∷ []

abbrev small_plan_counts : PlanCounts
small_plan_counts = record { d1 = 2; d2 = 3; count = 1 }

-- a plan's weights, read, written, and both
abbrev plans : List Case
plans =
    (plan_fields_of study plan_m (lent 6) is outcome (given counts_m) (weights_m, tt))
    ∷ (plan_fields_of study plan_m (lent 8) is outcome (given counts_m) (weights_m ++ 206 ∷ 207 ∷ [], tt))
    ∷ (plan_fields_of study plan_m (lent 5) is outcome (refused 18) (lent 5, tt))
    ∷ (plan_fields_of small bare [] is outcome (refused 14) ([], tt))
    ∷ (denominators_in small_plan_counts is record { d1 = 2; d2 = 3 })
    ∷ (write_plan_of 3 3 weights_m (lent 13) is outcome (given 13) (bytes_m, tt))
    ∷ (write_plan_of 3 3 weights_m (lent 15) is outcome (given 13) (bytes_m ++ 213 ∷ 214 ∷ [], tt))
    ∷ (write_plan_of 3 3 weights_m (lent 12) is outcome (refused 18) (lent 12, tt))
    ∷ (write_plan_of 2 3 (3 ∷ []) (lent 6) is outcome (given 6) (small_plan, tt))
    ∷ (write_plan_of 2 3 (3 ∷ []) (lent 5) is outcome (refused 18) (lent 5, tt))
    ∷ (write_plan_of 2 4096 (3 ∷ []) [] is outcome (refused 17) ([], tt))
    ∷ (rewrite_plan_of small small_plan (lent 6) is outcome (given 6) (small_plan, tt))
    ∷ (rewrite_plan_of small small_plan (lent 8) is outcome (given 6) (small_plan ++ 206 ∷ 207 ∷ [], tt))
    ∷ (rewrite_plan_of small small_plan (lent 5) is outcome (refused 18) (lent 5, tt))
    ∷ (rewrite_plan_of small bare [] is outcome (refused 14) ([], tt))
    ∷ (reread_plan_of small 2 3 (3 ∷ []) (lent 1) is outcome (given small_plan_counts) (3 ∷ [], tt))
    ∷ (reread_plan_of small 2 3 (3 ∷ []) (lent 3) is outcome (given small_plan_counts) (3 ∷ 201 ∷ 202 ∷ [], tt))
    ∷ (reread_plan_of small 2 3 (3 ∷ []) [] is outcome (refused 18) ([], tt))
    ∷ (reread_plan_of small 2 4096 (3 ∷ []) [] is outcome (refused 17) ([], tt))
    ∷ (reread_plan_of small 2 3 (2 ∷ []) [] is outcome (refused 16) ([], tt))
    ∷ []

plans_hold : AllHold plans
unfolding lent PlanFields.call WritePlan.rows WritePlan.call RewritePlan.call RereadPlan.rows RereadPlan.call Bounded.opened Bits.opened Game.opened Sequences.opened GameChecks.opened Plan.opened PlanChecks.opened Writing.opened Rows.opened Checks.opened Call.opened Starred.opened
plans_hold = refl then refl then refl then refl then refl then refl then refl then refl then refl then refl then refl then refl then refl then refl then refl then refl then refl then refl then refl then refl then end

-- so many rows, of no game here
unfoldable lent_rows : ℕ → List Table.TableRow
lent_rows n = list_to n (λ i. row (200 + i) (200 + i) (negsuc i) (negsuc i))

-- the starred table
abbrev table : List Table.TableRow
table = row 2 0 (pos 3) (pos 3) ∷ row 3 1 (pos 2) (pos 2) ∷ row 3 2 (pos 5) (pos 6) ∷ row 4 1 (pos 0) (pos 3) ∷ row 4 2 (pos 6) (pos 1) ∷ []

-- four buffers that hold its columns, and after them what is kept
abbrev table_with : List ℕ → List ℤ → Buffers PayoffTable.shape
table_with n z = (
  2 ∷ 3 ∷ 3 ∷ 4 ∷ 4 ∷ n,
  (
    0 ∷ 1 ∷ 2 ∷ 1 ∷ 2 ∷ n,
    (
      pos 3 ∷ pos 2 ∷ pos 5 ∷ pos 0 ∷ pos 6 ∷ z,
      (
        pos 3 ∷ pos 2 ∷ pos 6 ∷ pos 3 ∷ pos 1 ∷ z,
        tt,
      ),
    ),
  ),
)

-- four buffers of so many rows, the one numbered `short` one entry less; none where it is 4
unfoldable four : (n short : ℕ) → Buffers PayoffTable.shape
four n s = (lent (size n s 0), (lent (size n s 1), (lent_z (size n s 2), (lent_z (size n s 3), tt))))

-- the payoff table, in rows and in columns
abbrev tables : List Case
tables =
    (payoff_rows_of study (lent_rows 5) is outcome (given 5) (table, tt))
    ∷ (payoff_rows_of study (lent_rows 6) is outcome (given 5) (table ++ row 205 205 (negsuc 5) (negsuc 5) ∷ [], tt))
    ∷ (payoff_rows_of study (lent_rows 4) is outcome (refused 18) (lent_rows 4, tt))
    ∷ (payoff_rows_of absent_minded [] is outcome (refused 13) ([], tt))
    ∷ (payoff_columns study (four 5 4) is outcome (given 5) (table_with [] []))
    ∷ (payoff_columns study (four 6 4) is outcome (given 5) (table_with (205 ∷ []) (negsuc 5 ∷ [])))
    ∷ (list_to 4 (λ k. payoff_columns study (four 5 k)) is list_to 4 (λ k. outcome (refused 18) (four 5 k)))
    ∷ (payoff_columns absent_minded (four 0 4) is outcome (refused 13) (four 0 4))
    ∷ []

tables_hold : AllHold tables
unfolding lent lent_z lent_rows size four PayoffTable.rows_call PayoffTable.columns_call Bounded.opened Bits.opened Game.opened Sequences.opened GameChecks.opened Table.opened Writing.opened Rows.opened Checks.opened Call.opened Starred.opened
tables_hold = refl then refl then refl then refl then refl then refl then refl then refl then end

-- lent numbers, before a call
abbrev before : Verdict.Numbers
before = numbers 91 (pos 92) 93 94

-- The verdict: the buffer takes one move for each set of the player that is shown, two for player 1 and one for player 2,
-- and nothing where the pair is accepted.
abbrev verdicts : List Case
verdicts =
    (verdict_call study plan_f (lent 2) is outcome (given (deviates 1 (pos 1) 2 2)) (0 ∷ 0 ∷ [], tt))
    ∷ (verdict_call study plan_f (lent 1) is outcome (refused 18) (lent 1, tt))
    ∷ (verdict_call study leaning (lent 4) is outcome (given (deviates 1 (pos 6) 4 2)) (0 ∷ 1 ∷ 202 ∷ 203 ∷ [], tt))
    ∷ (verdict_call study second (lent 1) is outcome (given (deviates 2 (pos 2) 1 1)) (0 ∷ [], tt))
    ∷ (verdict_call study second [] is outcome (refused 18) ([], tt))
    ∷ (verdict_call study plan_m [] is outcome (given (accepted 9)) ([], tt))
    ∷ (verdict_call study plan_m (lent 3) is outcome (given (accepted 9)) (lent 3, tt))
    ∷ (verdict_call study bare [] is outcome (refused 14) ([], tt))
    ∷ (verdict_numbers study plan_f before (lent 2) is leaves 0 (numbers 1 (pos 1) 2 2) (0 ∷ 0 ∷ [], tt))
    ∷ (verdict_numbers study plan_f before (lent 1) is leaves 18 before (lent 1, tt))
    ∷ (verdict_numbers study plan_m before [] is leaves 0 (numbers 0 (pos 0) 9 0) ([], tt))
    ∷ []

verdicts_hold : AllHold verdicts
unfolding lent leaning second Verdict.call Bounded.opened Bits.opened Game.opened Sequences.opened GameChecks.opened Plan.opened PlanChecks.opened Earnings.opened BestResponse.opened Pair.opened Writing.opened Rows.opened Checks.opened Call.opened Starred.opened
verdicts_hold = refl then refl then refl then refl then refl then refl then refl then refl then refl then refl then refl then end

-- Two more pairs for document 003's game. In A, over 9 and 3, only player 1 gains, 9 of 27; in B, over the same, the players gain 3 and 12 of 27.
unfoldable pair_a : List ℕ
pair_a = plan_bytes 9 3 (6 ∷ 3 ∷ 2 ∷ 4 ∷ 1 ∷ 2 ∷ [])

unfoldable pair_b : List ℕ
pair_b = plan_bytes 9 3 (3 ∷ 6 ∷ 2 ∷ 1 ∷ 2 ∷ 1 ∷ [])

-- House tolerance: a gain equal to it passes, a third is above 333 thousandths, and both players are judged.
abbrev tolerances : List Case
tolerances =
    (tolerates 500 study plan_f is outcome (given true) tt)
    ∷ (tolerates 499 study plan_f is outcome (given false) tt)
    ∷ (tolerates 0 study plan_m is outcome (given true) tt)
    ∷ (tolerates 0 study plan_f is outcome (given false) tt)
    ∷ (tolerates 333 study pair_a is outcome (given false) tt)
    ∷ (tolerates 334 study pair_a is outcome (given true) tt)
    ∷ (tolerates 444 study pair_b is outcome (given false) tt)
    ∷ (tolerates 445 study pair_b is outcome (given true) tt)
    ∷ (tolerates 65535 study bare is outcome (refused 14) tt)
    ∷ (exported Tolerance.passes_number 91 (tolerates 500 study plan_f) is leaves 0 1 tt)
    ∷ (exported Tolerance.passes_number 91 (tolerates 499 study plan_f) is leaves 0 0 tt)
    ∷ (exported Tolerance.passes_number 91 (tolerates 500 study bare) is leaves 14 91 tt)
    ∷ (thousandths_up 1 2 is 500)
    ∷ (thousandths_up 9 27 is 334)
    ∷ (thousandths_up 54 27 is 2000)
    ∷ (thousandths_up 0 27 is 0)
    ∷ []

tolerances_hold : AllHold tolerances
unfolding pair_a pair_b Tolerance.call Tolerated.opened Bounded.opened Bits.opened Game.opened Sequences.opened GameChecks.opened Plan.opened PlanChecks.opened Earnings.opened BestResponse.opened Pair.opened Writing.opened Rows.opened Checks.opened Call.opened Starred.opened
tolerances_hold = refl then refl then refl then refl then refl then refl then refl then refl then refl then refl then refl then refl then refl then refl then refl then refl then end

-- the text for one leaf alone, D0 = 7, payoffs 5 and 6: 16, 16, 15, 15 and 9 bytes
abbrev text : List ℕ
text = ascii "value 1 35 of 7\nvalue 2 42 of 7\nbest 1 35 of 7\nbest 2 42 of 7\naccepted\n"

-- the two texts
abbrev texts : List Case
texts =
    (report_call single bare (lent 71) is outcome (given 71) (text, tt))
    ∷ (report_call single bare (lent 73) is outcome (given 71) (text ++ 271 ∷ 272 ∷ [], tt))
    ∷ (report_call single bare (lent 70) is outcome (refused 18) (lent 70, tt))
    ∷ (report_call study bare [] is outcome (refused 14) ([], tt))
    ∷ (refusal_line_of 13 (lent 11) is outcome (given 11) (ascii "refusal 13\n", tt))
    ∷ (refusal_line_of 13 (lent 13) is outcome (given 11) (ascii "refusal 13\n" ++ 211 ∷ 212 ∷ [], tt))
    ∷ (refusal_line_of 13 (lent 10) is outcome (refused 18) (lent 10, tt))
    ∷ []

texts_hold : AllHold texts
unfolding lent Report.call RefusalLine.call Bounded.opened Bits.opened Game.opened Sequences.opened GameChecks.opened Plan.opened PlanChecks.opened Earnings.opened BestResponse.opened Pair.opened Writing.opened Text.opened Rows.opened Checks.opened Call.opened Starred.opened
texts_hold = refl then refl then refl then refl then refl then refl then refl then end
