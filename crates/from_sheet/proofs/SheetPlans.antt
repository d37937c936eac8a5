-- A sheet that is weighed and written: its refusals, and the plan file.
use Prim.Native.Nat.{ℕ, suc, ◌+◌, ◌-◌, ◌≤◌, ◌<◌}
use mathlib.Core.Path.{◌≡◌, sym, ap, ◌∙◌}
use mathlib.Core.List.{List, [], ◌++◌}
use native.Mathlib.Omega.{arith}
use native.Mathlib.Nat as NatL
use lib.IntN.{ℤ}
use lib.ListN.{length, get_or, take, length-append, get_or-append}
use lib.Seq.{get_or-append-add, take_at}
use lib.Dec.{T}
use Rattle.algebra.specs.Arrays.{item, placed, Holds}
use Rattle.algebra.specs.Bounded.{list_to}
use Rattle.algebra.proofs.Arrays.{placed_first}
use Rattle.algebra.proofs.Lists.{length_list_to, list_to_at}
use Rattle.model.specs.Game.{Game, game_of, Player, one, two, owns, moves_before}
use Rattle.model.specs.Sequences.{extended, leading, move_number, sequence_count}
use Rattle.model.specs.Demand2.{sequence_at}
use Rattle.model.specs.Plan.{largest_denominator, weights_before, plan_moves, weight_place}
use Rattle.model.specs.PlanOrder.{pair_weights, plan_file_of}
use Rattle.model.specs.Sheet.{Odds, smallest_d, weight_over, plan_from}
use Rattle.model.specs.Checks.{game_refusal, game_rows}
use Rattle.model.specs.Rows.{Rows, of, refusal}
use Rattle.model.specs.Rules.{GameRules, PlanFieldsFit}
use Rattle.model.specs.Writing.{plan_fields_of, plan_bytes}
use Rattle.model.specs.Call.{refused, outcome, run}
use Rattle.model.specs.Calls.WritePlan as WritePlan
use Rattle.model.specs.Calls.PlanFromSheet.{SheetFiles, odds_in, made_plan, sheet_rows, call, GoodSheet}
use Rattle.model.proofs.Call.{same_good_run}
use Rattle.model.proofs.FieldRules.{plan_fields_iff}
use Rattle.model.proofs.Numbers.{moves_block, number_place}
use Rattle.model.proofs.PlanFiles.{weights_fit}
use Rattle.model.proofs.PlanOrder.{order_is}
use Rattle.model.proofs.Rows.{taken_iff}
use Rattle.model.proofs.Rules.{plan_fields_fit_iff}
use Rattle.model.proofs.Sequences.{number_empty, number_extended}
use Rattle.model.proofs.Sheets.{smallest_positive, weight_none, made_fits}
use Rattle.model.proofs.Tree.{empty, after, owner}
use Rattle.model.proofs.Calls.WritePlan.{fit_decided}
use Rattle.model.proofs.Calls.PlanFromSheet.{rows_decided, good_given, good_limit}
use Rattle.std.specs.Prelude.{Result, Err}
use Rattle.checks.specs.declared.Refusal.{Refusal}
use Rattle.checks.specs.Answers.{refusal_number, number_of}
use Rattle.checks.proofs.Chains.{Checked, Left, begin, number_some, call_refuses}
use Rattle.checks.proofs.AnswerLaws.{number_err}
use Rattle.checks.proofs.Files.{game_stops, game_passes}
use Rattle.loaded.specs.Counts.{counts_of}
use Rattle.loaded.specs.declared.Counts.{Counts}
use Rattle.game.specs.Load.{LoadedBy}
use Rattle.game.proofs.Loads.{load_refused}
use Rattle.plan.specs.Weights.{weights_of, in_file_order}
use Rattle.plan.proofs.Refusals.{counted}
use Rattle.smallest.specs.Multiples.{smallest_weight}
use Rattle.weighing.specs.Weighing.{BothHeld}

-- Both players' weights by number are the plan's in plan order.
module _ {g : Game} (R : GameRules g) (odds : Odds) where
  -- the weight of the empty sequence is the smallest D
  first_weight : (p : Player) → smallest_weight g odds p 0 ≡ smallest_d g odds p
  unfolding smallest_weight
  first_weight p =
      ap (weight_over g odds (smallest_d g odds p)) (ap (sequence_at g p) (sym (number_empty g p)) ∙ number_place g p [] empty)
      ∙ weight_none g odds (smallest_d g odds p)

  -- and that of a move is the plan's
  move_weight_lem : (p : Player) (h m : ℕ) → h < g.sets → T (owns g p h) → m < g.set_moves h → smallest_weight g odds p (move_number g p (h, m)) ≡ (plan_from g odds p).move_weight h m
  unfolding smallest_weight plan_from
  move_weight_lem p h m l o v =
      let s = extended (leading g h) h m in
      ap (weight_over g odds (smallest_d g odds p)) (ap (sequence_at g p) (sym (number_extended g p (leading g h) h m)) ∙ number_place g p s (after {h = h} {m = m} l o v))

  module _ {x y : List ℕ} (H : BothHeld g odds x y) where
    -- the denominators
    first_denominator : item x 0 ≡ smallest_d g odds one
    unfolding sequence_count
    first_denominator = H.first.at 0 (omega arith) ∙ first_weight one

    second_denominator : item y 0 ≡ smallest_d g odds two
    unfolding sequence_count
    second_denominator = H.second.at 0 (omega arith) ∙ first_weight two

    -- a list of one player's weights has each move's at its place
    placed_there : (p : Player) {z : List ℕ} → Holds (smallest_weight g odds p) (sequence_count g p) z → (n : ℕ) → n ≡ moves_before g p g.sets → (h m : ℕ) → h < g.sets → T (owns g p h) → m < g.set_moves h → get_or (list_to n (λ i. item z (suc i))) (moves_before g p h + m) 0 ≡ (plan_from g odds p).move_weight h m
    unfolding sequence_count move_number
    placed_there p {z} K n e h m l o v =
        let inside = moves_block g p h g.sets l o in
        let next : suc (moves_before g p h + m) ≡ 1 + moves_before g p h + m = omega arith in
        list_to_at 0 n (λ i. item z (suc i)) (moves_before g p h + m) (omega arith)
        ∙ ap (item z) next
        ∙ K.at (1 + moves_before g p h + m) (omega arith)
        ∙ move_weight_lem p h m l o v

    -- so the list in file order is the plan's
    weights_are : (c : Counts) → c ≡ counts_of g → pair_weights g (plan_from g odds) ≡ in_file_order c x y
    unfolding pair_weights in_file_order plan_moves weight_place weights_before
    weights_are c e =
        let n = counted e in
        let first = list_to (c.sequences1 - 1) (λ i. item x (suc i)) in
        let second = list_to (c.sequences2 - 1) (λ i. item y (suc i)) in
        let size1 : length first ≡ moves_before g one g.sets = length_list_to (c.sequences1 - 1) (λ i. item x (suc i)) ∙ n.moves1 in
        let size2 : length second ≡ moves_before g two g.sets = length_list_to (c.sequences2 - 1) (λ i. item y (suc i)) ∙ n.moves2 in
        order_is g (λ h. (plan_from g odds (g.set_player h)).move_weight h) (first ++ second) (length-append first second ∙ (λ i. size1 i + size2 i)) (at first second size1 size2 (placed_there one H.first (c.sequences1 - 1) n.moves1) (placed_there two H.second (c.sequences2 - 1) n.moves2))
      where
        at : (first second : List ℕ) → length first ≡ moves_before g one g.sets → length second ≡ moves_before g two g.sets → ((h m : ℕ) → h < g.sets → T (owns g one h) → m < g.set_moves h → get_or first (moves_before g one h + m) 0 ≡ (plan_from g odds one).move_weight h m) → ((h m : ℕ) → h < g.sets → T (owns g two h) → m < g.set_moves h → get_or second (moves_before g two h + m) 0 ≡ (plan_from g odds two).move_weight h m) → (p : Player) (h m : ℕ) → h < g.sets → T (owns g p h) → m < g.set_moves h → (plan_from g odds (g.set_player h)).move_weight h m ≡ get_or (first ++ second) (weight_place g p h m) 0
        at first second size1 size2 a b one h m l o v =
            let e : 0 + moves_before g one h + m ≡ moves_before g one h + m = omega arith in
            let inside = moves_block g one h g.sets l o in
            ap (λ (r : Player). (plan_from g odds r).move_weight h m) (owner g one h o)
            ∙ sym (rw e (get_or-append first second 0 (moves_before g one h + m) (omega arith) ∙ a h m l o v))
        at first second size1 size2 a b two h m l o v =
            let e : moves_before g one g.sets + moves_before g two h + m ≡ length first + (moves_before g two h + m) = omega arith in
            ap (λ (r : Player). (plan_from g odds r).move_weight h m) (owner g two h o)
            ∙ sym (rw e (get_or-append-add first second (moves_before g two h + m) 0 ∙ b h m l o v))

-- how many weights there are
order_count : (c : Counts) (x y : List ℕ) → length (in_file_order c x y) ≡ weights_of c
unfolding in_file_order
order_count c x y = length-append (list_to (c.sequences1 - 1) (λ i. item x (suc i))) (list_to (c.sequences2 - 1) (λ i. item y (suc i))) ∙ (λ k. length_list_to (c.sequences1 - 1) (λ i. item x (suc i)) k + length_list_to (c.sequences2 - 1) (λ i. item y (suc i)) k)

-- so many of an array that they were put into are they
pub front_weights : (c : Counts) (x y out : List ℕ) {n : ℕ} {all : List ℕ} → all ≡ placed 0 (in_file_order c x y) out → n ≡ weights_of c → take n all ≡ in_file_order c x y
front_weights c x y out e i = rw (e, i, placed_first) (take_at (in_file_order c x y) _ (weights_of c) (order_count c x y))

-- The rows of the call: the game's, then the sheet's.
module _ (width limit : ℕ) (f : SheetFiles) (out : List ℕ) where
  abbrev rows : Rows SheetFiles
  rows = of (λ (f : SheetFiles). f.game) game_rows ++ sheet_rows width limit

  -- the game is refused
  pub game_refused : {a : Result Counts Refusal} {d : Refusal} {numbers : List ℕ} {payoffs : List ℤ} → LoadedBy f.game a numbers payoffs → a ≡ Err d → outcome (refused (refusal_number d)) (out, tt) ≡ run (call width limit) f (out, tt)
  unfolding call
  game_refused L e =
      let (is, some) = load_refused f.game L.answer e in
      sym (call_refuses (call width limit) (rows_decided width limit).numbered f (out, tt) (game_stops (sheet_rows width limit) (λ (f : SheetFiles). f.game) (begin rows f) is some))

  -- the game is accepted
  module _ (none : game_refusal f.game ≡ 0) where
    left : Left rows (sheet_rows width limit) f
    left = game_passes (sheet_rows width limit) (λ (f : SheetFiles). f.game) (begin rows f) none

    -- the sheet is refused
    pub sheet_refused : {r : Checked} {d : Refusal} → number_of r ≡ refusal (sheet_rows width limit) f → r ≡ Err d → outcome (refused (refusal_number d)) (out, tt) ≡ run (call width limit) f (out, tt)
    unfolding call
    sheet_refused {d = d} e b = sym (call_refuses (call width limit) (rows_decided width limit).numbered f (out, tt) (record { is = left.same ∙ number_err e b; some = number_some d }))

    -- it is weighed, and its plan is written
    pub plan_written : limit ≤ largest_denominator → {c : Counts} {x y : List ℕ} → c ≡ counts_of (game_of f.game) → refusal (sheet_rows width limit) f ≡ 0 → BothHeld (game_of f.game) (odds_in width f) x y → WritePlan.write_plan_of (item x 0) (item y 0) (in_file_order c x y) out ≡ run (call width limit) f (out, tt)
    unfolding call WritePlan.call plan_file_of plan_from
    plan_written most {c} {x} {y} counts fine H =
        let g = game_of f.game in
        let odds = odds_in width f in
        let good : GoodSheet width limit f = (taken_iff (rows_decided width limit) f).1 (left.same ∙ fine) in
        let R = good.0.rules in
        let small : (p : Player) → smallest_d g odds p ≤ largest_denominator = λ p. NatL.le_trans (good_limit width limit f good p) most in
        let fit = weights_fit g R (plan_from g odds) (λ p. made_fits g odds R p (good_given width limit f good)) (smallest_positive g odds R) small in
        let d1 = first_denominator R odds H in
        let d2 = second_denominator R odds H in
        let w = weights_are R odds H c counts in
        let t = plan_fields_of (item x 0) (item y 0) (in_file_order c x y) in
        let fits : PlanFieldsFit t = (plan_fields_fit_iff t).holds ((plan_fields_iff (item x 0) (item y 0) (in_file_order c x y)).passes (rw (d1, d2, ← w) fit)) in
        let bytes : plan_bytes (item x 0) (item y 0) (in_file_order c x y) ≡ made_plan width f = rw (d1, d2, ← w) in
        same_good_run WritePlan.call (call width limit) fit_decided (rows_decided width limit) t f (out, tt) fits good (ap length bytes) (ap (λ (l : List ℕ). (l, tt)) bytes)
