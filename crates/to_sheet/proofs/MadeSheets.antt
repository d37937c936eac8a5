-- The sheet of a plan: its odds as they are read of both files, and the sheet of them.
use Prim.Native.Nat.{ℕ, ◌≤◌}
use mathlib.Core.Path.{◌≡◌, refl, sym, ap, ◌∙◌}
use mathlib.Core.List.{List, [], ◌++◌}
use native.Mathlib.Omega.{arith}
use lib.IntN.{ℤ}
use lib.ListN.{length, take}
use borrow.Author.Tests.{le-leb}
use Rattle.algebra.specs.Arrays.{placed, Holds}
use Rattle.model.specs.Limits.{count_limit}
use Rattle.model.specs.Game.{Player, game_of, one, two}
use Rattle.model.specs.Sequences.{sequence_count}
use Rattle.model.specs.Plan.{plan_moves, Fits, plan_pair_of}
use Rattle.model.specs.PlanChecks.{Files, files}
use Rattle.model.specs.Sheet.{sheet_bytes}
use Rattle.model.specs.Rows.{refusal}
use Rattle.model.specs.Checks.{pair_rows, pair_refusal}
use Rattle.model.specs.Call.{given, refused, after_call, outcome, run}
use Rattle.model.specs.Exported.{same}
use Rattle.model.specs.Calls.SheetFromPlan.{call}
use Rattle.model.proofs.Budget.{game_limits}
use Rattle.model.proofs.Checks.{game_rules, plan_rules, pair_parts, pair_named, pair_refusal_lem}
use Rattle.model.proofs.Numbers.{plan_moves_few}
use Rattle.model.proofs.PlanOrder.{length_order}
use Rattle.std.specs.Prelude.{Result, Ok, Err}
use Rattle.checks.specs.declared.Refusal.{Refusal}
use Rattle.checks.specs.declared.Refusal.TheVariants.{Room}
use Rattle.checks.specs.Answers.{refusal_number, answered}
use Rattle.checks.proofs.Chains.{Refuses, begin, ends, is_fine, call_refuses, same_run}
use Rattle.checks.proofs.Files.{pair_refuses, pair_fine}
use Rattle.checks.proofs.OneBuffer.{one_given}
use Rattle.checks.proofs.Runs.{Gave, gave, not_gave, front}
use Rattle.loaded.specs.Loaded.{NumbersLoaded}
use Rattle.pair.specs.declared.PairHeader.{PairHeader}
use Rattle.pair.specs.Refusals.{PairRead}
use Rattle.pair.proofs.Pairs.{PairOpened, pair_counted}
use Rattle.plan.specs.Weights.{weights_of, weight_by_number}
use Rattle.to_sheet.specs.Parts.{player_parts}
use Rattle.to_sheet.specs.SheetCalls.{odds_in_order, odds_call, sheet_call}
use Rattle.to_sheet.proofs.PlanOdds.{both_odds}

-- as many odds as moves
length_odds : (f : Files) → length (odds_in_order f) ≡ plan_moves (game_of f.game)
unfolding odds_in_order
length_odds f = length_order (game_of f.game) _

-- no accepted game has more than 4,094
odds_few : (game plan : List ℕ) → pair_refusal game plan ≡ 0 → length (odds_in_order (files game plan)) ≤ count_limit
unfolding plan_moves
odds_few game plan e = omega (arith, length_odds (files game plan), plan_moves_few (game_of game) (game_rules game ((pair_parts game plan).0 e).0), (game_limits game).nodes)

-- The odds of a plan, as they are read.
module _ (game plan out : List ℕ) where
  -- a refusal of the pair
  pub odds_refused : {n : ℕ} → n ≡ pair_refusal game plan → ¬ (n ≡ 0) → outcome (refused n) (out, tt) ≡ run odds_call (files game plan) (out, tt)
  unfolding odds_call
  odds_refused e s = sym (call_refuses odds_call pair_named (files game plan) (out, tt) (pair_refuses e s))

  -- a pair that fits
  module _ {h : PairHeader} (o : PairOpened game plan h) where
    fitting : (p : Player) → Fits (game_of game) p (plan_pair_of (game_of game) plan p)
    fitting = (plan_rules game plan ((pair_parts game plan).0 o.none).1).fit

    pub odds_given_lem : count_limit ≤ length out → {n : ℕ} → n ≡ weights_of h.counts → {x y after : List ℕ} → Holds (weight_by_number (game_of game) plan one) (sequence_count (game_of game) one) x → Holds (weight_by_number (game_of game) plan two) (sequence_count (game_of game) two) y → after ≡ placed 0 (player_parts (game_of game) one x ++ player_parts (game_of game) two y) out → outcome (given n) (after, tt) ≡ run odds_call (files game plan) (out, tt)
    unfolding odds_call odds_in_order
    odds_given_lem room {n} many held1 held2 put =
        let f = files game plan in
        let size : n ≡ length (odds_in_order f) = many ∙ (pair_counted game plan o).all ∙ sym (length_odds f) in
        let fine = is_fine Room (le-leb n (length out) (omega (arith, size, odds_few game plan o.none))) in
        rw size (one_given odds_call pair_named f out (pair_fine game plan o.none) size {r = Ok tt} fine refl (put ∙ ap (λ (l : List ℕ). placed 0 l out) (both_odds (game_of game) plan held1 held2 fitting)))

-- the loaded game of a pair that was read
pub pair_loads : (game plan : List ℕ) {h : PairHeader} → PairOpened game plan h → {r : Result PairHeader Refusal} {numbers : List ℕ} {payoffs : List ℤ} {x x' y y' : List ℕ} → PairRead game plan r numbers payoffs x x' y y' → NumbersLoaded (game_of game) h.counts numbers
pair_loads game plan o R = rw o.counts (R.loaded o.game_none).in_numbers

-- The sheet of the odds that were read.
module _ (width : ℕ) (game plan out : List ℕ) where
  abbrev pair : Files
  pair = files game plan

  few : refusal pair_rows pair ≡ 0 → length (odds_in_order pair) ≤ count_limit
  few e = odds_few game plan (pair_refusal_lem game plan ∙ e)

  -- what reading refuses
  pub sheet_refused : (l : List ℕ) → count_limit ≤ length l → {r : Result ℕ Refusal} {after : List ℕ} {d : Refusal} → outcome (answered same r) (after, tt) ≡ run odds_call pair (l, tt) → r ≡ Err d → outcome (refused (refusal_number d)) (out, tt) ≡ run (call width) pair (out, tt)
  unfolding odds_call call
  sheet_refused l long {d = d} e f =
      let s : Refuses pair_rows pair (refusal_number d) = not_gave odds_call pair_named pair (l, tt) e (ap (answered same) f) (λ fine. rw (le-leb (length (odds_in_order pair)) (length l) (omega (arith, few fine)))) in
      sym (call_refuses (call width) pair_named pair (out, tt) s)

  -- what reading gives
  pub record OddsTaken (count : ℕ) (after : List ℕ) : Type 0 where
    pub fits : refusal pair_rows pair ≡ 0
    pub small : count ≤ count_limit
    pub odds : take count after ≡ odds_in_order pair

  pub odds_read : (l : List ℕ) {r : Result ℕ Refusal} {after : List ℕ} {count : ℕ} → outcome (answered same r) (after, tt) ≡ run odds_call pair (l, tt) → r ≡ Ok count → OddsTaken count after
  unfolding odds_call
  odds_read l {r} {after} {count} e f =
      let G : Gave odds_call pair_named pair (l, tt) count (after, tt) = gave odds_call pair_named pair (l, tt) e (ap (answered same) f) in
      let left : after ≡ after_call 0 (odds_in_order pair) l = ap (λ (b : List ℕ × Unit {0}). b.0) G.buffers in
      record {
        fits = G.fine;
        small = omega (arith, G.result, few G.fine);
        odds = front count (odds_in_order pair) l after (sym G.result) left;
      }

  -- their sheet
  pub sheet_made : {count : ℕ} {after : List ℕ} → OddsTaken count after → run (sheet_call width) (take count after) (out, tt) ≡ run (call width) pair (out, tt)
  unfolding sheet_call call sheet_bytes odds_in_order
  sheet_made R =
      rw R.odds
      (same_run (sheet_call width) (call width) tt pair_named (odds_in_order pair) pair (out, tt) (ends (begin [] (odds_in_order pair)) ∙ sym R.fits) (λ e. (refl, refl)))
