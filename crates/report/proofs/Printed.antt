-- What the desk program prints, by the report's answer.
use Prim.Native.Nat.{ℕ, zero, suc, ◌≤◌}
use mathlib.Core.Path.{◌≡◌, sym, ap, ◌∙◌}
use mathlib.Core.Bool.{cond}
use mathlib.Core.List.{List, [], ◌∷◌}
use native.Mathlib.Omega.{arith}
use borrow.Author.Tests.{ne_eqb}
use lib.Dec.{eqb}
use lib.ListN.{length}
use Rattle.algebra.proofs.Arrays.{placed_first}
use Rattle.model.specs.Checks.{pair_refusal}
use Rattle.model.specs.Report.{refusal_line_of, report_of, printed}
use Rattle.model.specs.Call.{Answer, given, refused, answer_of, after_call, Outcome, outcome}
use Rattle.model.specs.Calls.Report.{report_call}
use Rattle.model.specs.Exported.{same}
use Rattle.std.specs.Prelude.{Result, Ok, Err}
use Rattle.checks.specs.declared.Refusal.{Refusal}
use Rattle.checks.specs.Answers.{refusal_number, answered}
use Rattle.text.specs.Text.{TextFits, Put}
use Rattle.report.specs.Whole.{most}
use Rattle.report.proofs.Calls.{printed_most, report_by_files}

-- The report was asked for with room for any.
module _ (game plan buffer : List ℕ) (long : most ≤ length buffer) where
  -- its answer and the buffer afterwards, by the refusal of the files
  abbrev By : Answer ℕ → (after : List ℕ) → (refusal : ℕ) → Type 0
  By answer after k = (answer ≡ answer_of k (length (report_of game plan))) × (after ≡ after_call k (report_of game plan) buffer)

  by_files : {answer : Answer ℕ} {after : List ℕ} → outcome answer (after, tt) ≡ report_call game plan buffer → By answer after (pair_refusal game plan)
  by_files is =
      let e = is ∙ report_by_files game plan buffer long in
      (ap (λ (o : Outcome (ℕ ∷ []) ℕ). o.answer) e, ap (λ (o : Outcome (ℕ ∷ []) ℕ). o.buffers.0) e)

  -- a report is what is printed
  pub printed_report : {answer : Result ℕ Refusal} {after : List ℕ} {size : ℕ} → outcome (answered same answer) (after, tt) ≡ report_call game plan buffer → answer ≡ Ok size → Put 0 (printed game plan) buffer after size
  unfolding printed after_call
  printed_report {after = after} {size} is e = go (pair_refusal game plan) (by_files (rw e at is))
    where
      go : (k : ℕ) → By (given size) after k → Put 0 (cond (eqb k 0) (report_of game plan) (refusal_line_of k)) buffer after size
      go zero b = let same : size ≡ length (report_of game plan) = cc in record { buffer = b.1 ∙ sym (placed_first (report_of game plan) buffer); place = omega (arith, same) }
      go (suc k) b = let z : ◌≡◌ {A = ℕ} 0 1 = cc in absurd (omega arith)

  module _ {answer : Result ℕ Refusal} {after : List ℕ} {d : Refusal} {k : ℕ} (is : outcome (answered same answer) (after, tt) ≡ report_call game plan buffer) (e : answer ≡ Err d) (number : k ≡ refusal_number d) where
    -- for a refusal its line is, and the buffer is as it was
    line_printed : (printed game plan ≡ refusal_line_of k) × (after ≡ buffer)
    unfolding printed after_call
    line_printed = rw number (go (pair_refusal game plan) (by_files (rw e at is)))
      where
        go : (n : ℕ) → By (refused (refusal_number d)) after n → (cond (eqb n 0) (report_of game plan) (refusal_line_of n) ≡ refusal_line_of (refusal_number d)) × (after ≡ buffer)
        go zero b = let z : ◌≡◌ {A = ℕ} 0 1 = cc in absurd (omega arith)
        go (suc n) b = let same : suc n ≡ refusal_number d = cc in (rw (ne_eqb (suc n) 0 (λ z. omega arith)) (ap refusal_line_of same), b.1)

    pub line_room : TextFits 0 (refusal_line_of k) after
    line_room = record { fits = omega (arith, long, ap length line_printed.0, ap length line_printed.1, printed_most game plan) }

    pub printed_line : {last : List ℕ} {size : ℕ} → Put 0 (refusal_line_of k) after last size → Put 0 (printed game plan) buffer last size
    printed_line p = rw (line_printed.0, sym line_printed.1) p
