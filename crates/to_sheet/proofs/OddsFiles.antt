-- Odds as a sheet: its length, and what is answered by check 18 of it.
use Prim.Native.Nat.{ℕ, ◌+◌, ◌*◌, ◌/◌}
use mathlib.Core.Path.{◌≡◌, sym, ◌∙◌}
use mathlib.Core.List.{List, []}
use lib.Dec.{leb}
use lib.ListN.{length}
use Rattle.algebra.specs.Arrays.{placed}
use Rattle.model.specs.Bits.{run_bits, pack}
use Rattle.model.specs.Call.{given, refused, outcome, run}
use Rattle.model.proofs.Spelling.{bitlist_run, length_pack}
use Rattle.std.specs.Prelude.{Ok, Err}
use Rattle.checks.specs.declared.Refusal.{Refusal}
use Rattle.checks.specs.declared.Refusal.TheVariants.{Room}
use Rattle.checks.specs.Answers.{refusal_number, checked_of}
use Rattle.checks.proofs.Chains.{Checked, begin, ends}
use Rattle.checks.proofs.OneBuffer.{one_short, one_given}
use Rattle.to_sheet.specs.SheetCalls.{sheet_call}

module _ (width : ℕ) (odds : List ℕ) where
  pub length_sheet : length (pack (run_bits width odds)) ≡ (width * length odds + 7) / 8
  length_sheet = length_pack (run_bits width odds) (bitlist_run width odds)

  module _ (out : List ℕ) {size : ℕ} (is : size ≡ (width * length odds + 7) / 8) {r : Checked} (checked : r ≡ checked_of Room (leb size (length out))) where
    -- no room
    pub sheet_short : {d : Refusal} → r ≡ Err d → outcome (refused (refusal_number d)) (out, tt) ≡ run (sheet_call width) odds (out, tt)
    unfolding sheet_call
    sheet_short f = one_short (sheet_call width) tt odds out (ends (begin [] odds)) (is ∙ sym length_sheet) checked f

    -- room
    pub sheet_given : {u : Unit {0}} → r ≡ Ok u → {after : List ℕ} → after ≡ placed 0 (pack (run_bits width odds)) out → outcome (given size) (after, tt) ≡ run (sheet_call width) odds (out, tt)
    unfolding sheet_call
    sheet_given f put = rw (is ∙ sym length_sheet) (one_given (sheet_call width) tt odds out (ends (begin [] odds)) (is ∙ sym length_sheet) checked f put)
