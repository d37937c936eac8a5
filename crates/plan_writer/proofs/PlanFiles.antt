-- The plan writer: its test of numbers, and its file as a header with a run of weights.
use Prim.Native.Nat.{ℕ, ◌+◌, ◌*◌, ◌/◌}
use mathlib.Core.Path.{◌≡◌, sym, ◌∙◌}
use mathlib.Core.Bool.{Bool}
use mathlib.Core.List.{List, ◌++◌}
use native.Mathlib.Omega.{arith}
use lib.ListN.{length, length-append}
use lib.Dec.{leb}
use Rattle.algebra.specs.Arrays.{placed}
use Rattle.algebra.proofs.Arrays.{placed_twice}
use Rattle.model.specs.Bits.{run_bits, packed, pack}
use Rattle.model.specs.Writing.{PlanFields, plan_fields_of, plan_bytes, plan_fields_fit}
use Rattle.model.specs.Rules.{PlanFieldsFit}
use Rattle.model.specs.Call.{outcome}
use Rattle.model.specs.Calls.WritePlan.{rows, bytes_of, call, write_plan_of}
use Rattle.model.proofs.Bits.{length_bits, length_packed}
use Rattle.model.proofs.Packing.{pack_whole, pack_append}
use Rattle.model.proofs.PlanTrips.{length_plan}
use Rattle.std.specs.Prelude.{Result, Ok, Err}
use Rattle.model.specs.Exported.{same}
use Rattle.checks.specs.declared.Refusal.{Refusal}
use Rattle.checks.specs.declared.Refusal.TheVariants.{Number, Room}
use Rattle.checks.specs.Answers.{checked_of, answered}
use Rattle.checks.proofs.Chains.{Checked}
use Rattle.records.specs.PlanRecords.{plan_header_with, plan_header_bits}
use Rattle.fitting.proofs.Refusals.{misfit, short, written}

-- the bits of the header
abbrev headed : (d1 d2 : ℕ) → List ℕ
headed d1 d2 = plan_header_bits (plan_header_with d1 d2)

module _ (d1 d2 : ℕ) (weights : List ℕ) where
  -- the header fills four bytes
  header_size : length (headed d1 d2) ≡ 8 * 4
  unfolding plan_header_bits
  header_size = simp (length-append, length_bits)

  -- the file: the header, then the weights
  plan_parts : packed 4 (headed d1 d2) ++ pack (run_bits 12 weights) ≡ plan_bytes d1 d2 weights
  unfolding plan_header_bits plan_bytes
  plan_parts = rw (pack_append 4 (headed d1 d2) (run_bits 12 weights) header_size, pack_whole 4 (headed d1 d2) header_size)

  -- the header put at the start, and the weights after it
  pub plan_filled : (out : List ℕ) {front after : List ℕ} → front ≡ placed 0 (packed 4 (headed d1 d2)) out → after ≡ placed 4 (pack (run_bits 12 weights)) front → after ≡ placed 0 (plan_bytes d1 d2 weights) out
  plan_filled out f g =
      let header = packed 4 (headed d1 d2) in
      let run = pack (run_bits 12 weights) in
      let twice : placed 4 run (placed 0 header out) ≡ placed 0 (header ++ run) out = rw (length_packed 4 (headed d1 d2)) at (placed_twice 0 header run out (omega arith)) in
      rw (g, f, twice, plan_parts)

module _ (d1 d2 : ℕ) (weights out : List ℕ) where
  -- the answer, and the lent bytes afterwards
  abbrev pub Leaves : Result ℕ Refusal → List ℕ → Type 0
  Leaves r after = outcome (answered same r) (after, tt) ≡ write_plan_of d1 d2 weights out

  abbrev fit : PlanFields → Bool
  fit t = plan_fields_fit t.d1 t.d2 t.weights

  module _ {x : Bool} {a : Checked} (tested : x ≡ plan_fields_fit d1 d2 weights) (checked : a ≡ checked_of Number x) where
    -- a number that does not fit
    pub plan_misfit : {d : Refusal} → a ≡ Err d → Leaves (Err d) out
    unfolding call rows
    plan_misfit f = misfit fit (λ t. ¬ PlanFieldsFit t) bytes_of (plan_fields_of d1 d2 weights) out tested checked f

    module _ {b : Checked} {u : Unit {0}} (fine : a ≡ Ok u) {size : ℕ} (is : size ≡ 4 + (12 * length weights + 7) / 8) (room : b ≡ checked_of Room (leb size (length out))) where
      -- a buffer too short
      pub plan_short : {d : Refusal} → b ≡ Err d → Leaves (Err d) out
      unfolding call rows
      plan_short f = short fit (λ t. ¬ PlanFieldsFit t) bytes_of (plan_fields_of d1 d2 weights) out tested checked fine (is ∙ sym (length_plan d1 d2 weights)) room f

      -- all bytes written
      pub plan_written : {v : Unit {0}} → b ≡ Ok v → {after : List ℕ} → after ≡ placed 0 (plan_bytes d1 d2 weights) out → Leaves (Ok size) after
      unfolding call rows
      plan_written f all = written fit (λ t. ¬ PlanFieldsFit t) bytes_of (plan_fields_of d1 d2 weights) out tested checked fine (is ∙ sym (length_plan d1 d2 weights)) room f all
