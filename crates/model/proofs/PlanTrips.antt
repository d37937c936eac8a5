-- Round trips of the plan file: a header of four cells, and one run of weights.
use Prim.Native.Nat.{ℕ, ◌+◌, ◌*◌, ◌/◌}
use mathlib.Core.Path.{◌≡◌, refl, ap, ◌∙◌}
use mathlib.Core.Logic.{◌↔◌}
use mathlib.Core.List.{List, [], ◌∷◌, ◌++◌, append_assoc, append-nil}
use native.Mathlib.Omega.{arith}
use lib.Dec.{T, lit<}
use lib.ListN.{length}
use lib.Pow.{pow_pos}
use Rattle.model.specs.Bits.{field, fields, run_bits, pack}
use Rattle.model.specs.Game.{Game, one, two}
use Rattle.model.specs.Plan.{plan_moves, plan_pair_of, plan_weights, weight_bit}
use Rattle.model.specs.Writing.{plan_bytes, plan_fields_fit}
use Rattle.model.specs.Rules.{PlanFile}
use Rattle.model.specs.Demand2.{IsBytes}
use Rattle.model.proofs.Bits.{field_fits, length_fields}
use Rattle.model.proofs.FieldRules.{FitsWidth, column, PlanFitting, plan_fields_iff}
use Rattle.model.proofs.Spelling.{BitList, bitlist_append, bitlist_cells, bitlist_run, Spells, spells_append, Cell, cell_bits, Holds, spells_cells, spells_run, pack_spells, length_pack, pack_is}

module _ (d1 d2 : ℕ) (weights : List ℕ) where
  -- the header
  abbrev pub header_cells : List Cell
  header_cells = (4, 1) ∷ (12, d1) ∷ (12, d2) ∷ (4, 0) ∷ []

  -- the bits of the file
  pub plan_bits : List ℕ
  plan_bits = cell_bits header_cells ++ run_bits 12 weights

  -- the file is these bits, packed
  pub plan_is : plan_bytes d1 d2 weights ≡ pack plan_bits
  unfolding plan_bytes plan_bits
  plan_is = ap pack (simp (append_assoc, append-nil))

  -- how many bits the file has
  pub bitlist_plan : BitList (32 + 12 * length weights) plan_bits
  unfolding plan_bits
  bitlist_plan = bitlist_append (bitlist_cells header_cells refl) (bitlist_run 12 weights)

  -- "4 bytes plus 12 bits for each move of each set, filled to a byte"
  pub length_plan : length (plan_bytes d1 d2 weights) ≡ 4 + (12 * length weights + 7) / 8
  length_plan = rw plan_is (length_pack plan_bits bitlist_plan ∙ omega arith)

  -- a file has these bits where its header is the cells and its weights are the weights
  pub spells_plan : PlanFitting d1 d2 weights → (bytes : List ℕ) → Spells bytes 0 plan_bits ↔ (Holds bytes 0 0 header_cells × (fields bytes 32 12 (length weights) ≡ weights))
  unfolding plan_bits
  spells_plan fit bytes =
      let whole = spells_append bytes 0 32 (bitlist_cells header_cells refl) in
      let header = spells_cells bytes 0 0 header_cells (lit< tt, (fit.0, (fit.1.0, (pow_pos 4, tt)))) in
      let run = spells_run bytes 32 12 weights fit.1.1 in
      ((λ s. (header.0 (whole.0 s).0, run.0 (whole.0 s).1)), (λ h. whole.1 (header.1 h.0, run.1 h.1)))

  -- what the writer takes is read back as it was given
  pub plan_fields_trip : (g : Game) → T (plan_fields_fit d1 d2 weights) → PlanFile g (plan_bytes d1 d2 weights) → let q = plan_pair_of g (plan_bytes d1 d2 weights) in ((q one).denominator ≡ d1) × ((q two).denominator ≡ d2) × (plan_weights g (plan_bytes d1 d2 weights) ≡ weights)
  unfolding plan_pair_of plan_weights weight_bit
  plan_fields_trip g ok file =
      let (header, run) = (spells_plan ((plan_fields_iff d1 d2 weights).holds ok) (plan_bytes d1 d2 weights)).0 (rw plan_is (pack_spells plan_bits bitlist_plan)) in
      let count : plan_moves g ≡ length weights = omega (arith, file.size, length_plan) in
      (header.1.0, header.1.1.0, rw count run)

-- the writer takes the fields of any file
fields_fit : (bytes : List ℕ) (count : ℕ) → PlanFitting (field bytes 4 12) (field bytes 16 12) (fields bytes 32 12 count)
unfolding fields
fields_fit bytes count = (field_fits bytes 4 12, (field_fits bytes 16 12, (column (FitsWidth 12) 0 count _ (pow_pos 12) (λ i. field_fits bytes (32 + 12 * i) 12)).1))

-- the fields of a plan that obeys the rules are taken, and give its bytes again
pub plan_file_trip : (g : Game) (bytes : List ℕ) → IsBytes bytes → PlanFile g bytes → let q = plan_pair_of g bytes in let w = plan_weights g bytes in T (plan_fields_fit (q one).denominator (q two).denominator w) × (plan_bytes (q one).denominator (q two).denominator w ≡ bytes)
unfolding plan_pair_of plan_weights weight_bit
plan_file_trip g bytes small file =
    let d1 = field bytes 4 12 in
    let d2 = field bytes 16 12 in
    let w = fields bytes 32 12 (plan_moves g) in
    let fit = fields_fit bytes (plan_moves g) in
    let count = length_fields bytes 32 12 (plan_moves g) in
    let spelled = (spells_plan d1 d2 w fit bytes).1 ((file.edition, (refl, (refl, (file.header_zeros, tt)))), rw count) in (
      (plan_fields_iff d1 d2 w).passes fit,
      plan_is d1 d2 w ∙ pack_is bytes (plan_bits d1 d2 w) small (bitlist_plan d1 d2 w) (omega (arith, count, file.size)) spelled (λ i l m. file.filling_zeros i (omega (arith, count)) m),
    )
