-- Each field comes after those before it; all are one put of their bits joined.
use Prim.Native.Nat.{ℕ, ◌+◌, ◌≤◌}
use mathlib.Core.Path.{◌∙◌}
use native.Mathlib.Omega.{arith}
use lib.ListN.{take}
use Rattle.std.proofs.lemmas.List.Elements.{All-get_or}
use Rattle.std.proofs.lemmas.List.Sums.{sum_by_more, sum_by-take-le}
use Rattle.bits.proofs.Puts.{length_put}
use Rattle.bit_writer.specs.Writers.{fields_bits}
use Rattle.bit_writer.proofs.Fields.{past_none, past_next}
use Rattle.bit_writer.proofs.put_fields.Goals as goal

pub loop-field-init : goal.loop-field-init
loop-field-init c = past_none _ _ _ c.new-writer.ensures

pub put-requires : goal.put-requires
put-requires c =
    let a = c.args in
    let fields = a.fields.now in
    let n = c.loop-field.field-index in
    let width = λ (f : ℕ × ℕ). f.0 in
    let one_more = sum_by_more width fields n (0, 0) c.loop-field-test.true in
    let all = sum_by-take-le width fields (n + 1) in
    rw (c.loop-field.invariant, c.new-writer.ensures, length_put a.out.now a.at (fields_bits (take n fields))) (
      All-get_or (λ (f : ℕ × ℕ). f.0 ≤ 64) fields n (0, 0) c.loop-field-test.true c.requires.narrow,
      omega (arith, c.requires.place_fits, one_more, all),
      omega (arith, c.requires.room, one_more, all),
    )

pub loop-field-preserved : goal.loop-field-preserved
loop-field-preserved c = c.put.ensures ∙ past_next _ _ _ c.args.fields.now c.loop-field.field-index (0, 0) c.loop-field-test.true c.loop-field.invariant
