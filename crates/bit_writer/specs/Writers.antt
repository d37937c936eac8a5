-- A writer of a file's bits: where it stands, and what a put leaves; and fields in a row, each a width and a number.
use Rattle.std.specs.Prelude.{ℕ, ◌+◌, ◌*◌, ◌^◌, ◌≤◌, ◌<◌, List, [], ◌++◌, length, sum_by, fold, All}
use denote.Ref.{MutBor, at_last}
use Rattle.model.specs.Bits.{bits}
use Rattle.bits.specs.Puts.{field_put}
use Rattle.bit_writer.specs.declared.Writer.{Writer}

-- the writer of bytes before a bit
abbrev pub writer_at : MutBor (List ℕ) → (at : ℕ) → Writer
writer_at bytes at = record { bytes = bytes; at = at }

-- the writer past a number that it put in the next bits: `at_last` is the same borrow at another list
abbrev pub past : Writer → (width number : ℕ) → Writer
past w width number = record { bytes = at_last w.bytes (field_put w.bytes.now w.at width number); at = w.at + width }

-- the bits of fields in a row
abbrev pub fields_bits : List (ℕ × ℕ) → List ℕ
fields_bits fields = fold (λ l f. l ++ bits f.0 f.1) [] fields

-- how many they are
abbrev pub fields_width : List (ℕ × ℕ) → ℕ
fields_width fields = sum_by (λ f. f.0) fields

-- each field is as narrow as a `u64`, and the bytes have room for them from bit `at` on
pub record FieldsFit (at : ℕ) (fields : List (ℕ × ℕ)) (out : List ℕ) : Type 0 where
  pub narrow : All (λ f. f.0 ≤ 64) fields
  pub place_fits : at + fields_width fields < 2 ^ 64
  pub room : at + fields_width fields ≤ 8 * length out
