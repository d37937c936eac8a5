-- A field of a field: what a cut of the larger one gives.
use Prim.Native.Nat.{ℕ, zero, suc, ◌+◌, ◌*◌, ◌/◌, ◌%◌, ◌^◌}
use mathlib.Core.Path.{◌≡◌, ap}
use mathlib.Core.List.{List}
use native.Mathlib.Omega.{arith}
use native.Mathlib.Nat as NatL
use lib.Pow.{high, low}
use Rattle.model.specs.Bits.{numeral, bit, field}
use Rattle.model.proofs.Bits.{field_fits}

-- a numeral in two parts
numeral_append : (d : ℕ → ℕ) (at a b : ℕ) → numeral d at (a + b) ≡ numeral d at a * 2 ^ b + numeral d (at + a) b
unfolding numeral
numeral_append d at a zero = rw (NatL.add-zero a) (omega arith)
numeral_append d at a (suc b) =
    rw (NatL.add-suc, NatL.pow-suc)
    (omega (
      arith,
      numeral_append d at a b,
      ap d (NatL.add_assoc at a b),
      NatL.mul_assoc (numeral d at a) (2 ^ b) 2,
    ))

-- two fields side by side
pub field_append : (bytes : List ℕ) (at a b : ℕ) → field bytes at (a + b) ≡ field bytes at a * 2 ^ b + field bytes (at + a) b
unfolding field
field_append bytes at a b = numeral_append (bit bytes) at a b

-- a field of a field: it has `width` bits, and the larger one `above` bits before it and `below` after it
pub field_part : (bytes : List ℕ) (at above width below : ℕ) → field bytes at (above + width + below) / 2 ^ below % 2 ^ width ≡ field bytes (at + above) width
field_part bytes at above width below =
    rw (field_append bytes at (above + width) below, high _ below (field_fits bytes (at + (above + width)) below), field_append bytes at above width, low _ width (field_fits bytes (at + above) width))

-- what a cut of a word gives, where the word is a field
pub cut_field : (bytes : List ℕ) (at above width below : ℕ) {word r : ℕ} → word ≡ field bytes at (above + width + below) → r ≡ word / 2 ^ below % 2 ^ width → r ≡ field bytes (at + above) width
cut_field bytes at above width below e c = rw (c, e) (field_part bytes at above width below)

-- of its first bits
pub cut_first : (bytes : List ℕ) (at width below : ℕ) {word r : ℕ} → word ≡ field bytes at (width + below) → r ≡ word / 2 ^ below % 2 ^ width → r ≡ field bytes at width
cut_first bytes at width below e c = rw (NatL.add-zero at) at (cut_field bytes at 0 width below (rw (NatL.zero-add width) e) c)
