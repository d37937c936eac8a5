-- Document 01, "The two files": fields are packed without gaps, most significant bit first.
-- A byte list is a list of numbers; past its end every bit is 0.
use Rattle.std.specs.Prelude.{ℕ, zero, suc, ◌+◌, ◌*◌, ◌-◌, ◌/◌, ◌%◌, ◌^◌, cond, length, get_or, drop, ltb, ℤ, pos, negsuc}
use mathlib.Core.List.{List, [], ◌∷◌, flat_map}
use Rattle.std.proofs.Math.IntN.{sub_ℕ}
use Rattle.algebra.specs.Bounded.{list_to}

-- the number whose binary digits, most significant first, are d at, d (at + 1), .. d (at + width - 1)
unfoldable pub numeral : (ℕ → ℕ) → (at width : ℕ) → ℕ
numeral d at zero = 0
numeral d at (suc width) = 2 * numeral d at width + d (at + width)

-- bit i of the bytes
unfoldable pub bit : List ℕ → ℕ → ℕ
bit bytes i = get_or bytes (i / 8) 0 / 2 ^ (7 - i % 8) % 2

-- the field of `width` bits that begins at bit `at`
unfoldable pub field : List ℕ → (at width : ℕ) → ℕ
field bytes at width = numeral (bit bytes) at width

-- a run of equal fields: `count` of them, each of `width` bits, the first at bit `at`
unfoldable pub fields : List ℕ → (at width count : ℕ) → List ℕ
fields bytes at width count = list_to count (λ i. field bytes (at + width * i) width)

-- the `width` bits of a number, most significant first
unfoldable pub bits : (width n : ℕ) → List ℕ
bits zero n = []
bits (suc width) n = n / 2 ^ width % 2 ∷ bits width n

-- the bits of a run of equal fields
unfoldable pub run_bits : (width : ℕ) → List ℕ → List ℕ
run_bits width numbers = flat_map (bits width) numbers

-- the first k bytes of a list of bits; zero bits fill what is missing
unfoldable pub packed : (k : ℕ) → List ℕ → List ℕ
packed zero l = []
packed (suc k) l = numeral (λ i. get_or l i 0) 0 8 ∷ packed k (drop 8 l)

-- bits packed into bytes, "filled to a byte with zero bits"
unfoldable pub pack : List ℕ → List ℕ
pack l = packed ((length l + 7) / 8) l

-- a number of `width` bits read as two's complement
unfoldable pub signed : (width n : ℕ) → ℤ
signed width n = cond (ltb (2 * n) (2 ^ width)) (pos n) (sub_ℕ n (2 ^ width))

-- an integer that fits `width` bits, as two's complement
unfoldable pub twos_complement : (width : ℕ) → ℤ → ℕ
twos_complement width (pos n) = n
twos_complement width (negsuc n) = 2 ^ width - suc n

-- To unfold this is to unfold all of this file: for closed computation.
unfoldable pub opened : Unit {0}
unfolding numeral bit field fields bits run_bits packed pack signed twos_complement flat_map
opened = tt
