-- A loop that puts records of whole bytes one after the other.
use Prim.Native.Nat.{ℕ, ◌+◌, ◌*◌, ◌≤◌, ◌<◌}
use mathlib.Core.Path.{◌≡◌, ap, ◌∙◌}
use mathlib.Core.List.{List, ◌++◌}
use native.Mathlib.Omega.{arith}
use native.Mathlib.Nat as NatL
use native.Mathlib.Numerals.{add-one}
use lib.ListN.{length}
use Rattle.algebra.specs.Arrays.{placed}
use Rattle.algebra.specs.Bounded.{join_to}
use Rattle.algebra.proofs.Arrays.{length_placed, placed_none, placed_twice}
use Rattle.algebra.proofs.Lists.{join_to_suc, length_join_to}
use Rattle.model.specs.Bits.{packed, pack}
use Rattle.model.proofs.Bits.{length_packed}
use Rattle.model.proofs.Packing.{pack_whole, pack_append}

-- the first n records stand from a place on, on the way to a bound
pub record Putting (at : ℕ) (f : ℕ → List ℕ) (bound : ℕ) (out : List ℕ) (n : ℕ) (now : List ℕ) : Type 0 where
  pub within : n ≤ bound
  pub put : now ≡ placed at (pack (join_to n f)) out

-- records of k bytes each
module _ (at k : ℕ) (f : ℕ → List ℕ) (each : (i : ℕ) → length (f i) ≡ 8 * k) where
  -- the bits of n records
  bit_count : (n : ℕ) → length (join_to n f) ≡ 8 * (k * n)
  bit_count n = length_join_to (8 * k) n f (λ i l. each i) ∙ NatL.mul_assoc 8 k n

  -- their bytes
  pub byte_count : (n : ℕ) → length (pack (join_to n f)) ≡ k * n
  byte_count n = ap length (pack_whole (k * n) (join_to n f) (bit_count n)) ∙ length_packed (k * n) (join_to n f)

  -- one record more
  pack_more : (n : ℕ) → pack (join_to (n + 1) f) ≡ pack (join_to n f) ++ packed k (f n)
  pack_more n = rw (add-one, join_to_suc, pack_append (k * n) (join_to n f) (f n) (bit_count n), pack_whole k (f n) (each n))

  module _ (bound : ℕ) (out : List ℕ) where
    -- where the loop begins
    pub putting_none : Putting at f bound out 0 out
    unfolding join_to pack packed
    putting_none = record { within = omega arith; put = placed_none at out }

    module _ (room : at + k * bound ≤ length out) (n : ℕ) (now : List ℕ) (so_far : Putting at f bound out n now) where
      fits : k * n ≤ k * bound
      fits = NatL.mul-le-mul_left k so_far.within

      -- the array keeps its length
      pub putting_long : length now ≡ length out
      putting_long = ap length so_far.put ∙ length_placed at (pack (join_to n f)) out (omega (arith, byte_count n, fits))

      -- a turn: record n is put
      pub putting_more : (place : ℕ) (w after : List ℕ) → n < bound → place ≡ at + k * n → w ≡ f n → after ≡ placed place (packed k w) now → Putting at f bound out (n + 1) after
      putting_more place w after l p is e =
          let twice : placed (at + k * n) (packed k (f n)) (placed at (pack (join_to n f)) out) ≡ placed at (pack (join_to n f) ++ packed k (f n)) out = rw (byte_count n) at (placed_twice at (pack (join_to n f)) (packed k (f n)) out (omega arith)) in
          record { within = omega arith; put = rw (e, p, is, so_far.put, twice, pack_more n) }

      -- the bound is reached
      pub putting_all : bound ≤ n → now ≡ placed at (pack (join_to bound f)) out
      putting_all l = let e : n ≡ bound = omega (arith, so_far.within) in rw e at so_far.put
