-- Lists of bits taken apart: the bits of a number in two parts, a run bit by bit, and whole bytes packed one after the other.
use Prim.Native.Nat.{ℕ, zero, suc, ◌+◌, ◌*◌, ◌-◌, ◌/◌, ◌%◌, ◌^◌, ◌≤◌, ◌<◌}
use mathlib.Core.Path.{◌≡◌, sym, ◌∙◌}
use mathlib.Core.List.{List, [], ◌∷◌, ◌++◌, flat_map}
use native.Mathlib.Omega.{arith}
use native.Mathlib.Nat as NatL
use lib.ListN.{length, get_or, drop, length-append, length-drop, get_or-append, get_or-eq_default}
use lib.Seq.{get_or-append-add, drop-append-le, ext_get_or}
use lib.Pow.{pow_pos, pow-add, shr-shr, high}
use Rattle.model.specs.Bits.{numeral, bits, run_bits, packed, pack}
use Rattle.model.proofs.Bits.{numeral_cong, length_bits, bits_at}
use Rattle.model.proofs.Spelling.{bitlist_run}

-- a digit of a number is not changed by what stands above it
low_digit : (x y i m : ℕ) → (x * 2 ^ (suc i + m) + y) / 2 ^ m % 2 ≡ y / 2 ^ m % 2
low_digit x y i m =
    let split : x * 2 ^ (suc i + m) ≡ x * 2 ^ i * 2 * 2 ^ m = rw (pow-add, NatL.pow-suc, ← NatL.mul_assoc, ← NatL.mul_assoc) in
    rw (split, NatL.mul-add-div_right (pow_pos m) (x * 2 ^ i * 2) y) (NatL.mul-add-mod_self_right (x * 2 ^ i) 2 (y / 2 ^ m))

-- the last bits of a number
bits_low : (x b y : ℕ) → bits b (x * 2 ^ b + y) ≡ bits b y
bits_low x b y =
    let whole = x * 2 ^ b + y in
    ext_get_or 0 (bits b whole) (bits b y) (length_bits b whole ∙ sym (length_bits b y)) (λ i v.
    let l : i < b = omega (arith, length_bits b whole) in
    let parts : suc i + (b - suc i) ≡ b = omega arith in
    let same = low_digit x y i (b - suc i) in
    bits_at b whole i l ∙ rw parts at same ∙ sym (bits_at b y i l))

-- the bits of a number in two parts
pub bits_join : (a b x y : ℕ) → y < 2 ^ b → bits (a + b) (x * 2 ^ b + y) ≡ bits a x ++ bits b y
unfolding bits
bits_join zero b x y l = rw NatL.zero-add (bits_low x b y)
bits_join (suc a) b x y l =
    let whole = x * 2 ^ b + y in
    let first : whole / 2 ^ (a + b) ≡ x / 2 ^ a = rw (NatL.add_comm a b, ← shr-shr, high x b l) in
    rw (NatL.suc-add, first, bits_join a b x y l)

module _ (width : ℕ) where
  -- bit r of field i of a run
  run_bit_lem : (numbers : List ℕ) (i r : ℕ) → i < length numbers → r < width → get_or (run_bits width numbers) (width * i + r) 0 ≡ get_or (bits width (get_or numbers i 0)) r 0
  unfolding run_bits flat_map
  run_bit_lem [] i r l m = absurd (omega arith)
  run_bit_lem (x ∷ numbers) zero r l m =
      let place : width * 0 + r ≡ r = omega arith in
      rw place (get_or-append (bits width x) (flat_map (bits width) numbers) 0 r (omega (arith, length_bits width x)))
  run_bit_lem (x ∷ numbers) (suc i) r l m =
      let place : width * suc i + r ≡ length (bits width x) + (width * i + r) = rw (length_bits width x) (omega (arith, NatL.mul-suc width i)) in
      rw (place, get_or-append-add) (run_bit_lem numbers i r (omega arith) m)

  -- bit q of a run: of field q / width
  pub run_at : (numbers : List ℕ) (q : ℕ) → 0 < width → q / width < length numbers → get_or (run_bits width numbers) q 0 ≡ get_or numbers (q / width) 0 / 2 ^ (width - suc (q % width)) % 2
  run_at numbers q w l =
      let place : width * (q / width) + q % width ≡ q = NatL.div-add-mod q width in
      let m = NatL.mod-lt q w in
      let is = run_bit_lem numbers (q / width) (q % width) l m ∙ bits_at width (get_or numbers (q / width) 0) (q % width) m in
      rw place at is

  -- past its end there is none
  pub run_past : (numbers : List ℕ) (q : ℕ) → 0 < width → length numbers ≤ q / width → get_or (run_bits width numbers) q 0 ≡ 0
  run_past numbers q w l = get_or-eq_default (run_bits width numbers) 0 {n = q} (rw (bitlist_run width numbers).sized (omega (arith, NatL.mul-le-mul_left width l, NatL.div-add-mod q width)))

-- bits that fill whole bytes
pub pack_whole : (k : ℕ) (l : List ℕ) → length l ≡ 8 * k → pack l ≡ packed k l
unfolding pack
pack_whole k l e = let count : (length l + 7) / 8 ≡ k = omega arith in rw count

-- bytes packed one after the other
packed_append : (k m : ℕ) (a b : List ℕ) → length a ≡ 8 * k → packed (k + m) (a ++ b) ≡ packed k a ++ packed m b
unfolding packed
packed_append zero m [] b e = rw NatL.zero-add
packed_append zero m (x ∷ a) b e = absurd (omega arith)
packed_append (suc k) m a b e =
    let first : numeral (λ i. get_or (a ++ b) i 0) 0 8 ≡ numeral (λ i. get_or a i 0) 0 8 = numeral_cong (λ i. get_or (a ++ b) i 0) (λ i. get_or a i 0) 0 0 8 (λ i l. get_or-append a b 0 (0 + i) (omega arith)) in
    rw (NatL.suc-add, first, drop-append-le 8 a b (omega arith), packed_append k m (drop 8 a) b (omega (arith, length-drop 8 a)))

-- where the first bits fill whole bytes, they are packed by themselves
pub pack_append : (k : ℕ) (a b : List ℕ) → length a ≡ 8 * k → pack (a ++ b) ≡ pack a ++ pack b
unfolding pack
pack_append k a b e =
    let all : (length (a ++ b) + 7) / 8 ≡ k + (length b + 7) / 8 = omega (arith, length-append a b) in
    let first : (length a + 7) / 8 ≡ k = omega arith in
    rw (all, first) (packed_append k ((length b + 7) / 8) a b e)
