-- Fields put one after the other are one put of their bits joined.
use Prim.Native.Nat.{ℕ, ◌+◌, ◌<◌}
use mathlib.Core.Path.{◌≡◌, refl, sym, ap, ◌∙◌}
use mathlib.Core.List.{List, [], ◌∷◌, ◌++◌}
use native.Mathlib.Omega.{arith}
use denote.Ref.{MutBor, at_last}
use lib.ListN.{length, get_or, take, length-append}
use Rattle.std.specs.List.{fold}
use Rattle.std.proofs.lemmas.List.Sums.{fold_more, sum_by_more}
use Rattle.model.specs.Bits.{bits}
use Rattle.model.proofs.Bits.{length_bits}
use Rattle.bits.specs.Puts.{bits_put, field_put}
use Rattle.bits.proofs.Puts.{put_twice}
use Rattle.bit_writer.specs.declared.Writer.{Writer}
use Rattle.bit_writer.specs.Writers.{writer_at, past, fields_bits, fields_width}

-- the fields have as many bits as their widths say, after others
length_from : (l : List ℕ) (fields : List (ℕ × ℕ)) → length (fold (λ (k : List ℕ) (f : ℕ × ℕ). k ++ bits f.0 f.1) l fields) ≡ fold (λ (a : ℕ) (f : ℕ × ℕ). a + f.0) (length l) fields
length_from l [] = refl
length_from l (f ∷ fields) =
    length_from (l ++ bits f.0 f.1) fields
    ∙ ap (λ (n : ℕ). fold (λ (a : ℕ) (f : ℕ × ℕ). a + f.0) n fields) (length-append l (bits f.0 f.1) ∙ ap (λ (n : ℕ). length l + n) (length_bits f.0 f.1))

-- and from the first on
length_fields : (fields : List (ℕ × ℕ)) → length (fields_bits fields) ≡ fields_width fields
length_fields fields = length_from [] fields

-- one field more
put_next : (out : List ℕ) (at : ℕ) (fields : List (ℕ × ℕ)) (i : ℕ) (d : ℕ × ℕ) → i < length fields
    → field_put (bits_put out at (fields_bits (take i fields))) (at + fields_width (take i fields)) (get_or fields i d).0 (get_or fields i d).1 ≡ bits_put out at (fields_bits (take (i + 1) fields))
put_next out at fields i d l =
    let f = get_or fields i d in
    let before = fields_bits (take i fields) in
    let all : fields_bits (take (i + 1) fields) ≡ before ++ bits f.0 f.1 = fold_more _ _ fields i d l in
    rw (sym (length_fields (take i fields)), all) (put_twice out at before (bits f.0 f.1))

-- the writer of bytes past fields from a bit on
abbrev pub past_all : MutBor (List ℕ) → (at : ℕ) → List (ℕ × ℕ) → Writer
past_all b at fields = record { bytes = at_last b (bits_put b.now at (fields_bits fields)); at = at + fields_width fields }

-- it is past none where it is made
pub past_none : (w : Writer) (b : MutBor (List ℕ)) (at : ℕ) → w ≡ writer_at b at → w ≡ past_all w.bytes at []
unfolding bits_put
past_none w b at e =
    let start : at + 0 ≡ at = omega arith in
    rw (e, start) refl

-- and past one more
pub past_next : (w : Writer) (b : MutBor (List ℕ)) (at : ℕ) (fields : List (ℕ × ℕ)) (i : ℕ) (d : ℕ × ℕ) → i < length fields → w ≡ past_all b at (take i fields)
    → past w (get_or fields i d).0 (get_or fields i d).1 ≡ past_all b at (take (i + 1) fields)
past_next w b at fields i d l e =
    let place : at + fields_width (take (i + 1) fields) ≡ at + fields_width (take i fields) + (get_or fields i d).0 = omega (arith, sum_by_more (λ (f : ℕ × ℕ). f.0) fields i d l) in
    rw (e, place, sym (put_next b.now at fields i d l)) refl
