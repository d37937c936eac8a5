-- Texts put one after the other.
use Prim.Native.Nat.{ℕ, ◌+◌}
use mathlib.Core.Path.{◌≡◌, sym, ap, ◌∙◌}
use mathlib.Core.List.{List, [], ◌∷◌, ◌++◌, append_assoc}
use native.Mathlib.Omega.{arith}
use native.Mathlib.Nat as NatL
use lib.ListN.{length, set, take, drop, length-append}
use lib.Seq.{take_at, drop-drop}
use borrow.Rule.Slice.PartMut.{put_mid}
use Rattle.algebra.specs.Arrays.{placed}
use Rattle.algebra.proofs.Arrays.{length_placed, placed_none, placed_first, placed_more, placed_twice}
use Rattle.text.specs.Text.{TextFits, Put}

-- what a copy to a part of the buffer leaves
pub put_part : (at k : ℕ) (text out : List ℕ) → length text ≡ k → put_mid at k out text ≡ placed at text out
unfolding placed
put_part at k text out e = sym (append_assoc (take at out) text (drop k (drop at out))) ∙ rw (drop-drop, e)

-- nothing is put
pub put_none : (at : ℕ) (out : List ℕ) → Put at [] out out at
put_none at out = record { buffer = placed_none at out; place = omega arith }

-- one byte is put
pub put_one : (at x : ℕ) (out : List ℕ) → TextFits at (x ∷ []) out → Put at (x ∷ []) out (set out at x) (at + 1)
put_one at x out r =
    let one : set (placed at [] out) (at + 0) x ≡ placed at (x ∷ []) out = placed_more at [] out x (omega (arith, r.fits)) in
    record { buffer = rw (NatL.add-zero, ← placed_none at out) at one; place = omega arith }

-- room for two texts is room for the first
pub room_first : {at : ℕ} (a b : List ℕ) {out : List ℕ} → TextFits at (a ++ b) out → TextFits at a out
room_first a b r = record { fits = omega (arith, r.fits, length-append a b) }

-- room for one byte is room for any
pub room_byte : {at x : ℕ} {out : List ℕ} → TextFits at (x ∷ []) out → (y : ℕ) → TextFits at (y ∷ []) out
room_byte r y = record { fits = r.fits }

module _ {at : ℕ} {a before mid : List ℕ} {k : ℕ} (p : Put at a before mid k) where
  -- the buffer keeps its length
  pub put_long : TextFits at a before → length mid ≡ length before
  put_long r = ap length p.buffer ∙ length_placed at a before r.fits

  -- and has room for the second, once the first is put
  pub room_then : (b : List ℕ) → TextFits at (a ++ b) before → TextFits k b mid
  room_then b r = record { fits = omega (arith, r.fits, length-append a b, p.place, put_long (room_first a b r)) }

  -- both are put
  pub put_then : {b after : List ℕ} {n : ℕ} → TextFits at (a ++ b) before → Put k b mid after n → Put at (a ++ b) before after n
  put_then {b} r q = record {
    buffer = q.buffer ∙ rw (p.buffer, p.place) (placed_twice at a b before (omega (arith, r.fits)));
    place = omega (arith, q.place, p.place, length-append a b);
  }

-- a text at the start of a buffer is what the first bytes are
pub put_read : {text before after : List ℕ} {n : ℕ} → Put 0 text before after n → take n after ≡ text
put_read {text} {before} {after} {n} p =
    let size : length text ≡ n = omega (arith, p.place) in
    rw (p.buffer, placed_first text before) (take_at text (drop (length text) before) n size)
