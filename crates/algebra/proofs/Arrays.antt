-- Laws of arrays whose entries from a place on are given anew, and of the loops that do so.
use Prim.Native.Nat.{ℕ, ◌+◌, ◌≤◌, ◌<◌}
use mathlib.Core.Path.{◌≡◌, sym, ap, ◌∙◌}
use mathlib.Core.List.{List, [], ◌∷◌, ◌++◌, append-nil, append_assoc}
use native.Mathlib.Omega.{arith}
use native.Mathlib.Nat as NatL
use native.Mathlib.Numerals.{add-one}
use lib.ListN.{length, get_or, take, drop, set, length-append, length-drop, take-append-drop, get_or-append}
use lib.Seq.{length-take-le, get_or-append-add, take_at, drop-append-add, drop-drop, append_snoc, set_split}
use Rattle.algebra.specs.Bounded.{join_to, list_to}
use Rattle.algebra.specs.Arrays.{placed}
use Rattle.algebra.proofs.Lists.{list_to_suc, length_list_to}

module _ {A : Type 0} where
  -- what stands before the last new entry has the length that it says
  length_front : (at : ℕ) (l out : List A) → at ≤ length out → length (take at out ++ l) ≡ at + length l
  length_front at l out b = length-append (take at out) l ∙ omega (arith, length-take-le at out b)

  -- the array keeps its length
  pub length_placed : (at : ℕ) (l out : List A) → at + length l ≤ length out → length (placed at l out) ≡ length out
  unfolding placed
  length_placed at l out b =
      length-append (take at out ++ l) (drop (at + length l) out)
      ∙ omega (arith, length_front at l out (omega arith), length-drop (at + length l) out)

  -- nothing given anew
  pub placed_none : (at : ℕ) (out : List A) → out ≡ placed at [] out
  unfolding placed
  placed_none at out = sym (rw (NatL.add-zero, append-nil) (take-append-drop at out))

  -- from the first entry on
  pub placed_first : (l out : List A) → placed 0 l out ≡ l ++ drop (length l) out
  unfolding placed
  placed_first l out = let e : 0 + length l ≡ length l = omega arith in ap (λ (k : ℕ). l ++ drop k out) e

  -- an entry that is given anew, from a place on
  pub placed_from : (d : A) (at : ℕ) (l out : List A) (i : ℕ) → at ≤ length out → i < length l → get_or (placed at l out) (at + i) d ≡ get_or l i d
  unfolding placed
  placed_from d at l out i b v =
      let front = take at out in
      let size : length front ≡ at = length-take-le at out b in
      ap (λ (k : List A). get_or k (at + i) d) (append_assoc front l (drop (at + length l) out))
      ∙ ap (λ (k : ℕ). get_or (front ++ (l ++ drop (at + length l) out)) (k + i) d) (sym size)
      ∙ get_or-append-add front (l ++ drop (at + length l) out) i d
      ∙ get_or-append l (drop (at + length l) out) d i v

  -- and from the first on
  pub placed_at : (d : A) (l out : List A) (i : ℕ) → i < length l → get_or (placed 0 l out) i d ≡ get_or l i d
  placed_at d l out i v = let e : 0 + i ≡ i = omega arith in ap (λ (k : ℕ). get_or (placed 0 l out) k d) (sym e) ∙ placed_from d 0 l out i (omega arith) v

  -- two parts, the second from where the first ends
  pub placed_twice : (at : ℕ) (a b out : List A) → at ≤ length out → placed (at + length a) b (placed at a out) ≡ placed at (a ++ b) out
  unfolding placed
  placed_twice at a b out h =
      let rest = drop (at + length a) out in
      let size = length_front at a out h in
      let past : drop (at + length a + length b) (take at out ++ a ++ rest) ≡ drop (at + length (a ++ b)) out = rw (← size, drop-append-add, size, drop-drop, length-append, ← NatL.add_assoc) in
      rw (take_at (take at out ++ a) rest (at + length a) size, past, append_assoc (take at out) a b)

  -- one entry
  placed_one : (at : ℕ) (x : A) (out : List A) → at < length out → set out at x ≡ placed at (x ∷ []) out
  unfolding placed
  placed_one at x out h = set_split out at x h ∙ rw (append_snoc, add-one)

  -- one entry more
  pub placed_more : (at : ℕ) (l out : List A) (x : A) → at + length l < length out → set (placed at l out) (at + length l) x ≡ placed at (l ++ x ∷ []) out
  placed_more at l out x h =
      placed_one (at + length l) x (placed at l out) (omega (arith, length_placed at l out (omega arith)))
      ∙ placed_twice at l (x ∷ []) out (omega arith)

-- A loop has given n entries anew from a place on, on the way to a bound.
abbrev pub Placing : {A : Type 0} → (at : ℕ) → (ℕ → A) → (bound : ℕ) → (before : List A) → (n : ℕ) → (after : List A) → Type 0
Placing at f bound out n now = (n ≤ bound) × (now ≡ placed at (list_to n f) out)

module _ {A : Type 0} (at : ℕ) (f : ℕ → A) (bound : ℕ) (out : List A) where
  -- where the loop begins
  pub placing_none : Placing at f bound out 0 out
  unfolding list_to join_to
  placing_none = (omega arith, placed_none at out)

  -- a turn: entry n is given
  pub placing_more : (n : ℕ) (now : List A) (x : A) → Placing at f bound out n now → n < bound → at + bound ≤ length out → x ≡ f n → Placing at f bound out (n + 1) (set now (at + n) x)
  placing_more n now x h b r e =
      let size = length_list_to n f in
      let one : set (placed at (list_to n f) out) (at + n) x ≡ placed at (list_to n f ++ x ∷ []) out = rw size at (placed_more at (list_to n f) out x (omega (arith, size))) in
      (omega arith, rw (h.1, one, e, add-one, list_to_suc))

  -- the array keeps its length
  pub placing_long : (n : ℕ) (now : List A) → Placing at f bound out n now → at + bound ≤ length out → length now ≡ length out
  placing_long n now h r = ap length h.1 ∙ length_placed at (list_to n f) out (omega (arith, length_list_to n f))

  -- the bound is reached
  pub placing_all : (n : ℕ) (now : List A) → Placing at f bound out n now → bound ≤ n → now ≡ placed at (list_to bound f) out
  placing_all n now h b = let e : n ≡ bound = omega arith in rw e at h.1
