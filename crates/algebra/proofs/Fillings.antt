-- Arrays filled from the front, and what they hold; arrays some of whose entries are given anew, in whatever order.
use Prim.Native.Nat.{ℕ, ◌+◌, ◌-◌, ◌≤◌, ◌<◌}
use mathlib.Core.Path.{◌≡◌, refl, sym, ap, ◌∙◌, subst}
use mathlib.Core.List.{List, ◌∷◌, [], ◌++◌}
use native.Mathlib.Omega.{arith}
use native.Mathlib.Numerals.{add-one}
use native.Mathlib.Decide.{ℕ_discrete, dec_lt}
use lib.ListN.{length, get_or, drop, set, replicate, length-set, length-replicate, get_or-replicate, get_or-append}
use lib.Seq.{ext_get_or, get_or-append-add, get_or-drop, get_or-set_same, get_or-set_other}
use Rattle.algebra.specs.Bounded.{list_to}
use Rattle.algebra.specs.Arrays.{placed, over, Holds}
use Rattle.algebra.proofs.Lists.{list_to_suc, length_list_to, list_to_at}
use Rattle.algebra.proofs.Arrays.{length_placed, placed_first, placed_more}

-- an array filled from the front has its entries from place 0 on
pub over_placed : {A : Type 0} (f : ℕ → A) (n : ℕ) (l : List A) → over f n l ≡ placed 0 (list_to n f) l
unfolding over
over_placed f n l = sym (placed_first (list_to n f) l ∙ ap (λ (k : ℕ). list_to n f ++ drop k l) (length_list_to n f))

-- Arrays of any element; d stands for an entry past the end.
module _ {A : Type 0} (d : A) where
  -- a filled array is as long as before
  pub length_over : (f : ℕ → A) (n : ℕ) (l : List A) → n ≤ length l → length (over f n l) ≡ length l
  length_over f n l b = ap length (over_placed f n l) ∙ length_placed 0 (list_to n f) l (omega (arith, length_list_to n f))

  -- what it holds
  pub over_at : (f : ℕ → A) (n : ℕ) (l : List A) (i : ℕ) → i < n → get_or (over f n l) i d ≡ f i
  unfolding over
  over_at f n l i b = get_or-append (list_to n f) (drop n l) d i (omega (arith, length_list_to n f)) ∙ list_to_at d n f i b

  -- past what is filled it holds what it held
  pub over_past : (f : ℕ → A) (n : ℕ) (l : List A) (i : ℕ) → n ≤ i → get_or (over f n l) i d ≡ get_or l i d
  unfolding over
  over_past f n l i b =
      let e : length (list_to n f) + (i - n) ≡ i = omega (arith, length_list_to n f) in
      let k : n + (i - n) ≡ i = omega arith in
      ap (λ (j : ℕ). get_or (list_to n f ++ drop n l) j d) (sym e) ∙ get_or-append-add (list_to n f) (drop n l) (i - n) d ∙ get_or-drop n l (i - n) d ∙ ap (λ (j : ℕ). get_or l j d) k

  -- a list is the filled one where its entries are
  pub over_is : (f : ℕ → A) (n : ℕ) (l k : List A) → n ≤ length l → length k ≡ length l → ((i : ℕ) → i < n → get_or k i d ≡ f i) → ((i : ℕ) → n ≤ i → get_or k i d ≡ get_or l i d) → k ≡ over f n l
  over_is f n l k b e low high = ext_get_or d k (over f n l) (e ∙ sym (length_over f n l b)) (λ i v. go i)
    where
      go : (i : ℕ) → get_or k i d ≡ get_or (over f n l) i d
      go i =
          elim (dec_lt i n) [
            | yes h ↦ low i h ∙ sym (over_at f n l i h)
            | no h ↦ high i (omega arith) ∙ sym (over_past f n l i (omega arith))
          ]

  -- nothing filled yet
  pub over_none : (f : ℕ → A) (l : List A) → l ≡ over f 0 l
  over_none f l = over_is f 0 l l (omega arith) refl (λ i h. absurd (omega arith)) (λ i h. refl)

  -- one place more
  pub over_more : (f : ℕ → A) (n : ℕ) (l : List A) (x : A) → n < length l → x ≡ f n → set (over f n l) n x ≡ over f (n + 1) l
  over_more f n l x b e =
      let size : 0 + length (list_to n f) ≡ n = omega (arith, length_list_to n f) in
      let one : set (placed 0 (list_to n f) l) n x ≡ placed 0 (list_to n f ++ x ∷ []) l = rw size at (placed_more 0 (list_to n f) l x (omega (arith, size))) in
      rw (over_placed f n l, one, e, over_placed f (n + 1) l, add-one, list_to_suc)

-- the places below n are filled, on the way to a bound
abbrev pub Filling : {A : Type 0} → (ℕ → A) → (bound : ℕ) → (before : List A) → (n : ℕ) → (after : List A) → Type 0
Filling f bound l n k = (n ≤ bound) × (k ≡ over f n l)

-- A loop that fills an array from the front, one place a turn.
module _ {A : Type 0} (d : A) (f : ℕ → A) (bound : ℕ) (l : List A) where
  -- where the loop begins
  pub filling_none : Filling f bound l 0 l
  filling_none = (omega arith, over_none d f l)

  -- a turn: place n is filled
  pub filling_more : (n : ℕ) (k : List A) (x : A) → Filling f bound l n k → n < bound → bound ≤ length l → x ≡ f n → Filling f bound l (n + 1) (set k n x)
  filling_more n k x h b r e = (omega arith, rw h.1 (over_more d f n l x (omega arith) e))

  -- the array keeps its length
  pub filling_long : (n : ℕ) (k : List A) → Filling f bound l n k → bound ≤ length l → length k ≡ length l
  filling_long n k h r = ap length h.1 ∙ length_over d f n l (omega arith)

  -- the bound is reached
  pub filling_all : (n : ℕ) (k : List A) → Filling f bound l n k → bound ≤ n → k ≡ over f bound l
  filling_all n k h b = let e : n ≡ bound = omega arith in rw e at h.1

-- k has f from place `low` to `high`, and past that what l has
pub record HoldsFrom {A : Type 0} (d : A) (f : ℕ → A) (low high : ℕ) (l k : List A) : Type 0 where
  pub long : length k ≡ length l
  pub at : (i : ℕ) → low ≤ i → i < high → get_or k i d ≡ f i
  pub past : (i : ℕ) → high ≤ i → get_or k i d ≡ get_or l i d

module _ {A : Type 0} {d : A} where
  -- nothing is given yet
  pub holds_from_none : (f : ℕ → A) (n : ℕ) (l : List A) → HoldsFrom d f n n l l
  holds_from_none f n l = record { long = refl; at = λ i a b. absurd (omega arith); past = λ i a. refl }

  -- one entry is given, and the others that count are as before
  pub holds_from_set : {f h : ℕ → A} {low lower high : ℕ} {l k : List A} (p : ℕ) (x : A) → HoldsFrom d f low high l k → high ≤ length l → p < high → x ≡ h p → ((i : ℕ) → lower ≤ i → i < high → ¬ (i ≡ p) → (low ≤ i) × (f i ≡ h i)) → HoldsFrom d h lower high l (set k p x)
  holds_from_set {f} {h} {low} {lower} {high} {l} {k} p x g b v e others = record {
    long = length-set k p x ∙ g.long;
    at = each;
    past = λ i a. get_or-set_other k p i x d (λ q. omega arith) ∙ g.past i a;
  }
    where
      each : (i : ℕ) → lower ≤ i → i < high → get_or (set k p x) i d ≡ h i
      each i a u =
          elim (ℕ_discrete i p) [
            | yes q ↦ subst (λ (j : ℕ). get_or (set k p x) j d ≡ h j) (sym q) (get_or-set_same k p x d (omega (arith, g.long)) ∙ e)
            | no q ↦ let o = others i a u q in get_or-set_other k p i x d q ∙ g.at i o.0 u ∙ o.1
          ]

  -- an array that is filled has its entries
  pub holds_from_over : (f : ℕ → A) (n : ℕ) (l k : List A) → n ≤ length l → k ≡ over f n l → HoldsFrom d f 0 n l k
  holds_from_over f n l k b e = record {
    long = ap length e ∙ length_over d f n l b;
    at = λ i _ v. ap (λ (z : List A). get_or z i d) e ∙ over_at d f n l i v;
    past = λ i v. ap (λ (z : List A). get_or z i d) e ∙ over_past d f n l i v;
  }

  -- what is given anew twice is what was given last
  pub holds_from_twice : {f h : ℕ → A} {low n : ℕ} {l m k : List A} → HoldsFrom d h low n l m → HoldsFrom d f low n m k → HoldsFrom d f low n l k
  holds_from_twice g o = record { long = o.long ∙ g.long; at = o.at; past = λ i v. o.past i v ∙ g.past i v }

  -- and one that has them all is filled
  pub holds_from_all : {f : ℕ → A} {n : ℕ} {l k : List A} → HoldsFrom d f 0 n l k → n ≤ length l → k ≡ over f n l
  holds_from_all {f} {n} {l} {k} g b = over_is d f n l k b g.long (λ i v. g.at i (omega arith) v) g.past

-- an array of numbers that is filled holds them
pub filled : {f : ℕ → ℕ} {n : ℕ} {k : List ℕ} (l : List ℕ) → k ≡ over f n l → n ≤ length l → Holds f n k
filled {f} {n} l e b = rw e (record { long = omega (arith, length_over 0 f n l b); at = over_at 0 f n l })

-- zeros, where nothing is gathered yet
pub holds_none : (f : ℕ → ℕ) (n k : ℕ) (l : List ℕ) → l ≡ replicate k 0 → n ≤ k → ((i : ℕ) → f i ≡ 0) → Holds f n l
holds_none f n k l e b none = record {
  long = omega (arith, ap length e, length-replicate {A = ℕ} k 0);
  at = λ i v. ap (λ (x : List ℕ). get_or x i 0) e ∙ get_or-replicate k i 0 0 (omega arith) ∙ sym (none i);
}

-- one entry is given anew, and the others are as before
pub holds_more : (f h : ℕ → ℕ) (n : ℕ) (l : List ℕ) (p x : ℕ) → Holds f n l → p < n → x ≡ h p → ((i : ℕ) → ¬ (i ≡ p) → f i ≡ h i) → Holds h n (set l p x)
holds_more f h n l p x held b here others =
    let g : HoldsFrom 0 f 0 n l l = record { long = refl; at = λ i a v. held.at i v; past = λ i a. refl } in
    let o : HoldsFrom 0 h 0 n l (set l p x) = holds_from_set p x g held.long b here (λ i a v q. (omega arith, others i q)) in
    record { long = omega (arith, o.long, held.long); at = λ i v. o.at i (omega arith) v }
