-- Lists in sections: a store makes one section longer by a place and leaves every other as it was.
use Prim.Native.Nat.{ℕ, ◌+◌, ◌-◌, ◌≤◌, ◌<◌}
use mathlib.Core.Path.{◌≡◌, refl, ◌∙◌}
use mathlib.Core.List.{List}
use native.Mathlib.Omega.{arith}
use native.Mathlib.Decide.{ℕ_discrete}
use lib.ListN.{length, get_or, take, drop, set, length-set, length-drop}
use lib.Seq.{get_or-drop, take_all, get_or-set_same, get_or-set_other}
use Rattle.algebra.specs.Sections.{section, Held, Apart}

-- A section as a list of its own.
module _ {A : Type 0} (from : ℕ) (l : List A) where
  pub section_long : length (section from l) ≡ length l - from
  unfolding section
  section_long = length-drop from l

  pub section_at : (i : ℕ) (d : A) → get_or (section from l) i d ≡ get_or l (from + i) d
  unfolding section
  section_at i d = get_or-drop from l i d

  -- as a part that is lent
  pub section_part : take (length l - from) (drop from l) ≡ section from l
  unfolding section
  section_part = take_all (length l - from) (drop from l) (omega (arith, length-drop from l))

module _ {A : Type 0} where
  -- nothing is filled yet
  pub held_none : {from : ℕ} (f : ℕ → A) {l : List A} → from ≤ length l → Held from f 0 l
  held_none f b = record { long = omega arith; at = λ d i v. absurd (omega arith) }

  -- place n of a section is put: one place more holds
  pub held_more : {from : ℕ} {f : ℕ → A} {n : ℕ} {l k : List A} (x : A) → Held from f n l → from + n < length l → k ≡ set l (from + n) x → x ≡ f n → Held from f (n + 1) k
  held_more {from} {f} {n} {l} {k} x held b e is = rw e (record { long = omega (arith, length-set l (from + n) x); at = each })
    where
      each : (d : A) (i : ℕ) → i < n + 1 → get_or (set l (from + n) x) (from + i) d ≡ f i
      each d i v =
          elim (ℕ_discrete i n) [
            | yes q ↦ rw q (get_or-set_same l (from + n) x d b ∙ is)
            | no q ↦ get_or-set_other l (from + n) (from + i) x d (λ w. q (omega arith)) ∙ held.at d i (omega (arith, q))
          ]

  -- one of the places that hold is put anew
  pub held_put : {from : ℕ} {f : ℕ → A} {n : ℕ} {l k : List A} (h : ℕ → A) (j : ℕ) (x : A) → Held from f n l → k ≡ set l (from + j) x → j < n → x ≡ h j → ((i : ℕ) → i < n → ¬ (i ≡ j) → f i ≡ h i) → Held from h n k
  held_put {from} {f} {n} {l} {k} h j x held e b is other = rw e (record { long = omega (arith, held.long, length-set l (from + j) x); at = each })
    where
      each : (d : A) (i : ℕ) → i < n → get_or (set l (from + j) x) (from + i) d ≡ h i
      each d i v =
          elim (ℕ_discrete i j) [
            | yes q ↦ rw q (get_or-set_same l (from + j) x d (omega (arith, held.long)) ∙ is)
            | no q ↦ get_or-set_other l (from + j) (from + i) x d (λ w. q (omega arith)) ∙ held.at d i v ∙ other i v q
          ]

  -- a store elsewhere leaves a section as it was
  pub held_still : {from : ℕ} {f : ℕ → A} {n : ℕ} {l k : List A} (j : ℕ) (x : A) → Held from f n l → k ≡ set l j x → ((i : ℕ) → i < n → ¬ (from + i ≡ j)) → Held from f n k
  held_still {from} {f} {n} {l} {k} j x held e other = rw e (record {
    long = omega (arith, held.long, length-set l j x);
    at = λ d i v. get_or-set_other l j (from + i) x d (other i v) ∙ held.at d i v;
  })

  -- and so does a change that keeps apart from it
  pub held_apart : {from : ℕ} {f : ℕ → A} {n low high : ℕ} {l k : List A} → Held from f n l → Apart low high l k → ((i : ℕ) → i < n → low ≤ from + i → from + i < high → ⊥) → Held from f n k
  held_apart {from} held a other = record {
    long = omega (arith, held.long, a.long);
    at = λ d i v. a.same d (from + i) (other i v) ∙ held.at d i v;
  }

  -- a section that ends before the change
  pub held_before : {from : ℕ} {f : ℕ → A} {n low high : ℕ} {l k : List A} → Held from f n l → Apart low high l k → from + n ≤ low → Held from f n k
  held_before h a b = held_apart h a (λ i v c d. omega arith)

  -- equal functions
  pub held_as : {from : ℕ} {f : ℕ → A} {n : ℕ} {l : List A} (h : ℕ → A) → Held from f n l → ((i : ℕ) → i < n → f i ≡ h i) → Held from h n l
  held_as h held e = record { long = held.long; at = λ d i v. held.at d i v ∙ e i v }

  -- nothing has changed yet
  pub apart_none : {low high : ℕ} {l : List A} → Apart low high l l
  apart_none = record { long = refl; same = λ d j o. refl }

  -- a store within the range
  pub apart_set : {low high : ℕ} {l m k : List A} (j : ℕ) (x : A) → Apart low high l m → k ≡ set m j x → low ≤ j → j < high → Apart low high l k
  apart_set {low} {high} {l} {m} j x a e b c = rw e (record {
    long = length-set m j x ∙ a.long;
    same = λ d i o. get_or-set_other m j i x d (λ w. o (omega arith) (omega arith)) ∙ a.same d i o;
  })

  -- two changes one after the other
  pub apart_twice : {low high low' high' : ℕ} {l m k : List A} (from to : ℕ) → Apart low high l m → Apart low' high' m k → from ≤ low → high ≤ to → from ≤ low' → high' ≤ to → Apart from to l k
  apart_twice from to a b p q r s = record {
    long = b.long ∙ a.long;
    same = λ d i o. b.same d i (λ u v. o (omega arith) (omega arith)) ∙ a.same d i (λ u v. o (omega arith) (omega arith));
  }
