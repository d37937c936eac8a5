-- Tests of all numbers, searches, and the greatest of integers.
use Prim.Native.Nat.{ℕ, zero, suc, ◌+◌, ◌-◌, ◌≤◌, ◌<◌}
use mathlib.Core.Path.{◌≡◌, refl, sym, ap, ◌∙◌, subst}
use mathlib.Core.Bool.{Bool, true, false, not, ◌||◌, cond}
use native.Mathlib.Omega.{arith}
use native.Mathlib.Nat.{add-zero}
use native.Mathlib.Numerals.{add-one}
use native.Mathlib.Decide.{ℕ_discrete, dec_le}
use lib.Dec.{T, ltb, ltb→lt, lt→ltb}
use mir.Facts.{and_yes, yes_and}
use lib.IntN.{ℤ}
use lib.Signed.{◌≤ℤ◌, lt_z, lt_z_yes, lt_z_no, ≤ℤ_refl}
use Rattle.algebra.specs.Bounded.{all_to, any_to, first_to, larger, max_through}
use Rattle.algebra.proofs.Tests.{dec, cond_yes, cond_no, bool_same, or_left, or_right, false→not, not→false}
use Rattle.algebra.proofs.Integers.{≤ℤ-trans, <ℤ→≤ℤ}

-- where all pass, each does
pub all_to_at : (n : ℕ) (p : ℕ → Bool) → T (all_to n p) → (i : ℕ) → i < n → T (p i)
unfolding all_to
all_to_at zero p t i l = absurd (omega arith)
all_to_at (suc n) p t i l =
    let h = and_yes (all_to n p) (p n) t in
    elim (ℕ_discrete i n) [
      | yes e ↦ subst (λ (k : ℕ). T (p k)) (sym e) h.1
      | no e ↦ all_to_at n p h.0 i (omega arith)
    ]

-- where each passes, all do
pub all_to_make : (n : ℕ) (p : ℕ → Bool) → ((i : ℕ) → i < n → T (p i)) → T (all_to n p)
unfolding all_to
all_to_make zero p h = tt
all_to_make (suc n) p h = yes_and (all_to n p) (p n) (all_to_make n p (λ i l. h i (omega arith))) (h n (omega arith))

-- equal tests, over all numbers
pub all_to_cong : (n : ℕ) (p q : ℕ → Bool) → ((i : ℕ) → i < n → p i ≡ q i) → all_to n p ≡ all_to n q
unfolding all_to
all_to_cong zero p q e = refl
all_to_cong (suc n) p q e = rw (all_to_cong n p q (λ i l. e i (omega arith)), e n (omega arith))

-- a test of nothing
pub all_to_none : (p : ℕ → Bool) → all_to 0 p ≡ true
unfolding all_to
all_to_none p = refl

-- one number more
pub all_to_more : (p : ℕ → Bool) (n : ℕ) → all_to n p ≡ true → p n ≡ true → all_to (n + 1) p ≡ true
unfolding all_to
all_to_more p n e f = rw (add-one, e, f)

-- a number that fails
pub all_to_stop : (p : ℕ → Bool) (n i : ℕ) → i < n → p i ≡ false → all_to n p ≡ false
all_to_stop p n i l e = not→false (all_to n p) (λ t. false→not (p i) e (all_to_at n p t i l))

-- where some number passes, one is found
pub any_to_find : (n : ℕ) (p : ℕ → Bool) → T (any_to n p) → (i : ℕ) × (i < n) × T (p i)
unfolding any_to
any_to_find zero p t = absurd t
any_to_find (suc n) p t = go (any_to n p) (λ u. any_to_find n p u) t
  where
    go : (b : Bool) → (T b → (i : ℕ) × (i < n) × T (p i)) → T (b || p n) → (i : ℕ) × (i < suc n) × T (p i)
    go true found t = let r = found tt in (r.0, omega arith, r.2)
    go false found t = (n, omega arith, t)

-- a number that passes is some number
pub any_to_make : (n : ℕ) (p : ℕ → Bool) (i : ℕ) → i < n → T (p i) → T (any_to n p)
unfolding any_to
any_to_make zero p i l t = absurd (omega arith)
any_to_make (suc n) p i l t =
    elim (ℕ_discrete i n) [
      | yes e ↦ or_right (any_to n p) (p n) (subst (λ (k : ℕ). T (p k)) e t)
      | no e ↦ or_left (any_to n p) (p n) (any_to_make n p i (omega arith) t)
    ]

-- equal tests, of some number
pub any_to_cong : (n : ℕ) (p q : ℕ → Bool) → ((i : ℕ) → i < n → p i ≡ q i) → any_to n p ≡ any_to n q
unfolding any_to
any_to_cong zero p q e = refl
any_to_cong (suc n) p q e = rw (any_to_cong n p q (λ i l. e i (omega arith)), e n (omega arith))

-- the first number that passes is at most n
pub first_to_bound : (n : ℕ) (p : ℕ → Bool) → first_to n p ≤ n
unfolding first_to
first_to_bound zero p = omega arith
first_to_bound (suc n) p = go (p 0) (first_to_bound n (λ i. p (suc i)))
  where
    go : (b : Bool) → first_to n (λ i. p (suc i)) ≤ n → cond b 0 (suc (first_to n (λ i. p (suc i)))) ≤ suc n
    go true l = omega arith
    go false l = omega arith

-- nothing below the first passes
pub first_to_before : (n : ℕ) (p : ℕ → Bool) (i : ℕ) → i < first_to n p → ¬ T (p i)
unfolding first_to
first_to_before zero p i l t = absurd (omega arith)
first_to_before (suc n) p i l t = go (p 0) refl (first_to_before n (λ j. p (suc j))) i l t
  where
    rest : ℕ
    rest = first_to n (λ j. p (suc j))

    go : (b : Bool) → p 0 ≡ b → ((j : ℕ) → j < rest → ¬ T (p (suc j))) → (i : ℕ) → i < cond b 0 (suc rest) → ¬ T (p i)
    go true e before i l t = omega arith
    go false e before zero l t = subst T e t
    go false e before (suc i) l t = before i (omega arith) t

-- where some number passes, the first passes
pub first_to_found : (n : ℕ) (p : ℕ → Bool) (i : ℕ) → i < n → T (p i) → T (p (first_to n p)) × (first_to n p < n)
unfolding first_to
first_to_found zero p i l t = absurd (omega arith)
first_to_found (suc n) p i l t = go (p 0) refl (λ j. first_to_found n (λ k. p (suc k)) j) i l t
  where
    rest : ℕ
    rest = first_to n (λ j. p (suc j))

    go : (b : Bool) → p 0 ≡ b → ((j : ℕ) → j < n → T (p (suc j)) → T (p (suc rest)) × (rest < n)) → (i : ℕ) → i < suc n → T (p i) → T (p (cond b 0 (suc rest))) × (cond b 0 (suc rest) < suc n)
    go true e found i l t = (subst T (sym e) tt, omega arith)
    go false e found zero l t = absurd (subst T e t)
    go false e found (suc i) l t = let h = found i (omega arith) t in (h.0, omega arith)

-- the first is at most any number that passes
pub first_to_least : (n : ℕ) (p : ℕ → Bool) (i : ℕ) → i < n → T (p i) → first_to n p ≤ i
first_to_least n p i l t =
    elim (dec_le (first_to n p) i) [
      | yes h ↦ h
      | no h ↦ absurd (first_to_before n p i (omega arith) t)
    ]

-- where none passes, the first is n
pub first_to_none : (n : ℕ) (p : ℕ → Bool) → ((i : ℕ) → i < n → ¬ T (p i)) → first_to n p ≡ n
unfolding first_to
first_to_none zero p h = refl
first_to_none (suc n) p h = cond_no (p 0) 0 (suc (first_to n (λ i. p (suc i)))) (h 0 (omega arith)) ∙ ap suc (first_to_none n (λ i. p (suc i)) (λ i l. h (suc i) (omega arith)))

-- a first number below the bound passes
pub first_to_holds : (n : ℕ) (p : ℕ → Bool) → first_to n p < n → T (p (first_to n p))
first_to_holds n p l =
    elim (dec (any_to n p)) [
      | yes a ↦ let r = any_to_find n p a in (first_to_found n p r.0 r.1 r.2).0
      | no a ↦ absurd (omega (arith, first_to_none n p (λ i v t. a (any_to_make n p i v t))))
    ]

-- so the first is below the bound where some number passes
pub first_to_below : (n : ℕ) (p : ℕ → Bool) → ltb (first_to n p) n ≡ any_to n p
first_to_below n p =
    bool_same (ltb (first_to n p) n) (any_to n p)
    (λ t. let l = ltb→lt (first_to n p) n t in any_to_make n p (first_to n p) l (first_to_holds n p l))
    (λ t. let r = any_to_find n p t in lt→ltb (first_to n p) n (first_to_found n p r.0 r.1 r.2).1)

-- equal tests find the same number
pub first_to_cong : (n : ℕ) (p q : ℕ → Bool) → ((i : ℕ) → i < n → p i ≡ q i) → first_to n p ≡ first_to n q
unfolding first_to
first_to_cong zero p q e = refl
first_to_cong (suc n) p q e = rw (e 0 (omega arith), first_to_cong n (λ i. p (suc i)) (λ i. q (suc i)) (λ i l. e (suc i) (omega arith)))

-- the least number from k on and below `count` that passes; `count` where none does
abbrev pub first_from : (ℕ → Bool) → (count k : ℕ) → ℕ
first_from p count k = k + first_to (count - k) (λ i. p (k + i))

-- Searches that begin at a number.
module _ (p : ℕ → Bool) (count : ℕ) where
  -- with no number left
  pub from_end : first_from p count count ≡ count
  from_end = omega (arith, first_to_bound (count - count) (λ i. p (count + i)))

  -- one number more
  from_step : (k : ℕ) → k < count → first_from p count k ≡ cond (p k) k (first_from p count (k + 1))
  unfolding first_to
  from_step k l =
      let e : count - k ≡ suc rest = omega arith in
      rw (e, add-zero k) (go (p k))
    where
      rest : ℕ
      rest = count - (k + 1)

      shift : (i : ℕ) → k + suc i ≡ k + 1 + i
      shift i = omega arith

      shifted : first_to rest (λ i. p (k + suc i)) ≡ first_to rest (λ i. p (k + 1 + i))
      shifted j = first_to rest (λ i. p (shift i j))

      go : (b : Bool) → k + cond b 0 (suc (first_to rest (λ i. p (k + suc i)))) ≡ cond b k (k + 1 + first_to rest (λ i. p (k + 1 + i)))
      go true = omega arith
      go false = omega (arith, shifted)

  -- a number that passes is the first from itself on
  pub from_here : (k : ℕ) → k < count → T (p k) → first_from p count k ≡ k
  from_here k l t = from_step k l ∙ cond_yes (p k) k (first_from p count (k + 1)) t

  -- one that fails is passed over
  pub from_next : (k : ℕ) → k < count → ¬ T (p k) → first_from p count (k + 1) ≡ first_from p count k
  from_next k l t = sym (from_step k l ∙ cond_no (p k) k (first_from p count (k + 1)) t)

-- the first of two is at most the larger
pub larger_left : (a b : ℤ) → a ≤ℤ larger a b
unfolding larger
larger_left a b = go (lt_z a b) refl
  where
    go : (t : Bool) → lt_z a b ≡ t → a ≤ℤ cond t b a
    go true e = <ℤ→≤ℤ (lt_z_yes (subst T (sym e) tt))
    go false e = ≤ℤ_refl a

-- the second of two is at most the larger
pub larger_right : (a b : ℤ) → b ≤ℤ larger a b
unfolding larger
larger_right a b = go (lt_z a b) refl
  where
    go : (t : Bool) → lt_z a b ≡ t → b ≤ℤ cond t b a
    go true e = ≤ℤ_refl b
    go false e = lt_z_no (subst (λ (t : Bool). T (not t)) (sym e) tt)

-- each is at most the greatest
pub max_through_above : (n : ℕ) (f : ℕ → ℤ) (i : ℕ) → i ≤ n → f i ≤ℤ max_through n f
unfolding max_through
max_through_above zero f i l = subst (λ (k : ℕ). f k ≤ℤ f 0) (omega arith) (≤ℤ_refl (f 0))
max_through_above (suc n) f i l =
    elim (ℕ_discrete i (suc n)) [
      | yes e ↦ subst (λ (k : ℕ). f k ≤ℤ larger (max_through n f) (f (suc n))) (sym e) (larger_right (max_through n f) (f (suc n)))
      | no e ↦ ≤ℤ-trans (max_through_above n f i (omega arith)) (larger_left (max_through n f) (f (suc n)))
    ]

-- the greatest is one of them
pub max_through_met : (n : ℕ) (f : ℕ → ℤ) → (i : ℕ) × (i ≤ n) × (max_through n f ≡ f i)
unfolding max_through larger
max_through_met zero f = (0, omega arith, refl)
max_through_met (suc n) f = go (lt_z (max_through n f) (f (suc n))) (max_through_met n f)
  where
    go : (b : Bool) → (i : ℕ) × (i ≤ n) × (max_through n f ≡ f i) → (i : ℕ) × (i ≤ suc n) × (cond b (f (suc n)) (max_through n f) ≡ f i)
    go true r = (suc n, omega arith, refl)
    go false r = (r.0, omega arith, r.2)

-- the greatest of equal integers
pub max_through_cong : (n : ℕ) (f h : ℕ → ℤ) → ((i : ℕ) → i ≤ n → f i ≡ h i) → max_through n f ≡ max_through n h
unfolding max_through
max_through_cong zero f h e = e 0 (omega arith)
max_through_cong (suc n) f h e = rw (max_through_cong n f h (λ i l. e i (omega arith)), e (suc n) (omega arith))
