-- Sums of integers below a bound. Laws of two sums merge them into one.
use Prim.Native.Nat.{ℕ, zero, suc, ◌<◌}
use mathlib.Core.Path.{◌≡◌, refl, sym, ap, ◌∙◌}
use mathlib.Core.Bool.{Bool, true, false, ◌&&◌, cond}
use native.Mathlib.Omega.{arith}
use native.Mathlib.Decide.{ℕ_discrete}
use lib.Dec.{T, eqb, eqb→eq, eqb_refl}
use lib.IntN.{ℤ, pos, ◌+ℤ◌, ◌*ℤ◌, +ℤ_idl, +ℤ_idr, zero-*ℤ, *ℤ-zero}
use lib.Signed.{◌≤ℤ◌, ≤ℤ_refl}
use Rattle.algebra.specs.Bounded.{sum_to, sum_where, total_to}
use Rattle.algebra.proofs.Tests.{cond_yes, cond_no, cond_same}
use Rattle.algebra.proofs.Integers.{+ℤ-mono, exchange, scale_add, scale_plus}

-- z where the test passes, else 0
abbrev pub only_z : Bool → ℤ → ℤ
only_z b z = cond b z (pos 0)

-- equal where the test passes
pub only_z_cong : (b : Bool) (x y : ℤ) → (T b → x ≡ y) → only_z b x ≡ only_z b y
only_z_cong true x y h = h tt
only_z_cong false x y h = refl

-- at most where the test passes
only_z_mono : (b : Bool) (x y : ℤ) → (T b → x ≤ℤ y) → only_z b x ≤ℤ only_z b y
only_z_mono true x y h = h tt
only_z_mono false x y h = ≤ℤ_refl (pos 0)

-- of 0, 0
pub only_z_zero : (b : Bool) → only_z b (pos 0) ≡ pos 0
only_z_zero b = cond_same b (pos 0)

-- two integers under one test
pub only_z_plus : (b : Bool) (x y : ℤ) → only_z b x +ℤ only_z b y ≡ only_z b (x +ℤ y)
only_z_plus true x y = refl
only_z_plus false x y = refl

-- a multiple
pub only_z_scale : (b : Bool) (w : ℕ) (z : ℤ) → pos w *ℤ only_z b z ≡ only_z b (pos w *ℤ z)
only_z_scale true w z = refl
only_z_scale false w z = *ℤ-zero (pos w)

-- a test under a test
pub only_z_and : (a b : Bool) (z : ℤ) → only_z a (only_z b z) ≡ only_z (a && b) z
only_z_and true b z = refl
only_z_and false b z = refl

-- the last term apart
pub sum_suc : (n : ℕ) (f : ℕ → ℤ) → sum_to (suc n) f ≡ sum_to n f +ℤ f n
unfolding sum_to
sum_suc n f = refl

-- equal terms
pub sum_cong : (n : ℕ) (f h : ℕ → ℤ) → ((i : ℕ) → i < n → f i ≡ h i) → sum_to n f ≡ sum_to n h
unfolding sum_to
sum_cong zero f h e = refl
sum_cong (suc n) f h e = rw (sum_cong n f h (λ i l. e i (omega arith)), e n (omega arith))

-- larger terms
pub sum_mono : (n : ℕ) (f h : ℕ → ℤ) → ((i : ℕ) → i < n → f i ≤ℤ h i) → sum_to n f ≤ℤ sum_to n h
unfolding sum_to
sum_mono zero f h e = ≤ℤ_refl (pos 0)
sum_mono (suc n) f h e = +ℤ-mono (sum_mono n f h (λ i l. e i (omega arith))) (e n (omega arith))

-- terms of 0
pub sum_zero : (n : ℕ) (f : ℕ → ℤ) → ((i : ℕ) → i < n → f i ≡ pos 0) → sum_to n f ≡ pos 0
unfolding sum_to
sum_zero zero f e = refl
sum_zero (suc n) f e = rw (sum_zero n f (λ i l. e i (omega arith)), e n (omega arith))

-- two sums, term by term
pub sum_plus : (n : ℕ) (f h : ℕ → ℤ) → sum_to n f +ℤ sum_to n h ≡ sum_to n (λ i. f i +ℤ h i)
unfolding sum_to
sum_plus zero f h = refl
sum_plus (suc n) f h = exchange (sum_to n f) (f n) (sum_to n h) (h n) ∙ ap (λ (z : ℤ). z +ℤ (f n +ℤ h n)) (sum_plus n f h)

-- a multiple of a sum
pub sum_scale : (n w : ℕ) (f : ℕ → ℤ) → pos w *ℤ sum_to n f ≡ sum_to n (λ i. pos w *ℤ f i)
unfolding sum_to
sum_scale zero w f = *ℤ-zero (pos w)
sum_scale (suc n) w f = scale_add w (sum_to n f) (f n) ∙ ap (λ (z : ℤ). z +ℤ pos w *ℤ f n) (sum_scale n w f)

-- weights of one integer
pub sum_weights : (n : ℕ) (x : ℕ → ℕ) (z : ℤ) → sum_to n (λ m. pos (x m) *ℤ z) ≡ pos (total_to n x) *ℤ z
unfolding sum_to total_to
sum_weights zero x z = sym (zero-*ℤ z)
sum_weights (suc n) x z = ap (λ (y : ℤ). y +ℤ pos (x n) *ℤ z) (sum_weights n x z) ∙ sym (scale_plus (total_to n x) (x n) z)

-- a sum of sums, the other way round
pub sum_swap : (n k : ℕ) (f : ℕ → ℕ → ℤ) → sum_to n (λ i. sum_to k (λ j. f i j)) ≡ sum_to k (λ j. sum_to n (λ i. f i j))
unfolding sum_to
sum_swap zero k f = sym (sum_zero k (λ j. pos 0) (λ i l. refl))
sum_swap (suc n) k f = ap (λ (z : ℤ). z +ℤ sum_to k (λ j. f n j)) (sum_swap n k f) ∙ sum_plus k (λ j. sum_to n (λ i. f i j)) (λ j. f n j)

-- one term, where the others are 0
pub sum_one : (n : ℕ) (f : ℕ → ℤ) (k : ℕ) → k < n → ((i : ℕ) → i < n → ¬ (i ≡ k) → f i ≡ pos 0) → sum_to n f ≡ f k
unfolding sum_to
sum_one zero f k l z = absurd (omega arith)
sum_one (suc n) f k l z = go (λ v. sum_one n f k v (λ i u. z i (omega arith))) (ℕ_discrete k n)
  where
    go : (k < n → sum_to n f ≡ f k) → Dec (k ≡ n) → sum_to n f +ℤ f n ≡ f k
    go rest (yes e) = rw (sum_zero n f (λ i v. z i (omega arith) (λ x. omega arith)), e) (+ℤ_idl (f n))
    go rest (no e) = rw (rest (omega arith), z n (omega arith) (λ x. e (sym x))) (+ℤ_idr (f k))

-- the term at one index
pub sum_pick : (n a : ℕ) (f : ℕ → ℤ) → a < n → sum_to n (λ i. only_z (eqb a i) (f i)) ≡ f a
sum_pick n a f l =
    sum_one n (λ i. only_z (eqb a i) (f i)) a l (λ i v d. cond_no (eqb a i) (f i) (pos 0) (λ t. d (sym (eqb→eq a i t))))
    ∙ cond_yes (eqb a a) (f a) (pos 0) (eqb_refl a)

-- a sum over the numbers that pass
pub where_z_is : (n : ℕ) (t : ℕ → Bool) (f : ℕ → ℤ) → sum_where n t f ≡ sum_to n (λ i. only_z (t i) (f i))
unfolding sum_where
where_z_is n t f = refl

-- terms equal where the test passes
pub where_cong : (n : ℕ) (t : ℕ → Bool) (f h : ℕ → ℤ) → ((i : ℕ) → i < n → T (t i) → f i ≡ h i) → sum_where n t f ≡ sum_where n t h
unfolding sum_where
where_cong n t f h e = sum_cong n (λ i. only_z (t i) (f i)) (λ i. only_z (t i) (h i)) (λ i l. only_z_cong (t i) (f i) (h i) (e i l))

-- equal tests
pub where_tests : (n : ℕ) (t u : ℕ → Bool) (f : ℕ → ℤ) → ((i : ℕ) → i < n → t i ≡ u i) → sum_where n t f ≡ sum_where n u f
unfolding sum_where
where_tests n t u f e = sum_cong n (λ i. only_z (t i) (f i)) (λ i. only_z (u i) (f i)) (λ i l. ap (λ (b : Bool). only_z b (f i)) (e i l))

-- terms larger where the test passes
pub where_mono : (n : ℕ) (t : ℕ → Bool) (f h : ℕ → ℤ) → ((i : ℕ) → i < n → T (t i) → f i ≤ℤ h i) → sum_where n t f ≤ℤ sum_where n t h
unfolding sum_where
where_mono n t f h e = sum_mono n (λ i. only_z (t i) (f i)) (λ i. only_z (t i) (h i)) (λ i l. only_z_mono (t i) (f i) (h i) (e i l))

-- no number passes
pub where_none : (n : ℕ) (t : ℕ → Bool) (f : ℕ → ℤ) → ((i : ℕ) → i < n → ¬ T (t i)) → sum_where n t f ≡ pos 0
unfolding sum_where
where_none n t f e = sum_zero n (λ i. only_z (t i) (f i)) (λ i l. cond_no (t i) (f i) (pos 0) (e i l))

-- two sums under one test, term by term
pub where_plus : (n : ℕ) (t : ℕ → Bool) (f h : ℕ → ℤ) → sum_where n t f +ℤ sum_where n t h ≡ sum_where n t (λ i. f i +ℤ h i)
unfolding sum_where
where_plus n t f h =
    sum_plus n (λ i. only_z (t i) (f i)) (λ i. only_z (t i) (h i))
    ∙ sum_cong n (λ i. only_z (t i) (f i) +ℤ only_z (t i) (h i)) (λ i. only_z (t i) (f i +ℤ h i)) (λ i l. only_z_plus (t i) (f i) (h i))

-- a multiple of a sum over the numbers that pass
pub where_scale : (n w : ℕ) (t : ℕ → Bool) (f : ℕ → ℤ) → pos w *ℤ sum_where n t f ≡ sum_where n t (λ i. pos w *ℤ f i)
unfolding sum_where
where_scale n w t f =
    sum_scale n w (λ i. only_z (t i) (f i))
    ∙ sum_cong n (λ i. pos w *ℤ only_z (t i) (f i)) (λ i. only_z (t i) (pos w *ℤ f i)) (λ i l. only_z_scale (t i) w (f i))
