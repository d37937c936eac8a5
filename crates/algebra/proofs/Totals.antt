-- Sums of whole numbers below a bound. Laws of two sums merge them into one.
use Prim.Native.Nat.{ℕ, zero, suc, ◌+◌, ◌*◌, ◌≤◌, ◌<◌}
use mathlib.Core.Path.{◌≡◌, refl, sym, ap, ◌∙◌, subst}
use mathlib.Core.Bool.{Bool, true, false, not, ◌&&◌, cond}
use native.Mathlib.Omega.{arith}
use native.Mathlib.Decide.{ℕ_discrete, dec_lt}
use lib.Dec.{T, eqb, eqb→eq, eqb_refl}
use Rattle.algebra.specs.Bounded.{total_to}
use Rattle.algebra.proofs.Tests.{cond_yes, cond_no}

-- x where the test passes, else 0
abbrev pub only : Bool → ℕ → ℕ
only b x = cond b x 0

-- equal where the test passes
pub only_cong : (b : Bool) (x y : ℕ) → (T b → x ≡ y) → only b x ≡ only b y
only_cong true x y h = h tt
only_cong false x y h = refl

-- at most where the test passes
pub only_le : (b : Bool) (x y : ℕ) → (T b → x ≤ y) → only b x ≤ only b y
only_le true x y h = h tt
only_le false x y h = omega arith

-- at most the number itself
pub only_most : (b : Bool) (x : ℕ) → only b x ≤ x
only_most true x = omega arith
only_most false x = omega arith

-- a multiple
pub only_scale : (b : Bool) (k x : ℕ) → k * only b x ≡ only b (k * x)
only_scale true k x = refl
only_scale false k x = omega arith

-- a test under a test
pub only_only : (a b : Bool) (x : ℕ) → only a (only b x) ≡ only (a && b) x
only_only true b x = refl
only_only false b x = refl

-- a test under a test, the inner one first
pub only_swap : (a b : Bool) (x : ℕ) → only a (only b x) ≡ only (b && a) x
only_swap true true x = refl
only_swap true false x = refl
only_swap false true x = refl
only_swap false false x = refl

-- a test and its negation
pub only_both : (b : Bool) (x : ℕ) → only b x + only (not b) x ≡ x
only_both true x = omega arith
only_both false x = omega arith

-- the last term apart
pub count_suc : (n : ℕ) (f : ℕ → ℕ) → total_to (suc n) f ≡ total_to n f + f n
unfolding total_to
count_suc n f = refl

-- equal terms
pub count_cong : (n : ℕ) (f h : ℕ → ℕ) → ((i : ℕ) → i < n → f i ≡ h i) → total_to n f ≡ total_to n h
unfolding total_to
count_cong zero f h e = refl
count_cong (suc n) f h e = rw (count_cong n f h (λ i l. e i (omega arith)), e n (omega arith))

-- larger terms
pub count_le : (n : ℕ) (f h : ℕ → ℕ) → ((i : ℕ) → i < n → f i ≤ h i) → total_to n f ≤ total_to n h
unfolding total_to
count_le zero f h e = omega arith
count_le (suc n) f h e = omega (arith, count_le n f h (λ i l. e i (omega arith)), e n (omega arith))

-- terms of 0
pub count_zero : (n : ℕ) (f : ℕ → ℕ) → ((i : ℕ) → i < n → f i ≡ 0) → total_to n f ≡ 0
unfolding total_to
count_zero zero f e = refl
count_zero (suc n) f e = omega (arith, count_zero n f (λ i l. e i (omega arith)), e n (omega arith))

-- terms of 1
pub count_ones : (n : ℕ) → total_to n (λ i. 1) ≡ n
unfolding total_to
count_ones zero = refl
count_ones (suc n) = omega (arith, count_ones n)

-- two sums, term by term
pub count_plus : (n : ℕ) (f h : ℕ → ℕ) → total_to n f + total_to n h ≡ total_to n (λ i. f i + h i)
unfolding total_to
count_plus zero f h = refl
count_plus (suc n) f h = omega (arith, count_plus n f h)

-- a multiple of a sum
pub count_scale : (n k : ℕ) (f : ℕ → ℕ) → k * total_to n f ≡ total_to n (λ i. k * f i)
unfolding total_to
count_scale zero k f = omega arith
count_scale (suc n) k f = omega (arith, count_scale n k f)

-- a sum of sums, the other way round
pub count_swap : (n k : ℕ) (f : ℕ → ℕ → ℕ) → total_to n (λ i. total_to k (λ j. f i j)) ≡ total_to k (λ j. total_to n (λ i. f i j))
unfolding total_to
count_swap zero k f = sym (count_zero k (λ j. 0) (λ i l. refl))
count_swap (suc n) k f = ap (λ (x : ℕ). x + total_to k (λ j. f n j)) (count_swap n k f) ∙ count_plus k (λ j. total_to n (λ i. f i j)) (λ j. f n j)

-- fewer terms
pub count_less : (n k : ℕ) (f : ℕ → ℕ) → k ≤ n → total_to k f ≤ total_to n f
count_less zero k f l = let e : 0 ≡ k = omega arith in subst (λ (j : ℕ). total_to j f ≤ total_to 0 f) e (omega arith)
count_less (suc n) k f l =
    elim (ℕ_discrete k (suc n)) [
      | yes e ↦ subst (λ (j : ℕ). total_to j f ≤ total_to (suc n) f) (sym e) (omega arith)
      | no e ↦ omega (arith, count_less n k f (omega arith), count_suc n f)
    ]

-- one term, where the others are 0
pub count_one : (n : ℕ) (f : ℕ → ℕ) (k : ℕ) → k < n → ((i : ℕ) → i < n → ¬ (i ≡ k) → f i ≡ 0) → total_to n f ≡ f k
count_one zero f k l z = absurd (omega arith)
count_one (suc n) f k l z =
    count_suc n f
    ∙ elim (ℕ_discrete k n) [
      | yes e ↦ subst (λ (j : ℕ). total_to n f + f n ≡ f j) (sym e) (omega (arith, count_zero n f (λ i v. z i (omega arith) (λ x. omega arith))))
      | no e ↦ omega (arith, count_one n f k (omega arith) (λ i v. z i (omega arith)), z n (omega arith) (λ x. e (sym x)))
    ]

-- at most one term, where the others are 0
pub count_single : (n B : ℕ) (f : ℕ → ℕ) (k : ℕ) → ((i : ℕ) → i < n → ¬ (i ≡ k) → f i ≡ 0) → (k < n → f k ≤ B) → total_to n f ≤ B
count_single n B f k z b =
    elim (dec_lt k n) [
      | yes l ↦ omega (arith, count_one n f k l z, b l)
      | no l ↦ omega (arith, count_zero n f (λ i v. z i v (λ e. omega arith)))
    ]

-- each term is at most the sum
pub count_term : (n : ℕ) (f : ℕ → ℕ) (k : ℕ) → k < n → f k ≤ total_to n f
count_term zero f k l = absurd (omega arith)
count_term (suc n) f k l =
    elim (ℕ_discrete k n) [
      | yes e ↦ subst (λ (j : ℕ). f j ≤ total_to (suc n) f) (sym e) (omega (arith, count_suc n f))
      | no e ↦ omega (arith, count_suc n f, count_term n f k (omega arith))
    ]

-- terms that are at most B
pub count_bound : (n B : ℕ) (f : ℕ → ℕ) → ((i : ℕ) → i < n → f i ≤ B) → total_to n f ≤ n * B
unfolding total_to
count_bound zero B f h = omega arith
count_bound (suc n) B f h = omega (arith, count_bound n B f (λ i l. h i (omega arith)), h n (omega arith))

-- the term at one index
pub count_pick : (n a : ℕ) (f : ℕ → ℕ) → a < n → total_to n (λ i. only (eqb a i) (f i)) ≡ f a
count_pick n a f l =
    count_one n (λ i. only (eqb a i) (f i)) a l (λ i v d. cond_no (eqb a i) (f i) 0 (λ t. d (sym (eqb→eq a i t))))
    ∙ cond_yes (eqb a a) (f a) 0 (eqb_refl a)

-- a sum regrouped by a key
pub count_key : (n K : ℕ) (key : ℕ → ℕ) (f : ℕ → ℕ) → ((i : ℕ) → i < n → key i < K) → total_to n f ≡ total_to K (λ k. total_to n (λ i. only (eqb (key i) k) (f i)))
count_key n K key f h =
    count_cong n f (λ i. total_to K (λ k. only (eqb (key i) k) (f i))) (λ i l. sym (count_pick K (key i) (λ k. f i) (h i l)))
    ∙ count_swap n K (λ i k. only (eqb (key i) k) (f i))

-- the terms that pass and those that fail
pub count_split : (n : ℕ) (t : ℕ → Bool) (f : ℕ → ℕ) → total_to n (λ i. only (t i) (f i)) + total_to n (λ i. only (not (t i)) (f i)) ≡ total_to n f
count_split n t f =
    count_plus n (λ i. only (t i) (f i)) (λ i. only (not (t i)) (f i))
    ∙ count_cong n (λ i. only (t i) (f i) + only (not (t i)) (f i)) f (λ i l. only_both (t i) (f i))
