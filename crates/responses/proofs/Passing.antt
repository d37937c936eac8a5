-- Sums over the numbers that pass a test.
use Prim.Native.Nat.{ℕ, zero, suc, ◌+◌, ◌-◌, ◌≤◌, ◌<◌}
use mathlib.Core.Path.{◌≡◌, ap, ◌∙◌}
use mathlib.Core.Bool.{Bool}
use native.Mathlib.Omega.{arith}
use native.Mathlib.Nat.{add-zero, add-suc}
use native.Mathlib.Numerals.{add-one}
use lib.Dec.{T}
use lib.IntN.{ℤ, pos, ◌+ℤ◌, +ℤ_idr}
use Rattle.algebra.specs.Bounded.{sum_to, sum_where}
use Rattle.algebra.proofs.Tests.{cond_yes, cond_no}

module _ (test : ℕ → Bool) (f : ℕ → ℤ) where
  -- a number that passes is added
  pub where_more : (k : ℕ) → T (test k) → sum_where (k + 1) test f ≡ sum_where k test f +ℤ f k
  unfolding sum_where sum_to
  where_more k t = rw (add-one k) (ap (λ (z : ℤ). sum_where k test f +ℤ z) (cond_yes (test k) (f k) (pos 0) t))

  -- one that fails is not
  where_less : (k : ℕ) → ¬ T (test k) → sum_where (suc k) test f ≡ sum_where k test f
  unfolding sum_where sum_to
  where_less k t = ap (λ (z : ℤ). sum_where k test f +ℤ z) (cond_no (test k) (f k) (pos 0) t) ∙ +ℤ_idr (sum_where k test f)

  -- nor are any that fail
  where_past : (a d : ℕ) → ((i : ℕ) → a ≤ i → i < a + d → ¬ T (test i)) → sum_where (a + d) test f ≡ sum_where a test f
  where_past a zero none = rw add-zero
  where_past a (suc d) none = rw add-suc (where_less (a + d) (none (a + d) (omega arith) (omega arith)) ∙ where_past a d (λ i l b. none i l (omega arith)))

  pub where_skip : (a b : ℕ) → a ≤ b → ((i : ℕ) → a ≤ i → i < b → ¬ T (test i)) → sum_where b test f ≡ sum_where a test f
  where_skip a b l none =
      let e : b ≡ a + (b - a) = omega arith in
      ap (λ (k : ℕ). sum_where k test f) e ∙ where_past a (b - a) (λ i u v. none i u (omega arith))
