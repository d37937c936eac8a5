-- The first number from a place on that passes a test.
use Prim.Native.Nat.{ℕ, ◌+◌, ◌-◌, ◌≤◌, ◌<◌}
use mathlib.Core.Path.{◌≡◌, subst}
use mathlib.Core.Bool.{Bool}
use native.Mathlib.Omega.{arith}
use lib.Dec.{T}
use Rattle.algebra.specs.Bounded.{first_to}
use Rattle.algebra.proofs.Searches.{first_to_bound, first_to_before, first_to_holds}

module _ (n : ℕ) (test : ℕ → Bool) where
  -- `at` is the first number from k on and below n that passes, or n
  pub record FirstPassing (k at : ℕ) : Type 0 where
    pub low : k ≤ at
    pub high : at ≤ n
    pub passes : at < n → T (test at)
    pub before : (i : ℕ) → k ≤ i → i < at → ¬ T (test i)

  -- as a search finds it
  pub first_from_lem : (k : ℕ) → k ≤ n → FirstPassing k (k + first_to (n - k) (λ i. test (k + i)))
  first_from_lem k l = record {
    low = omega arith;
    high = omega (arith, first_to_bound (n - k) (λ i. test (k + i)));
    passes = λ b. first_to_holds (n - k) (λ i. test (k + i)) (omega arith);
    before = λ i a b t.
        let q : i ≡ k + (i - k) = omega arith in
        first_to_before (n - k) (λ i. test (k + i)) (i - k) (omega arith) (subst (λ (j : ℕ). T (test j)) q t);
  }
