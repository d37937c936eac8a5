-- A loop that makes a test at each number below a bound, and stops where it fails.
use Prim.Native.Nat.{ℕ, ◌+◌, ◌≤◌, ◌<◌}
use mathlib.Core.Path.{◌≡◌, sym, ◌∙◌}
use mathlib.Core.Bool.{Bool, true, false}
use native.Mathlib.Omega.{arith}
use Rattle.algebra.specs.Bounded.{all_to}
use Rattle.algebra.proofs.Searches.{all_to_none, all_to_more, all_to_stop}
use Rattle.std.specs.Prelude.{Ok, Err}
use Rattle.checks.specs.declared.Refusal.{Refusal}
use Rattle.checks.specs.Answers.{checked_of}
use Rattle.checks.proofs.Chains.{is_fine, is_broken}

-- a test passes at each number below n, on the way to a bound
abbrev pub Passed : (ℕ → Bool) → (bound n : ℕ) → Type 0
Passed p bound n = (n ≤ bound) × (all_to n p ≡ true)

module _ (p : ℕ → Bool) (bound : ℕ) where
  -- where the loop begins
  pub passed_none : Passed p bound 0
  passed_none = (omega arith, all_to_none p)

  -- a turn: the test is made at n and passes
  pub passed_more : (n : ℕ) (b : Bool) → Passed p bound n → n < bound → b ≡ p n → b ≡ true → Passed p bound (n + 1)
  passed_more n b h l is t = (omega arith, all_to_more p n h.1 (sym is ∙ t))

  -- it fails
  pub passed_false : (n : ℕ) (b : Bool) → n < bound → b ≡ p n → b ≡ false → false ≡ all_to bound p
  passed_false n b l is f = sym (all_to_stop p bound n l (sym is ∙ f))

  pub passed_not : (e : Refusal) (n : ℕ) (b : Bool) → n < bound → b ≡ p n → b ≡ false → Err e ≡ checked_of e (all_to bound p)
  passed_not e n b l is f = is_broken e (sym (passed_false n b l is f))

  -- the bound is reached
  pub passed_true : (n : ℕ) → Passed p bound n → bound ≤ n → true ≡ all_to bound p
  passed_true n h l = let e : n ≡ bound = omega arith in sym (rw e at h.1)

  pub passed_all : (e : Refusal) (n : ℕ) → Passed p bound n → bound ≤ n → Ok tt ≡ checked_of e (all_to bound p)
  passed_all e n h l = is_fine e (sym (passed_true n h l))
