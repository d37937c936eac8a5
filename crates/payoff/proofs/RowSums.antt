-- Laws of the loop that adds up the leaves of a row.
use Prim.Native.Nat.{ℕ, suc, ◌+◌, ◌-◌, ◌≤◌}
use mathlib.Core.Path.{◌≡◌, sym, ap, ◌∙◌}
use mathlib.Core.List.{List}
use native.Mathlib.Omega.{arith}
use lib.IntN.{ℤ, pos, ◌+ℤ◌}
use Rattle.algebra.specs.Arrays.{item}
use Rattle.algebra.specs.Bounded.{sum_to}
use Rattle.algebra.proofs.Sums.{sum_suc}
use Rattle.payoff.specs.Table.{weighed_at, leaf_sum_of, sum_in}

module _ (sorted chance : List ℕ) (payoffs : List ℤ) (start : ℕ) where
  pub sum_none : pos 0 ≡ leaf_sum_of sorted chance payoffs start (start - start)
  unfolding leaf_sum_of sum_to
  sum_none = let e : start - start ≡ 0 = omega arith in rw e

  -- sorted leaf i is added
  pub sum_more : (i : ℕ) {s t : ℤ} → start ≤ i → s ≡ leaf_sum_of sorted chance payoffs start (i - start) → t ≡ weighed_at chance payoffs (item sorted i) → s +ℤ t ≡ leaf_sum_of sorted chance payoffs start (i + 1 - start)
  unfolding leaf_sum_of
  sum_more i l e f =
      let n : i + 1 - start ≡ suc (i - start) = omega arith in
      let at : start + (i - start) ≡ i = omega arith in
      rw (e, f, n) (ap (λ (k : ℕ). sum_to (i - start) (λ j. weighed_at chance payoffs (item sorted (start + j))) +ℤ weighed_at chance payoffs (item sorted k)) (sym at) ∙ sym (sum_suc (i - start) (λ j. weighed_at chance payoffs (item sorted (start + j)))))

-- the sum from where a row begins to where the next one does
pub row_sum : (sorted bounds chance : List ℕ) (payoffs : List ℤ) (k : ℕ) {start end : ℕ} → start ≡ item bounds k → end ≡ item bounds (k + 1) → {r : ℤ} → r ≡ leaf_sum_of sorted chance payoffs start (end - start) → r ≡ sum_in sorted bounds k chance payoffs
row_sum sorted bounds chance payoffs k e f h = rw (e, f) at h
