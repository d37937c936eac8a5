-- Laws of the first greatest of integers, which is found from the front.
use Prim.Native.Nat.{ℕ, pred, ◌+◌, ◌<◌}
use mathlib.Core.Path.{◌≡◌, sym, subst}
use mathlib.Core.Bool.{Bool, true, false}
use native.Mathlib.Omega.{arith, by_contra}
use native.Mathlib.Decide.{ℕ_discrete}
use lib.Dec.{T}
use lib.IntN.{ℤ}
use lib.Signed.{lt_z, le_z, ◌≤ℤ◌, ◌<ℤ◌, lt_z_yes, lt_z_no, le_z_yes, ≤ℤ_refl, <ℤ-≤ℤ_trans, clash_ℤ}
use Rattle.algebra.specs.Bounded.{max_through, first_to}
use Rattle.algebra.proofs.Integers.{<ℤ→≤ℤ, to_lt, lt_to, le_to}
use Rattle.algebra.proofs.Searches.{first_to_found, first_to_least, max_through_above, max_through_met}
use Rattle.responses.specs.BestMoves.{first_greatest}

-- r is the least number below n at which f is greatest
pub record Foremost (f : ℕ → ℤ) (n r : ℕ) : Type 0 where
  pub inside : r < n
  pub greatest : (m : ℕ) → m < n → f m ≤ℤ f r
  pub least : (m : ℕ) → m < r → f m <ℤ f r

-- at most, then below
≤ℤ-<ℤ-trans : {a b c : ℤ} → a ≤ℤ b → b <ℤ c → a <ℤ c
≤ℤ-<ℤ-trans {a} {b} {c} h k = to_lt a c (omega (arith, le_to a b h, lt_to b c k))

module _ (f : ℕ → ℤ) where
  -- of one
  pub foremost_one : Foremost f 1 0
  foremost_one = record {
    inside = omega arith;
    greatest = λ m l.
        let e : m ≡ 0 = omega arith in
        rw e (≤ℤ_refl (f 0));
    least = λ m l. absurd (omega arith);
  }

  -- the next is greater
  pub foremost_new : {n r : ℕ} → Foremost f n r → lt_z (f r) (f n) ≡ true → Foremost f (n + 1) n
  foremost_new {n} {r} o t =
      let l : f r <ℤ f n = lt_z_yes (subst T (sym t) tt) in
      record {
        inside = omega arith;
        greatest = λ m b.
            elim (ℕ_discrete m n) [
              | yes e ↦ rw e (≤ℤ_refl (f n))
              | no e ↦ <ℤ→≤ℤ (≤ℤ-<ℤ-trans (o.greatest m (omega (arith, e))) l)
            ];
        least = λ m b. ≤ℤ-<ℤ-trans (o.greatest m b) l;
      }

  -- the next is not
  pub foremost_old : {n r : ℕ} → Foremost f n r → lt_z (f r) (f n) ≡ false → Foremost f (n + 1) r
  foremost_old {n} {r} o t = record {
    inside = omega (arith, o.inside);
    greatest = λ m b.
        elim (ℕ_discrete m n) [
          | yes e ↦ rw e (lt_z_no (rw t tt))
          | no e ↦ o.greatest m (omega (arith, e))
        ];
    least = o.least;
  }

  -- it is what the definition searches for
  pub foremost_is : (n r : ℕ) → Foremost f n r → r ≡ first_greatest f n
  unfolding first_greatest
  foremost_is n r o =
      let test : ℕ → Bool = λ m. le_z (max_through (pred n) f) (f m) in
      let top = max_through_met (pred n) f in
      let passes : T (test r) = subst (λ (z : ℤ). T (le_z z (f r))) (sym top.2) (o.greatest top.0 (omega (arith, top.1, o.inside))).le in
      let found = first_to_found n test r o.inside passes in
      let below = by_contra r (first_to n test) (λ l. clash_ℤ (<ℤ-≤ℤ_trans (o.least (first_to n test) l) (max_through_above (pred n) f r (omega (arith, o.inside)))) (le_z_yes found.0)) in
      omega (arith, first_to_least n test r o.inside passes)
