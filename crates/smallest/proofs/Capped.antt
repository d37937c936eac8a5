-- Common multiples within a limit.
use Prim.Native.Nat.{ℕ, zero, suc, ◌+◌, ◌*◌, ◌/◌, ◌^◌, ◌≤◌, ◌<◌}
use mathlib.Core.Path.{◌≡◌, refl, sym, ◌∙◌}
use native.Mathlib.Omega.{arith}
use native.Mathlib.Nat as NatL
use native.Mathlib.Decide.{dec_le}
use lib.Dec.{leb, leb→le, le→leb}
use Rattle.std.specs.Prelude.{Option, Some, None}
use Rattle.algebra.specs.Divisors.{gcd, lcm, lcm_to}
use Rattle.algebra.proofs.Divisors.{lcm_iff, lcm_positive, lcm_one, lcm_assoc, lcm_left, lcm_right, lcm_to_positive, lcm_to_fewer}
use Rattle.algebra.proofs.Tests.{cond_yes, cond_no}
use Rattle.model.specs.Limits.{weight_limit}
use Rattle.smallest.specs.Fractions.{capped}

-- within the limit, and above it
pub capped_in : (limit n : ℕ) → n ≤ limit → capped limit n ≡ Some n
unfolding capped
capped_in limit n l = cond_yes (leb n limit) (Some n) None (le→leb n limit l)

pub capped_above : (limit n : ℕ) → limit < n → capped limit n ≡ None
unfolding capped
capped_above limit n l = cond_no (leb n limit) (Some n) None (λ t. omega (arith, leb→le n limit t))

-- what is left is the number itself
pub capped_some : (limit n : ℕ) {r : Option ℕ} {x : ℕ} → r ≡ capped limit n → r ≡ Some x → (x ≡ n) × (n ≤ limit)
capped_some limit n {r} {x} is e =
    elim (dec_le n limit) [
      | yes l ↦ let same : Some x ≡ Some n = sym e ∙ is ∙ capped_in limit n l in (cc, l)
      | no l ↦ let same : Some x ≡ None = sym e ∙ is ∙ capped_above limit n (omega arith) in absurd cc
    ]

-- nothing is left of one above the limit only
pub capped_none : (limit n : ℕ) {r : Option ℕ} → r ≡ capped limit n → r ≡ None → limit < n
capped_none limit n {r} is e =
    elim (dec_le n limit) [
      | yes l ↦ let same : None ≡ Some n = sym e ∙ is ∙ capped_in limit n l in absurd cc
      | no l ↦ omega arith
    ]

-- the product on the way to a multiple fits
pub multiple_small : (a b d : ℕ) → a ≤ weight_limit → b ≤ weight_limit * (64 * weight_limit) → a * (b / d) < 2 ^ 64
multiple_small a b d l m = omega (arith, NatL.mul-le-mul l (NatL.le_trans (NatL.div-le_self b d) m))

-- the multiple is within the limit, or is not
pub multiple_in : (limit a b : ℕ) {d : ℕ} → d ≡ gcd a b → a * (b / d) ≤ limit → Some (a * (b / d)) ≡ capped limit (lcm a b)
unfolding lcm
multiple_in limit a b e l = rw e (sym (capped_in limit (a * (b / gcd a b)) (rw e at l)))

pub multiple_above : (limit a b : ℕ) {d : ℕ} → d ≡ gcd a b → limit < a * (b / d) → None ≡ capped limit (lcm a b)
unfolding lcm
multiple_above limit a b e l = sym (capped_above limit (a * (b / gcd a b)) (rw e at l))

-- where the multiple is within the limit, so is the second number
pub multiple_most : (limit a b : ℕ) {r : Option ℕ} {x : ℕ} → 0 < a → 0 < b → r ≡ capped limit (lcm a b) → r ≡ Some x → (b ≤ limit) × (0 < x) × (x ≤ limit)
multiple_most limit a b pa pb is e =
    let c = capped_some limit (lcm a b) is e in
    let some = lcm_positive a b pa pb in
    (NatL.le_trans (NatL.le_of_dvd some (lcm_right a b pa pb)) c.1, omega (arith, c.0), omega (arith, c.0, c.1))

-- The multiple of a number and of f 0 .. f (n - 1), all above 0.
module _ (a : ℕ) (f : ℕ → ℕ) (pa : 0 < a) where
  -- of none
  pub with_none : a ≡ lcm a (lcm_to 0 f)
  unfolding lcm_to
  with_none = sym (lcm_one a pa)

  -- of one more
  pub with_more : (n : ℕ) → ((i : ℕ) → i < n + 1 → 0 < f i) → lcm (lcm a (lcm_to n f)) (f n) ≡ lcm a (lcm_to (n + 1) f)
  unfolding lcm_to
  with_more n p =
      let s : n + 1 ≡ suc n = omega arith in
      rw s (lcm_assoc a (lcm_to n f) (f n) pa (lcm_to_positive f n (λ i l. p i (omega arith))) (p n (omega arith)))

  -- it grows
  pub with_fewer : (n k : ℕ) → ((i : ℕ) → i < n → 0 < f i) → k ≤ n → lcm a (lcm_to k f) ≤ lcm a (lcm_to n f)
  with_fewer n k p l =
      let pn = lcm_to_positive f n p in
      let pk = lcm_to_positive f k (λ i v. p i (omega arith)) in
      let part = lcm_left a (lcm_to n f) pa pn in
      let rest = NatL.dvd_trans (lcm_to k f) (lcm_to_fewer f n k p l) (lcm_right a (lcm_to n f) pa pn) in
      NatL.le_of_dvd (lcm_positive a (lcm_to n f) pa pn) ((lcm_iff a (lcm_to k f) (lcm a (lcm_to n f)) pa pk).1 (part, rest))

-- equal numbers have equal multiples
pub lcm_to_cong : (n : ℕ) (f h : ℕ → ℕ) → ((i : ℕ) → i < n → f i ≡ h i) → lcm_to n f ≡ lcm_to n h
unfolding lcm_to
lcm_to_cong zero f h e = refl
lcm_to_cong (suc n) f h e = rw (lcm_to_cong n f h (λ i l. e i (omega arith)), e n (omega arith))
