-- The greatest common divisor of a set's weights, found one weight after the other, and the weights divided.
use Prim.Native.Nat.{ℕ, ◌+◌, ◌/◌, ◌≤◌, ◌<◌}
use mathlib.Core.Path.{◌≡◌, refl, sym, ap, ◌∙◌}
use native.Mathlib.Omega.{arith}
use native.Mathlib.Nat as NatL
use native.Mathlib.Numerals.{add-one}
use Rattle.std.specs.Prelude.{Option, Some, None, SomeIff}
use Rattle.std.specs.Option.{unwrap_or}
use Rattle.algebra.specs.Divisors.{gcd, gcd_to}

-- A loop has found the divisor of the first n of so many numbers.
abbrev pub Dividing : (ℕ → ℕ) → (bound n divisor : ℕ) → Type 0
Dividing f bound n divisor = (n ≤ bound) × (divisor ≡ gcd_to n f)

module _ (f : ℕ → ℕ) (bound : ℕ) where
  -- where the loop begins
  pub dividing_none : Dividing f bound 0 0
  unfolding gcd_to
  dividing_none = (omega arith, refl)

  -- a turn: one number more
  pub dividing_more : (n divisor : ℕ) {x next : ℕ} → Dividing f bound n divisor → n < bound → x ≡ f n → next ≡ gcd divisor x → Dividing f bound (n + 1) next
  unfolding gcd_to
  dividing_more n divisor h l is e = (omega arith, rw (add-one) (e ∙ rw (h.1, is)))

  -- the bound is reached
  pub dividing_all : (n divisor : ℕ) → Dividing f bound n divisor → bound ≤ n → divisor ≡ gcd_to bound f
  dividing_all n divisor h l = let e : n ≡ bound = omega arith in rw e at h.1

-- a weight as it was read, divided
pub weight_part : (divisor : ℕ) {weight read part : ℕ} → read ≡ weight → part ≡ read / divisor → part ≡ weight / divisor
weight_part divisor e f = f ∙ ap (λ (k : ℕ). k / divisor) e

-- a quotient that is only where the divisor is above 0, with 0 for it elsewhere, is the quotient
pub or_none : (weight divisor : ℕ) (r : Option ℕ) → SomeIff r (0 < divisor) (weight / divisor) → unwrap_or r 0 ≡ weight / divisor
or_none weight divisor None s = let e : divisor ≡ 0 = omega arith in rw e (sym (NatL.div-zero weight))
or_none weight divisor (Some x) s = s.1
