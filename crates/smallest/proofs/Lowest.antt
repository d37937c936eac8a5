-- Probabilities in lowest terms: what one more move makes of one, and how large its parts are.
use Prim.Native.Nat.{ℕ, ◌+◌, ◌*◌, ◌/◌, ◌≤◌, ◌<◌}
use mathlib.Core.Path.{◌≡◌, sym}
use mathlib.Core.List.{List}
use native.Mathlib.Omega.{arith}
use native.Mathlib.Nat as NatL
use lib.Dec.{ltb, ltb→lt, lt→ltb}
use Rattle.algebra.specs.Arrays.{item}
use Rattle.algebra.specs.Bounded.{total_to}
use Rattle.algebra.specs.Divisors.{gcd}
use Rattle.algebra.proofs.Divisors.{gcd_positive_left, left_part, right_part, divided_positive}
use Rattle.algebra.proofs.Tests.{dec, cond_yes, cond_no}
use Rattle.algebra.proofs.Totals.{count_bound}
use Rattle.model.specs.Limits.{weight_limit}
use Rattle.smallest.specs.declared.Probability.{Probability}
use Rattle.smallest.specs.Fractions.{probability, reduced, times_odds, ProperTo, Proper}

-- the numbers on the way
pub numerator_small : {r : Probability} → Proper r → {odds : ℕ} → odds ≤ weight_limit → r.numerator * odds ≤ weight_limit * weight_limit
numerator_small {r} P {odds} l = NatL.mul-le-mul (NatL.le_trans P.most P.small) l

pub denominator_small : {r : Probability} → Proper r → {total : ℕ} → total ≤ 64 * weight_limit → r.denominator * total ≤ weight_limit * (64 * weight_limit)
denominator_small P l = NatL.mul-le-mul P.small l

-- a move that is never made
pub times_none : (r : Probability) (odds total : ℕ) {n : ℕ} → n ≡ r.numerator * odds → n ≡ 0 → probability 0 1 ≡ times_odds r odds total
unfolding times_odds
times_none r odds total e z = sym (cond_no (ltb 0 (r.numerator * odds)) (reduced (r.numerator * odds) (r.denominator * total)) (probability 0 1) (λ t. omega (arith, e, z, ltb→lt 0 (r.numerator * odds) t)))

-- one that is made
pub times_some : (r : Probability) (odds total : ℕ) {d : ℕ} → ¬ (r.numerator * odds ≡ 0) → d ≡ gcd (r.numerator * odds) (r.denominator * total) → probability (r.numerator * odds / d) (r.denominator * total / d) ≡ times_odds r odds total
unfolding times_odds reduced
times_some r odds total n e = rw e (sym (cond_yes (ltb 0 (r.numerator * odds)) (probability (r.numerator * odds / gcd (r.numerator * odds) (r.denominator * total)) (r.denominator * total / gcd (r.numerator * odds) (r.denominator * total))) (probability 0 1) (lt→ltb 0 (r.numerator * odds) (NatL.pos_of_ne-zero n))))

-- with one more move it is one too
pub times_proper : {r : Probability} → Proper r → {odds total : ℕ} → odds ≤ total → total ≤ 64 * weight_limit → ProperTo (weight_limit * (64 * weight_limit)) (times_odds r odds total)
unfolding times_odds reduced
times_proper {r} P {odds} {total} l b =
    let a = r.numerator * odds in
    let c = r.denominator * total in
    let g = gcd a c in
    let made = probability (a / g) (c / g) in
    elim (dec (ltb 0 a)) [
      | yes t ↦
          let pa : 0 < a = ltb→lt 0 a t in
          let less : a ≤ c = NatL.mul-le-mul P.most l in
          let pg : 0 < g = gcd_positive_left a c pa in
          rw (cond_yes (ltb 0 a) made (probability 0 1) t) (record {
            some = divided_positive a c (omega arith);
            most = NatL.le_of_mul-le-mul_left {k = g} (omega (arith, left_part a c, right_part a c)) pg;
            small = omega (arith, NatL.div-le_self c g, denominator_small P b);
          })
      | no n ↦ rw (cond_no (ltb 0 a) made (probability 0 1) n) (record { some = omega arith; most = omega arith; small = omega arith })
    ]

-- the total of at most 64 odds of 16 bits
pub total_small : (x : List ℕ) (start moves : ℕ) {total : ℕ} → moves ≤ 64 → ((k : ℕ) → item x k ≤ weight_limit) → total ≡ total_to moves (λ m. item x (start + m)) → total ≤ 64 * weight_limit
total_small x start moves few small e =
    NatL.le_trans (rw e (count_bound moves weight_limit (λ m. item x (start + m)) (λ m v. small (start + m)))) (NatL.mul-le-mul few (NatL.le_refl weight_limit))

-- a probability times d is not above d
pub share_most : (d a b : ℕ) → a ≤ b → d / b * a ≤ d
share_most d a b l = NatL.le_trans (NatL.mul-le-mul (NatL.le_refl (d / b)) l) (NatL.div-mul-le_self d b)
