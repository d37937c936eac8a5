-- Laws of greatest common divisors and least common multiples.
use Prim.Native.Nat.{ℕ, zero, suc, ◌*◌, ◌/◌, ◌%◌, ◌≤◌, ◌<◌, ◌∣◌}
use mathlib.Core.Path.{◌≡◌, refl, sym, ap, ◌∙◌, subst}
use mathlib.Core.Logic.{◌↔◌}
use native.Mathlib.Omega.{arith}
use native.Mathlib.Nat as NatL
use native.Mathlib.Decide.{ℕ_discrete}
use lib.Dec.{eqb, eqb→eq}
use Rattle.algebra.specs.Bounded.{total_to}
use Rattle.algebra.proofs.Totals.{count_cong, count_scale}
use Rattle.algebra.proofs.Tests.{dec, cond_yes, cond_no, eqb_make}
use Rattle.algebra.specs.Divisors.{gcd_in, gcd, gcd_to, lcm, lcm_to}

-- the factors of a product above 0
pub factors_positive : (x y : ℕ) → 0 < x * y → (0 < x) × (0 < y)
factors_positive x y l = (NatL.pos_of_ne-zero (λ z. omega (arith, ap (λ (k : ℕ). k * y) z, NatL.zero-mul y)), NatL.pos_of_ne-zero (λ z. omega (arith, ap (λ (k : ℕ). x * k) z, NatL.mul-zero x)))

-- What makes a number the greatest common divisor of two: the numbers that divide it are those that divide both.
pub record IsGcd (a b g : ℕ) : Type 0 where
  pub left : g ∣ a
  pub right : g ∣ b
  pub greatest : (d : ℕ) → d ∣ a → d ∣ b → d ∣ g

-- a division keeps the common divisors
step : (a b g : ℕ) → IsGcd b (a % b) g → IsGcd a b g
step a b g h = record {
  left = (NatL.dvd-mod_iff g {m = a} {n = b} h.left).0 h.right;
  right = h.left;
  greatest = λ d u v. h.greatest d v ((NatL.dvd-mod_iff d {m = a} {n = b} v).1 u);
}

-- Euclid's way, where the steps are enough
gcd_in_is : (steps a b : ℕ) → b ≤ steps → IsGcd a b (gcd_in steps a b)
unfolding gcd_in
gcd_in_is zero a b l = let e : b ≡ 0 = omega arith in record { left = NatL.dvd_refl a; right = rw e (NatL.dvd-zero a); greatest = λ d u v. u }
gcd_in_is (suc steps) a b l =
    elim (dec (eqb b 0)) [
      | yes t ↦ let e = eqb→eq b 0 t in rw (cond_yes (eqb b 0) a (gcd_in steps b (a % b)) t) (record { left = NatL.dvd_refl a; right = rw e (NatL.dvd-zero a); greatest = λ d u v. u })
      | no n ↦
          let some : 0 < b = NatL.pos_of_ne-zero (λ e. n (eqb_make b 0 e)) in
          rw (cond_no (eqb b 0) a (gcd_in steps b (a % b)) n) (step a b _ (gcd_in_is steps b (a % b) (omega (arith, NatL.mod-lt a {m = b} some))))
    ]

pub gcd_is : (a b : ℕ) → IsGcd a b (gcd a b)
unfolding gcd
gcd_is a b = gcd_in_is b a b (omega arith)

-- two such numbers are equal
pub gcd_unique : {a b : ℕ} (g k : ℕ) → IsGcd a b g → IsGcd a b k → g ≡ k
gcd_unique g k u v = NatL.dvd_antisymm (v.greatest g u.left u.right) (u.greatest k v.left v.right)

-- one division of Euclid's way keeps the divisor; beside 0 it is the first number
pub gcd_step : (a b : ℕ) → gcd a b ≡ gcd b (a % b)
gcd_step a b = gcd_unique (gcd a b) (gcd b (a % b)) (gcd_is a b) (step a b (gcd b (a % b)) (gcd_is b (a % b)))

pub gcd_none : (a : ℕ) → gcd a 0 ≡ a
gcd_none a = gcd_unique (gcd a 0) a (gcd_is a 0) (record { left = NatL.dvd_refl a; right = NatL.dvd-zero a; greatest = λ d u v. u })

-- above 0 where one of the numbers is
pub gcd_positive_left : (a b : ℕ) → 0 < a → 0 < gcd a b
gcd_positive_left a b l = NatL.pos_of_dvd_of_pos (gcd_is a b).left l

pub gcd_positive_right : (a b : ℕ) → 0 < b → 0 < gcd a b
gcd_positive_right a b l = NatL.pos_of_dvd_of_pos (gcd_is a b).right l

-- of 0 and 0
pub gcd_zeros : gcd 0 0 ≡ 0
unfolding gcd gcd_in
gcd_zeros = refl

-- a common factor
pub gcd_scale : (k a b : ℕ) → gcd (k * a) (k * b) ≡ k * gcd a b
gcd_scale k a b =
    elim (ℕ_discrete k 0) [
      | yes e ↦ rw (e, NatL.zero-mul a, NatL.zero-mul b, NatL.zero-mul (gcd a b)) gcd_zeros
      | no n ↦
          let some : 0 < k = NatL.pos_of_ne-zero n in
          let g = gcd (k * a) (k * b) in
          let G = gcd_is (k * a) (k * b) in
          let H = gcd_is a b in
          let whole : k * (g / k) ≡ g = NatL.mul-div_cancel' k (G.greatest k (NatL.dvd-mul_right k a) (NatL.dvd-mul_right k b)) in
          let u : g / k ∣ a = NatL.dvd_of_mul-dvd-mul_left (g / k) some (rw whole G.left) in
          let v : g / k ∣ b = NatL.dvd_of_mul-dvd-mul_left (g / k) some (rw whole G.right) in
          NatL.dvd_antisymm
          (rw whole at (NatL.mul-dvd-mul_left (g / k) k (H.greatest (g / k) u v)))
          (G.greatest (k * gcd a b) (NatL.mul-dvd-mul_left (gcd a b) k H.left) (NatL.mul-dvd-mul_left (gcd a b) k H.right))
    ]

-- each of two numbers is so many times their divisor
pub left_part : (a b : ℕ) → gcd a b * (a / gcd a b) ≡ a
left_part a b = NatL.mul-div_cancel' (gcd a b) (gcd_is a b).left

pub right_part : (a b : ℕ) → gcd a b * (b / gcd a b) ≡ b
right_part a b = NatL.mul-div_cancel' (gcd a b) (gcd_is a b).right

-- what is left of two numbers has no common divisor but 1
pub gcd_reduced : (a b : ℕ) → 0 < gcd a b → gcd (a / gcd a b) (b / gcd a b) ≡ 1
gcd_reduced a b some =
    let g = gcd a b in
    NatL.eq_of_mul-eq-mul_left g some (gcd (a / g) (b / g)) 1
    (sym (gcd_scale g (a / g) (b / g)) ∙ (λ i. gcd (left_part a b i) (right_part a b i)) ∙ sym (NatL.mul-one g))

-- a number that divides a product and has no common divisor with one factor divides the other
pub gauss : (a b k : ℕ) → gcd a b ≡ 1 → b ∣ a * k → b ∣ k
gauss a b k e d =
    let s : gcd (k * a) (k * b) ≡ k = gcd_scale k a b ∙ ap (λ (x : ℕ). k * x) e ∙ NatL.mul-one k in
    subst (λ (x : ℕ). b ∣ x) s ((gcd_is (k * a) (k * b)).greatest b (subst (λ (x : ℕ). b ∣ x) (NatL.mul_comm a k) d) (NatL.dvd-mul_left b k))

-- a / b times d is whole exactly where the denominator of a / b in lowest terms divides d
pub whole_iff : (a b d : ℕ) → 0 < b → (b ∣ d * a) ↔ (b / gcd a b ∣ d)
whole_iff a b d some =
    let g = gcd a b in
    let c = a / g in
    let e = b / g in
    let positive = gcd_positive_right a b some in
    let u : g * c ≡ a = left_part a b in
    let v : g * e ≡ b = right_part a b in
    let product : g * (c * d) ≡ d * a = sym (NatL.mul_assoc g c d) ∙ NatL.mul_comm (g * c) d ∙ ap (λ (x : ℕ). d * x) u in (
      λ h. gauss c e d (gcd_reduced a b positive) (NatL.dvd_of_mul-dvd-mul_left e positive (rw (v, product) h)),
      λ h. rw (← product) (subst (λ (x : ℕ). x ∣ g * (c * d)) v (NatL.mul-dvd-mul_left e g (NatL.dvd-mul_left_of_dvd e h c))),
    )

-- the denominator in lowest terms is above 0
pub divided_positive : (a b : ℕ) → 0 < b → 0 < b / gcd a b
divided_positive a b some = NatL.pos_of_ne-zero (λ z. omega (arith, right_part a b, ap (λ (x : ℕ). gcd a b * x) z, NatL.mul-zero (gcd a b)))

-- What makes a number the least common multiple of two: it divides what both divide.
pub lcm_iff : (a b d : ℕ) → 0 < a → 0 < b → (lcm a b ∣ d) ↔ ((a ∣ d) × (b ∣ d))
unfolding lcm
lcm_iff a b d pa pb =
    let g = gcd a b in
    let e = b / g in
    let second : b ∣ a * e = subst (λ (x : ℕ). b ∣ x) (NatL.mul_comm e a) ((whole_iff a b e pb).1 (NatL.dvd_refl e)) in (
      λ h. (NatL.dvd_trans a (NatL.dvd-mul_right a e) h, NatL.dvd_trans b second h),
      λ h.
          let k = d / a in
          let q : a * k ≡ d = NatL.mul-div_cancel' a h.0 in
          let r : b ∣ k * a = subst (λ (x : ℕ). b ∣ x) (sym q ∙ NatL.mul_comm a k) h.1 in
          rw q at (NatL.mul-dvd-mul_left e a ((whole_iff a b k pb).0 r)),
    )

pub lcm_positive : (a b : ℕ) → 0 < a → 0 < b → 0 < lcm a b
unfolding lcm
lcm_positive a b pa pb = NatL.mul-pos pa (divided_positive a b pb)

-- Of the numbers below a bound.
module _ (f : ℕ → ℕ) where
  pub lcm_to_positive : (n : ℕ) → ((i : ℕ) → i < n → 0 < f i) → 0 < lcm_to n f
  unfolding lcm_to
  lcm_to_positive zero p = omega arith
  lcm_to_positive (suc n) p = lcm_positive (lcm_to n f) (f n) (lcm_to_positive n (λ i l. p i (omega arith))) (p n (omega arith))

  -- it divides what all of them divide
  pub lcm_to_iff : (n d : ℕ) → ((i : ℕ) → i < n → 0 < f i) → (lcm_to n f ∣ d) ↔ ((i : ℕ) → i < n → f i ∣ d)
  unfolding lcm_to
  lcm_to_iff zero d p = (λ h i l. absurd (omega arith), λ h. NatL.one-dvd d)
  lcm_to_iff (suc n) d p =
      let before = lcm_to_iff n d (λ i l. p i (omega arith)) in
      let both = lcm_iff (lcm_to n f) (f n) d (lcm_to_positive n (λ i l. p i (omega arith))) (p n (omega arith)) in (
        λ h i l. elim (ℕ_discrete i n) [
          | yes e ↦ subst (λ (k : ℕ). f k ∣ d) (sym e) (both.0 h).1
          | no e ↦ before.0 (both.0 h).0 i (omega arith)
        ],
        λ h. both.1 (before.1 (λ i l. h i (omega arith)), h n (omega arith)),
      )

  -- each divides it
  pub lcm_to_at : (n i : ℕ) → ((i : ℕ) → i < n → 0 < f i) → i < n → f i ∣ lcm_to n f
  lcm_to_at n i p l = (lcm_to_iff n (lcm_to n f) p).0 (NatL.dvd_refl (lcm_to n f)) i l

  -- fewer numbers
  pub lcm_to_fewer : (n k : ℕ) → ((i : ℕ) → i < n → 0 < f i) → k ≤ n → lcm_to k f ∣ lcm_to n f
  lcm_to_fewer n k p l = (lcm_to_iff k (lcm_to n f) (λ i u. p i (omega arith))).1 (λ i u. lcm_to_at n i p (omega arith))

  -- the greatest common divisor divides each
  pub gcd_to_at : (n i : ℕ) → i < n → gcd_to n f ∣ f i
  unfolding gcd_to
  gcd_to_at zero i l = absurd (omega arith)
  gcd_to_at (suc n) i l =
      elim (ℕ_discrete i n) [
        | yes e ↦ subst (λ (k : ℕ). gcd (gcd_to n f) (f n) ∣ f k) (sym e) (gcd_is (gcd_to n f) (f n)).right
        | no e ↦ NatL.dvd_trans (gcd (gcd_to n f) (f n)) (gcd_is (gcd_to n f) (f n)).left (gcd_to_at n i (omega arith))
      ]

  -- and what divides each divides it
  pub gcd_to_greatest : (n d : ℕ) → ((i : ℕ) → i < n → d ∣ f i) → d ∣ gcd_to n f
  unfolding gcd_to
  gcd_to_greatest zero d h = NatL.dvd-zero d
  gcd_to_greatest (suc n) d h = (gcd_is (gcd_to n f) (f n)).greatest d (gcd_to_greatest n d (λ i l. h i (omega arith))) (h n (omega arith))

  -- each is so many times it
  pub gcd_to_part : (n i : ℕ) → i < n → gcd_to n f * (f i / gcd_to n f) ≡ f i
  gcd_to_part n i l = NatL.mul-div_cancel' (gcd_to n f) (gcd_to_at n i l)

  -- and so is their sum
  pub gcd_to_sum : (n : ℕ) → gcd_to n f * total_to n (λ i. f i / gcd_to n f) ≡ total_to n f
  gcd_to_sum n = count_scale n (gcd_to n f) (λ i. f i / gcd_to n f) ∙ count_cong n _ f (λ i l. gcd_to_part n i l)

-- equal numbers have equal divisors
pub gcd_to_cong : (n : ℕ) (f h : ℕ → ℕ) → ((i : ℕ) → i < n → f i ≡ h i) → gcd_to n f ≡ gcd_to n h
unfolding gcd_to
gcd_to_cong zero f h e = refl
gcd_to_cong (suc n) f h e = rw (gcd_to_cong n f h (λ i l. e i (omega arith)), e n (omega arith))

-- each of two numbers divides their least common multiple
pub lcm_left : (a b : ℕ) → 0 < a → 0 < b → a ∣ lcm a b
lcm_left a b pa pb = ((lcm_iff a b (lcm a b) pa pb).0 (NatL.dvd_refl (lcm a b))).0

pub lcm_right : (a b : ℕ) → 0 < a → 0 < b → b ∣ lcm a b
lcm_right a b pa pb = ((lcm_iff a b (lcm a b) pa pb).0 (NatL.dvd_refl (lcm a b))).1

-- the multiple of a number and 1
pub lcm_one : (a : ℕ) → 0 < a → lcm a 1 ≡ a
lcm_one a pa = NatL.dvd_antisymm ((lcm_iff a 1 a pa (omega arith)).1 (NatL.dvd_refl a, NatL.one-dvd a)) (lcm_left a 1 pa (omega arith))

-- three numbers, regrouped
pub lcm_assoc : (a b c : ℕ) → 0 < a → 0 < b → 0 < c → lcm (lcm a b) c ≡ lcm a (lcm b c)
lcm_assoc a b c pa pb pc =
    let pab = lcm_positive a b pa pb in
    let pbc = lcm_positive b c pb pc in
    let there = lcm_iff (lcm a b) c (lcm a (lcm b c)) pab pc in
    let back = lcm_iff a (lcm b c) (lcm (lcm a b) c) pa pbc in
    let first = lcm_left a (lcm b c) pa pbc in
    let rest = (lcm_iff b c (lcm a (lcm b c)) pb pc).0 (lcm_right a (lcm b c) pa pbc) in
    let front = (lcm_iff a b (lcm (lcm a b) c) pa pb).0 (lcm_left (lcm a b) c pab pc) in
    let last = lcm_right (lcm a b) c pab pc in
    NatL.dvd_antisymm
    (there.1 ((lcm_iff a b (lcm a (lcm b c)) pa pb).1 (first, rest.0), rest.1))
    (back.1 (front.0, (lcm_iff b c (lcm (lcm a b) c) pb pc).1 (front.1, last)))

-- of 0
pub lcm_zero : (b : ℕ) → lcm 0 b ≡ 0
unfolding lcm
lcm_zero b = NatL.zero-mul (b / gcd 0 b)

-- a fraction whose parts have a common factor, in lowest terms
pub reduced_scale : (k a b : ℕ) → 0 < k → (k * a / gcd (k * a) (k * b) ≡ a / gcd a b) × (k * b / gcd (k * a) (k * b) ≡ b / gcd a b)
reduced_scale k a b some = rw (gcd_scale k a b) (NatL.mul-div-mul_left a (gcd a b) some, NatL.mul-div-mul_left b (gcd a b) some)

-- a common factor of all numbers
pub gcd_to_scale : (k n : ℕ) (f : ℕ → ℕ) → gcd_to n (λ i. k * f i) ≡ k * gcd_to n f
unfolding gcd_to
gcd_to_scale k zero f = sym (NatL.mul-zero k)
gcd_to_scale k (suc n) f = ap (λ (x : ℕ). gcd x (k * f n)) (gcd_to_scale k n f) ∙ gcd_scale k (gcd_to n f) (f n)

-- numbers in one proportion are the same once divided by their greatest common divisors
pub proportion : (k l n : ℕ) (f h : ℕ → ℕ) → 0 < k → 0 < l → ((i : ℕ) → i < n → k * f i ≡ l * h i) → (i : ℕ) → i < n → f i / gcd_to n f ≡ h i / gcd_to n h
proportion k l n f h pk pl e i v =
    let divisors : k * gcd_to n f ≡ l * gcd_to n h = sym (gcd_to_scale k n f) ∙ gcd_to_cong n (λ i. k * f i) (λ i. l * h i) e ∙ gcd_to_scale l n h in
    sym (NatL.mul-div-mul_left (f i) (gcd_to n f) pk) ∙ (λ j. e i v j / divisors j) ∙ NatL.mul-div-mul_left (h i) (gcd_to n h) pl
