-- Fractions as they are compared: their order, and differences.
use Prim.Native.Nat.{ℕ, ◌*◌, ◌<◌}
use mathlib.Core.Path.{◌≡◌, sym, ap, ◌∙◌, subst}
use native.Mathlib.Omega.{arith}
use native.Mathlib.Nat as NatL
use lib.IntN.{ℤ, pos, ◌-ℤ◌, ◌*ℤ◌}
use lib.Signed.{◌≤ℤ◌, ≤ℤ_refl}
use Rattle.algebra.proofs.Integers.{le_to, to_le, sub_is, ≤ℤ-trans, scale_mono, scale_scale, scale_sub, scale_cancel}
use Rattle.model.specs.Earnings.{Fraction, ◌over◌, AtMost, Equal, minus}

-- two factors in either order
scale_swap : (v w : ℕ) (x : ℤ) → pos v *ℤ (pos w *ℤ x) ≡ pos w *ℤ (pos v *ℤ x)
scale_swap v w x = scale_scale v w x ∙ ap (λ (k : ℕ). pos k *ℤ x) (NatL.mul_comm v w) ∙ sym (scale_scale w v x)

-- equal fractions are at most one another
pub equal_at_most : (a b : Fraction) → Equal a b → AtMost a b
equal_at_most a b e = subst (λ (z : ℤ). (pos b.denominator *ℤ a.numerator) ≤ℤ z) e (≤ℤ_refl (pos b.denominator *ℤ a.numerator))

pub equal_at_least : (a b : Fraction) → Equal a b → AtMost b a
equal_at_least a b e = subst (λ (z : ℤ). z ≤ℤ (pos b.denominator *ℤ a.numerator)) e (≤ℤ_refl (pos b.denominator *ℤ a.numerator))

-- The order is transitive where the fraction between has no base 0.
pub at_most_trans : (a b c : Fraction) → 0 < b.denominator → AtMost a b → AtMost b c → AtMost a c
at_most_trans a b c s h k =
    let A = a.denominator in
    let B = b.denominator in
    let C = c.denominator in
    let x = a.numerator in
    let y = b.numerator in
    let z = c.numerator in
    let first : (pos B *ℤ (pos C *ℤ x)) ≤ℤ (pos C *ℤ (pos A *ℤ y)) = subst (λ (u : ℤ). u ≤ℤ (pos C *ℤ (pos A *ℤ y))) (scale_swap C B x) (scale_mono C h) in
    let second : (pos C *ℤ (pos A *ℤ y)) ≤ℤ (pos B *ℤ (pos A *ℤ z)) =
    subst (λ (u : ℤ). (pos C *ℤ (pos A *ℤ y)) ≤ℤ u) (scale_swap A B z) (subst (λ (u : ℤ). u ≤ℤ (pos A *ℤ (pos B *ℤ z))) (scale_swap A C y) (scale_mono A k)) in
    scale_cancel B (pos C *ℤ x) (pos A *ℤ z) s (≤ℤ-trans first second)

-- both less the same
less_same : {x y : ℤ} (z : ℤ) → x ≤ℤ y → (x -ℤ z) ≤ℤ (y -ℤ z)
less_same {x} {y} z l = to_le (x -ℤ z) (y -ℤ z) (omega (arith, sub_is x z, sub_is y z, le_to x y l))

pub minus_mono : (a b c : Fraction) → AtMost a b → AtMost (minus a c) (minus b c)
minus_mono a b c h =
    let A = a.denominator in
    let B = b.denominator in
    let C = c.denominator in
    let x = a.numerator in
    let y = b.numerator in
    let z = c.numerator in
    subst (λ (u : ℤ). u ≤ℤ (pos (A * C) *ℤ (pos C *ℤ y -ℤ pos B *ℤ z))) (sym (crosswise B C A x z))
    (subst (λ (u : ℤ). (pos C *ℤ (pos C *ℤ (pos B *ℤ x) -ℤ pos B *ℤ (pos A *ℤ z))) ≤ℤ u) (sym (crosswise A C B y z ∙ ap (λ (u : ℤ). pos C *ℤ (pos C *ℤ (pos A *ℤ y) -ℤ u)) (scale_swap A B z)))
    (scale_mono C (less_same (pos B *ℤ (pos A *ℤ z)) (scale_mono C h))))
  where
    crosswise : (B C A : ℕ) (x z : ℤ) → pos (B * C) *ℤ (pos C *ℤ x -ℤ pos A *ℤ z) ≡ pos C *ℤ (pos C *ℤ (pos B *ℤ x) -ℤ pos B *ℤ (pos A *ℤ z))
    crosswise B C A x z =
        sym (scale_scale B C (pos C *ℤ x -ℤ pos A *ℤ z))
        ∙ scale_swap B C (pos C *ℤ x -ℤ pos A *ℤ z)
        ∙ ap (λ (u : ℤ). pos C *ℤ u) (scale_sub B (pos C *ℤ x) (pos A *ℤ z) ∙ ap (λ (u : ℤ). u -ℤ pos B *ℤ (pos A *ℤ z)) (scale_swap B C x))

-- the difference of a over E and c over d × E is (d × a - c) over d × E
pub difference : (d E v : ℕ) (a c : ℤ) → d * E ≡ v → Equal ((pos d *ℤ a -ℤ c) over v) (minus (a over E) (c over (d * E)))
difference d E v a c e =
    let same : pos (d * E) *ℤ a -ℤ pos E *ℤ c ≡ pos E *ℤ (pos d *ℤ a -ℤ c) =
    ap (λ (z : ℤ). z -ℤ pos E *ℤ c) (sym (scale_scale E d a ∙ ap (λ (k : ℕ). pos k *ℤ a) (NatL.mul_comm E d))) ∙ sym (scale_sub E (pos d *ℤ a) c) in
    sym
    (ap (λ (z : ℤ). pos v *ℤ z) same
    ∙ scale_scale v E (pos d *ℤ a -ℤ c)
    ∙ ap (λ (k : ℕ). pos k *ℤ (pos d *ℤ a -ℤ c)) (NatL.mul_comm v E ∙ ap (λ (k : ℕ). E * k) (sym e)))
