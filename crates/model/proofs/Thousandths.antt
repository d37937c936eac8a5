-- Rounding up to thousandths, by parts that stay within 64 bits.
use Prim.Native.Nat.{ℕ, suc, ◌+◌, ◌*◌, ◌-◌, ◌/◌, ◌%◌, ◌≤◌, ◌<◌}
use mathlib.Core.Path.{◌≡◌, ap, ◌∙◌}
use mathlib.Core.Logic.{◌↔◌}
use native.Mathlib.Omega.{arith}
use native.Mathlib.Nat as NatL
use Rattle.model.specs.Tolerance.{thousandths_up}

-- t thousandths are at least count over base exactly from the rounded number on
pub up_at_most : (count base t : ℕ) → 0 < base → (thousandths_up count base ≤ t) ↔ (1000 * count ≤ t * base)
unfolding thousandths_up
up_at_most count base t s =
    let d = NatL.div-lt_iff_lt-mul {k = base} {x = 1000 * count + (base - 1)} {y = suc t} s in (
      λ h. omega (arith, d.0 (omega arith)),
      λ h. let a : (1000 * count + (base - 1)) / base < suc t = d.1 (omega arith) in omega arith,
    )

-- the quotient first, and only the remainder times 1000
pub up_by_parts : (count base : ℕ) → 0 < base → thousandths_up count base ≡ 1000 * (count / base) + (1000 * (count % base) + (base - 1)) / base
unfolding thousandths_up
up_by_parts count base s =
    ap (λ (i : ℕ). i / base) (omega (arith, ap (λ (i : ℕ). 1000 * i) (NatL.div-add-mod' count base)))
    ∙ NatL.mul-add-div_right s (1000 * (count / base)) (1000 * (count % base) + (base - 1))

-- Every part is far below 2⁶⁴, where the count is at most 65,536 times the base, and the base at most D0 × D1 × D2 can be.
pub record PartsFit (count base : ℕ) : Type 0 where
  pub whole : 1000 * (count / base) ≤ 65536000
  pub rest : 1000 * (count % base) + (base - 1) < 1001 * base
  pub sum : thousandths_up count base ≤ 65536000

pub parts_fit : (count base : ℕ) → 0 < base → count ≤ 65536 * base → PartsFit count base
parts_fit count base s h =
    let quotient : count / base < 65537 = (NatL.div-lt_iff_lt-mul {k = base} {x = count} {y = 65537} s).1 (omega arith) in
    record {
      whole = omega arith;
      rest = omega (arith, NatL.mod-lt count s);
      sum = (up_at_most count base 65536000 s).1 (omega arith);
    }
