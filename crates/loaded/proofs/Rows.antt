-- Rows put place by place, one section after the other.
use Prim.Native.Nat.{ℕ, ◌+◌, ◌*◌, ◌≤◌, ◌<◌}
use mathlib.Core.Path.{◌≡◌, ◌∙◌}
use mathlib.Core.List.{List}
use native.Mathlib.Omega.{arith}
use native.Mathlib.Decide.{ℕ_discrete}
use lib.ListN.{length, get_or, set, length-set}
use lib.Seq.{get_or-set_same, get_or-set_other}
use Rattle.algebra.specs.Sections.{Held}
use Rattle.loaded.specs.Sections.{section_room}
use Rattle.loaded.specs.Rows.{Rows}

module _ {A : Type 0} {from width : ℕ} {f : ℕ → ℕ → A} where
  -- no row is begun
  pub rows_none : {l : List A} → from + section_room * width ≤ length l → Rows from width f 0 0 l
  rows_none room = record { long = room; full = λ d t i v w. absurd (omega arith); begun = λ d t v. absurd (omega arith) }

  -- row n is put in section s
  pub rows_put : {s n : ℕ} {l k : List A} (x : A) → Rows from width f s n l → s < width → n < section_room → k ≡ set l (from + section_room * s + n) x → x ≡ f s n → Rows from width f (s + 1) n k
  rows_put {s} {n} {l} {k} x R v w e is = rw e (record {
    long = omega (arith, R.long, length-set l (from + section_room * s + n) x);
    full = λ d t i p q. get_or-set_other l (from + section_room * s + n) (from + section_room * t + i) x d (λ z. omega arith) ∙ R.full d t i p q;
    begun = λ d t p. go d t p (ℕ_discrete t s);
  })
    where
      go : (d : A) (t : ℕ) → t < s + 1 → Dec (t ≡ s) → get_or (set l (from + section_room * s + n) x) (from + section_room * t + n) d ≡ f t n
      go d t p (yes q) = rw q (get_or-set_same l (from + section_room * s + n) x d (omega (arith, R.long)) ∙ is)
      go d t p (no q) = get_or-set_other l (from + section_room * s + n) (from + section_room * t + n) x d (λ z. q (omega arith)) ∙ R.begun d t (omega (arith, q))

  -- a row is full
  pub rows_next : {n : ℕ} {l : List A} → Rows from width f width n l → Rows from width f 0 (n + 1) l
  rows_next {n} {l} R = record { long = R.long; full = λ d t i v w. go d t i v w (ℕ_discrete i n); begun = λ d t v. absurd (omega arith) }
    where
      go : (d : A) (t i : ℕ) → t < width → i < n + 1 → Dec (i ≡ n) → get_or l (from + section_room * t + i) d ≡ f t i
      go d t i v w (yes q) = rw q (R.begun d t v)
      go d t i v w (no q) = R.full d t i v (omega (arith, q))

  -- what section t holds
  pub rows_held : {n : ℕ} {l : List A} (t : ℕ) → Rows from width f 0 n l → t < width → n ≤ section_room → Held (from + section_room * t) (f t) n l
  rows_held t R v w = record { long = omega (arith, R.long); at = λ d i q. R.full d t i v q }
