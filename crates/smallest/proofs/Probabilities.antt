-- The probability of each sequence in lowest terms, from that of the sequence before it; and the weights over a denominator that serves.
use Prim.Native.Nat.{ℕ, ◌*◌, ◌/◌, ◌≤◌, ◌<◌, ◌∣◌}
use mathlib.Core.Path.{◌≡◌, sym, ap, ◌∙◌, subst}
use mathlib.Core.List.{[]}
use native.Mathlib.Omega.{arith}
use native.Mathlib.Nat as NatL
use lib.Dec.{T, ltb, ltb→lt, lt→ltb}
use Rattle.algebra.specs.Divisors.{gcd_in, gcd}
use Rattle.algebra.proofs.Divisors.{factors_positive, whole_iff, gcd_positive_right, left_part, right_part, divided_positive, reduced_scale}
use Rattle.algebra.proofs.Tests.{dec, cond_yes, cond_no}
use Rattle.algebra.proofs.Totals.{count_term}
use Rattle.model.specs.Game.{Game, Player, owns}
use Rattle.model.specs.Sequences.{Sequence, extended, leading}
use Rattle.model.specs.Rules.{GameRules}
use Rattle.model.specs.Sheet.{Odds, odds_total, no_zero_odds, odds_numerator, odds_denominator, lowest_numerator, lowest_denominator, Serves, weight_over}
use Rattle.model.proofs.Tree.{IsSequence, leading_sequence, along_sequences}
use Rattle.model.proofs.Sheets.{Arrives, arrives_before, arrives_after, numerator_empty, denominator_empty, numerator_never, denominator_never, numerator_extended, denominator_extended, denominator_positive, numerator_positive, weight_exact}
use Rattle.smallest.specs.Fractions.{probability, reduced, times_odds, lowest_of}

module _ (g : Game) (R : GameRules g) (odds : Odds) (p : Player) where
  -- no probability is above 1
  numerator_at_most : (s : Sequence) → IsSequence g p s → odds_numerator g odds s ≤ odds_denominator g odds s
  unfolding odds_total
  numerator_at_most =
      along_sequences g R p (λ s. odds_numerator g odds s ≤ odds_denominator g odds s) (omega (arith, numerator_empty g odds, denominator_empty g odds)) (λ h m l o v before.
      elim (dec (no_zero_odds g odds (extended (leading g h) h m))) [
        | yes t ↦
            let a = arrives_before g odds (leading g h) h m t in
            rw (numerator_extended g odds (leading g h) h m a.0 a.1, denominator_extended g odds (leading g h) h m a.0 a.1)
            (NatL.mul-le-mul before (count_term (g.set_moves h) (odds h) m v))
        | no n ↦ omega (arith, numerator_never g odds (extended (leading g h) h m) n, denominator_never g odds (extended (leading g h) h m) n)
      ])

  pub lowest_at_most : (s : Sequence) → IsSequence g p s → lowest_numerator g odds s ≤ lowest_denominator g odds s
  unfolding lowest_numerator lowest_denominator
  lowest_at_most s i =
      let a = odds_numerator g odds s in
      let b = odds_denominator g odds s in
      NatL.le_of_mul-le-mul_left {k = gcd a b} (omega (arith, left_part a b, right_part a b, numerator_at_most s i)) (gcd_positive_right a b (denominator_positive g odds R p s i))

  -- the empty sequence: 1 over 1
  pub lowest_empty : lowest_of g odds [] ≡ probability 1 1
  unfolding lowest_of lowest_numerator lowest_denominator gcd gcd_in
  lowest_empty = rw (numerator_empty g odds, denominator_empty g odds)

  -- what is never arrived at: 0 over 1
  lowest_never : (s : Sequence) → ¬ Arrives g odds s → lowest_of g odds s ≡ probability 0 1
  unfolding lowest_of lowest_numerator lowest_denominator gcd gcd_in
  lowest_never s n = rw (numerator_never g odds s n, denominator_never g odds s n)

  -- a move more
  pub lowest_moved : (h m : ℕ) → h < g.sets → T (owns g p h) → m < g.set_moves h → lowest_of g odds (extended (leading g h) h m) ≡ times_odds (lowest_of g odds (leading g h)) (odds h m) (odds_total g odds h)
  unfolding times_odds lowest_of lowest_numerator lowest_denominator reduced
  lowest_moved h m l o v =
      let s = leading g h in
      let i = leading_sequence g R p h l o in
      let a = odds_numerator g odds s in
      let b = odds_denominator g odds s in
      let k = gcd a b in
      let c = a / k in
      let d = b / k in
      let u = odds h m in
      let t = odds_total g odds h in
      elim (dec (no_zero_odds g odds (extended s h m))) [
        | yes arrived ↦
            let before = arrives_before g odds s h m arrived in
            let positive = gcd_positive_right a b (denominator_positive g odds R p s i) in
            let pc : 0 < c = NatL.pos_of_ne-zero (λ z. omega (arith, numerator_positive g odds R p s i before.0, left_part a b, ap (λ (x : ℕ). k * x) z, NatL.mul-zero k)) in
            let top : odds_numerator g odds (extended s h m) ≡ k * (c * u) = numerator_extended g odds s h m before.0 before.1 ∙ ap (λ (x : ℕ). x * u) (sym (left_part a b)) ∙ NatL.mul_assoc k c u in
            let bottom : odds_denominator g odds (extended s h m) ≡ k * (d * t) = denominator_extended g odds s h m before.0 before.1 ∙ ap (λ (x : ℕ). x * t) (sym (right_part a b)) ∙ NatL.mul_assoc k d t in
            let r = reduced_scale k (c * u) (d * t) positive in
            (λ j. probability (top j / gcd (top j) (bottom j)) (bottom j / gcd (top j) (bottom j)))
            ∙ (λ j. probability (r.0 j) (r.1 j))
            ∙ sym (cond_yes (ltb 0 (c * u)) _ (probability 0 1) (lt→ltb 0 (c * u) (NatL.mul-pos pc before.1)))
        | no gone ↦
            lowest_never (extended s h m) gone
            ∙ sym (cond_no (ltb 0 (c * u)) _ (probability 0 1) (λ made.
            let f = factors_positive c u (ltb→lt 0 (c * u) made) in
            elim (dec (no_zero_odds g odds s)) [
              | yes t ↦ gone (arrives_after g odds s h m t f.1)
              | no n ↦ let z : c ≡ 0 = ap (λ (x : ℕ). x / k) (numerator_never g odds s n) ∙ NatL.zero-div k in let pc = f.0 in omega arith
            ]))
      ]

  -- the weight over a denominator that serves, by the probability in lowest terms
  pub weight_lowest : (d : ℕ) → Serves g odds p d → (s : Sequence) → IsSequence g p s → weight_over g odds d s ≡ d / lowest_denominator g odds s * lowest_numerator g odds s
  unfolding lowest_numerator lowest_denominator
  weight_lowest d S s i =
      let a = odds_numerator g odds s in
      let b = odds_denominator g odds s in
      let k = gcd a b in
      let w = weight_over g odds d s in
      let c = a / k in
      let e = b / k in
      let pb = denominator_positive g odds R p s i in
      let exact : w * b ≡ d * a = weight_exact g odds R p d S s i in
      let divides : e ∣ d = (whole_iff a b d pb).0 (subst (λ (x : ℕ). b ∣ x) exact (NatL.dvd-mul_left b w)) in
      let lowest : w * e ≡ d * c =
      NatL.eq_of_mul-eq-mul_left k (gcd_positive_right a b pb) (w * e) (d * c)
      (NatL.mul_left_comm k w e ∙ ap (λ (x : ℕ). w * x) (right_part a b) ∙ exact ∙ ap (λ (x : ℕ). d * x) (sym (left_part a b)) ∙ NatL.mul_left_comm d k c) in
      NatL.eq_of_mul-eq-mul_right e (divided_positive a b pb) w (d / e * c)
      (lowest ∙ ap (λ (x : ℕ). x * c) (sym (NatL.div-mul_cancel e divides)) ∙ NatL.mul_right_comm (d / e) e c)
