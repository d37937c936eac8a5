-- W-203: what passing at a tolerance means, for a game that obeys the rules and a pair that fits it.
use Prim.Native.Nat.{ℕ, ◌<◌, ◌*◌}
use mathlib.Core.Path.{◌≡◌, refl, ◌∙◌, subst}
use mathlib.Core.Logic.{◌↔◌}
use mathlib.Core.Bool.{Bool, true, false, not, ◌&&◌, cond}
use native.Mathlib.Omega.{arith}
use native.Mathlib.Nat as NatL
use lib.Dec.{T, not_T}
use mir.Facts.{and_yes, yes_and}
use lib.IntN.{pos, ◌-ℤ◌, ◌*ℤ◌}
use lib.Signed.{◌≤ℤ◌, le_z_yes, lt_z, lt_z_yes, lt_z_no, clash_ℤ}
use Rattle.algebra.proofs.Tests.{bool_same}
use Rattle.algebra.proofs.Integers.{le_to, to_le, up_scale, down_scale}
use Rattle.model.specs.Game.{Game, Player, one, two, other}
use Rattle.model.specs.Plan.{PlanPair}
use Rattle.model.specs.Earnings.{Fraction, ◌over◌, AtMost, Equal, minus, listed, against_base, pure_earnings, mixed_earnings, value_base, value_count, value}
use Rattle.model.specs.BestResponse.{best_count, best_value, best_response}
use Rattle.model.specs.Verdict.{equilibrium, scaled_best, gain, deviation_of, verdict}
use Rattle.model.specs.Tolerance.{thousandths, gain_within, passes_at, pure_gain, mixed_gain, NoGainAbove, GainBases}
use Rattle.model.specs.Rules.{GameRules}
use Rattle.model.specs.Calls.Verdict.{stated}
use Rattle.model.specs.Calls.Tolerance.{says_yes}
use Rattle.model.specs.Demand3.{BasesPositive}
use Rattle.model.proofs.BestResponses.{response_pure, pure_most, mixed_most, response_attains}
use Rattle.model.proofs.Earnings.{bases_agree}
use Rattle.model.proofs.Fractions.{equal_at_most, equal_at_least, at_most_trans, minus_mono, difference}

module _ (g : Game) (q : PlanPair) where
  -- the test of one player, as a proposition
  within_iff : (t : ℕ) (p : Player) → T (gain_within g q t p) ↔ AtMost (gain g q p over value_base g q) (thousandths t)
  unfolding gain_within
  within_iff t p = (λ h. le_z_yes h, λ h. h.le)

  -- both players'
  passes_iff : (t : ℕ) → T (passes_at g q t) ↔ ((p : Player) → T (gain_within g q t p))
  unfolding passes_at
  passes_iff t = (λ h. each (and_yes (gain_within g q t one) (gain_within g q t two) h), λ h. yes_and (gain_within g q t one) (gain_within g q t two) (h one) (h two))
    where
      each : T (gain_within g q t one) × T (gain_within g q t two) → (p : Player) → T (gain_within g q t p)
      each h one = h.0
      each h two = h.1

  -- at 0 a gain is within exactly where it is not above 0
  zero_within : (p : Player) → gain_within g q 0 p ≡ not (lt_z (pos 0) (gain g q p))
  zero_within p =
      let G = gain g q p in
      let b = value_base g q in
      bool_same (gain_within g q 0 p) (not (lt_z (pos 0) G))
      (λ h.
      let most : G ≤ℤ pos 0 = to_le G (pos 0) (omega (arith, le_to (pos 1000 *ℤ G) (pos (b * 0)) ((within_iff 0 p).0 h), up_scale 1000 G, down_scale 1000 G)) in
      not_T (lt_z (pos 0) G) (λ t. clash_ℤ (lt_z_yes t) most))
      (λ n.
      let most : G ≤ℤ pos 0 = lt_z_no n in
      (within_iff 0 p).1 (to_le (pos 1000 *ℤ G) (pos (b * 0)) (omega (arith, le_to G (pos 0) most, up_scale 1000 G, down_scale 1000 G))))

  -- "Tolerance 0 must agree with the verdict on every pair": whatever the pair is
  pub zero_passes : (base : ℕ) → passes_at g q 0 ≡ says_yes (stated base (verdict g q))
  unfolding passes_at verdict deviation_of
  zero_passes base = (λ i. zero_within one i && zero_within two i) ∙ go (lt_z (pos 0) (gain g q one)) (lt_z (pos 0) (gain g q two))
    where
      go : (a b : Bool) → (not a && not b) ≡ says_yes (stated base (cond a (deviation_of g q one) (cond b (deviation_of g q two) equilibrium)))
      go true b = refl
      go false true = refl
      go false false = refl

module _ (g : Game) (R : GameRules g) (q : PlanPair) (B : BasesPositive g q) where
  -- document 01: the gain "is best value less value"
  gain_is : (p : Player) → Equal (gain g q p over value_base g q) (minus (best_value g p (q (other p))) (value g q p))
  unfolding gain scaled_best best_value value
  gain_is p =
      let d = (q p).denominator in
      let y = q (other p) in
      subst (λ (b : ℕ). Equal ((pos d *ℤ best_count g p y -ℤ value_count g q p) over value_base g q) (minus (best_count g p y over against_base g y) (value_count g q p over b))) (bases_agree g q p)
      (difference d (against_base g y) (value_base g q) (best_count g p y) (value_count g q p) (bases_agree g q p))

  -- which has no base 0
  best_base : (p : Player) → 0 < (minus (best_value g p (q (other p))) (value g q p)).denominator
  unfolding best_value value pure_earnings
  best_base p = NatL.mul-pos (B.pures p (λ h. 0)) B.values

  -- what earns at most the best value gains at most the gain, and so at most what the gain is within
  bounded : (t : ℕ) (p : Player) (e : Fraction) → AtMost e (best_value g p (q (other p))) → AtMost (gain g q p over value_base g q) (thousandths t) → AtMost (minus e (value g q p)) (thousandths t)
  bounded t p e most h =
      let G = gain g q p over value_base g q in
      let best = minus (best_value g p (q (other p))) (value g q p) in
      at_most_trans (minus e (value g q p)) best (thousandths t) (best_base p) (minus_mono e (best_value g p (q (other p))) (value g q p) most)
      (at_most_trans best G (thousandths t) B.values (equal_at_least G best (gain_is p)) h)

  -- and the best response gains it
  attained : (t : ℕ) (p : Player) → NoGainAbove g q t p → AtMost (gain g q p over value_base g q) (thousandths t)
  unfolding pure_gain
  attained t p n =
      let y = q (other p) in
      let best = minus (best_value g p y) (value g q p) in
      at_most_trans (gain g q p over value_base g q) best (thousandths t) (best_base p) (equal_at_most (gain g q p over value_base g q) best (gain_is p))
      (subst (λ (e : Fraction). AtMost (minus e (value g q p)) (thousandths t)) (response_attains g p y R) (n.pures (listed (best_response g p y)) (response_pure g p y R)))

  none_above : (t : ℕ) (p : Player) → T (gain_within g q t p) ↔ NoGainAbove g q t p
  unfolding pure_gain mixed_gain
  none_above t p =
      let y = q (other p) in
      let w = within_iff g q t p in (
        λ h. record { pures = λ σ legal. bounded t p (pure_earnings g p y σ) (pure_most g p y R σ legal) (w.0 h); mixed = λ μ legal. bounded t p (mixed_earnings g p y μ) (mixed_most g p y R μ legal) (w.0 h) },
        λ n. w.1 (attained t p n),
      )

  -- "yes exactly when neither player has a strategy whose gain lies above it"
  pub passes_exactly : (t : ℕ) → T (passes_at g q t) ↔ ((p : Player) → NoGainAbove g q t p)
  passes_exactly t =
      let i = passes_iff g q t in
      (λ h p. (none_above t p).0 (i.0 h p), λ n. i.1 (λ p. (none_above t p).1 (n p)))

  pub gain_bases : GainBases g q
  unfolding pure_gain mixed_gain value
  gain_bases = record { pures = λ p σ. NatL.mul-pos (B.pures p σ) B.values; mixed = λ p μ legal. NatL.mul-pos (B.mixed p μ legal) B.values }
