-- The verdict on a pair that fits a game that obeys the rules: it means what demand 3 says.
use Prim.Native.Nat.{ℕ, ◌*◌, ◌<◌}
use mathlib.Core.Path.{◌≡◌, sym, ap, ◌∙◌, subst}
use mathlib.Core.Bool.{Bool, cond}
use mathlib.Core.Logic.{◌↔◌}
use mathlib.Core.List.{List}
use native.Mathlib.Omega.{arith}
use native.Mathlib.Nat as NatL
use lib.Dec.{T, not_T}
use lib.IntN.{ℤ, pos, ◌-ℤ◌, ◌*ℤ◌}
use lib.Signed.{◌≤ℤ◌, ◌<ℤ◌, lt_z, lt_z_yes, lt_z_no, clash_ℤ}
use Rattle.algebra.proofs.Tests.{dec, cond_yes, cond_no}
use Rattle.algebra.proofs.Integers.{le_to, to_le, sub_is, ≤ℤ-trans, nonneg_sub, scale_mono}
use Rattle.model.specs.Game.{Game, game_of, Player, one, two, other, owns}
use Rattle.model.specs.Sequences.{Move}
use Rattle.model.specs.Plan.{PlanPair, plan_pair_of, Fits}
use Rattle.model.specs.Earnings.{AtMost, Equal, minus, listed, IsMixed, pure_count, against_base, pure_earnings, mixed_earnings, plan_count, plan_earnings, value_base, value_count}
use Rattle.model.specs.BestResponse.{best_count, best_response}
use Rattle.model.specs.Verdict.{Verdict, equilibrium, deviation, scaled_best, gain, deviation_of, verdict}
use Rattle.model.specs.Checks.{GameAccepted, PlanFits}
use Rattle.model.specs.Rules.{GameRules}
use Rattle.model.specs.Demand3.{NoProfitableDeviation, move_worth, LowestBest, Deviates, BasesPositive}
use Rattle.model.proofs.Checks.{game_rules, plan_rules}
use Rattle.model.proofs.Duality.{plan_at_most}
use Rattle.model.proofs.Strategies.{pure_at_most}
use Rattle.model.proofs.BestResponses.{response_move, response_sets, best_move_lem, lower_move, response_pure, response_earns, pure_most, mixed_most, response_attains}
use Rattle.model.proofs.Earnings.{bases_agree, own_count, fraction_at_most, fraction_cancel}
use Rattle.model.proofs.Fractions.{difference}

-- what the verdict on a pair means
pub record VerdictMeans (g : Game) (q : PlanPair) : Type 0 where
  pub accepts : (verdict g q ≡ equilibrium) ↔ (NoProfitableDeviation g q one × NoProfitableDeviation g q two)
  pub shows : (p : Player) (gain : ℤ) (moves : List Move) → verdict g q ≡ deviation p gain moves → Deviates g q p gain (value_base g q) moves
  pub bases : BasesPositive g q

-- the two players are not the same
one≢two : ¬ (one ≡ two)
one≢two e = let z : ◌≡◌ {A = ℕ} 0 1 = ap code e in omega arith
  where
    code : Player → ℕ
    code one = 0
    code two = 1

-- a deviation is no yes
deviation≢equilibrium : (p : Player) (z : ℤ) (l : List Move) → ¬ (deviation p z l ≡ equilibrium)
deviation≢equilibrium p z l e = let z : ◌≡◌ {A = ℕ} 0 1 = ap code e in omega arith
  where
    code : Verdict → ℕ
    code equilibrium = 1
    code (deviation p z l) = 0

-- a difference that is not above 0
not_above_zero : (x v : ℤ) → ¬ T (lt_z (pos 0) (x -ℤ v)) → x ≤ℤ v
not_above_zero x v n = let a : (x -ℤ v) ≤ℤ pos 0 = lt_z_no (not_T (lt_z (pos 0) (x -ℤ v)) n) in to_le x v (omega (arith, le_to (x -ℤ v) (pos 0) a, sub_is x v))

above_zero : (x v : ℤ) → T (lt_z (pos 0) (x -ℤ v)) → ¬ (x ≤ℤ v)
above_zero x v t h = let a : pos 0 <ℤ (x -ℤ v) = lt_z_yes t in clash_ℤ a (to_le (x -ℤ v) (pos 0) (omega (arith, le_to x v h, sub_is x v)))

module _ (g : Game) (R : GameRules g) (q : PlanPair) (F : (p : Player) → Fits g p (q p)) where
  -- the value is at most the denominator times the best value, so no gain is below 0
  pub gain_not_negative : (p : Player) → pos 0 ≤ℤ gain g q p
  unfolding gain scaled_best
  gain_not_negative p =
      nonneg_sub (value_count g q p) (pos (q p).denominator *ℤ best_count g p (q (other p)))
      (subst (λ (z : ℤ). z ≤ℤ (pos (q p).denominator *ℤ best_count g p (q (other p)))) (own_count g q p) (plan_at_most g R p (q (other p)) (q p) (F p)))

  -- where p's gain is not above 0, he has no profitable deviation
  content : (p : Player) → ¬ T (lt_z (pos 0) (gain g q p)) → NoProfitableDeviation g q p
  unfolding NoProfitableDeviation pure_earnings plan_earnings gain scaled_best
  content p n σ legal =
      let d = (q p).denominator in
      let y = q (other p) in
      fraction_at_most d (against_base g y) (pure_count g p y σ) (plan_count g p y (q p))
      (≤ℤ-trans (scale_mono d (pure_at_most g R p y σ legal))
      (subst (λ (z : ℤ). (pos d *ℤ best_count g p y) ≤ℤ z) (sym (own_count g q p)) (not_above_zero (pos d *ℤ best_count g p y) (value_count g q p) n)))

  -- where it is above 0, the best response is one
  gainful : (p : Player) → 0 < against_base g (q (other p)) → T (lt_z (pos 0) (gain g q p)) → ¬ NoProfitableDeviation g q p
  unfolding NoProfitableDeviation pure_earnings plan_earnings gain scaled_best
  gainful p z t c =
      let d = (q p).denominator in
      let y = q (other p) in
      let σ = listed (best_response g p y) in
      above_zero (pos d *ℤ best_count g p y) (value_count g q p) t
      (subst (λ (k : ℤ). (pos d *ℤ best_count g p y) ≤ℤ k) (own_count g q p)
      (subst (λ (k : ℤ). (pos d *ℤ k) ≤ℤ plan_count g p y (q p)) (response_earns g p y R)
      (fraction_cancel d (against_base g y) (pure_count g p y σ) (plan_count g p y (q p)) z (c σ (response_pure g p y R)))))

  -- the shown move of a set is its lowest-numbered best one
  lowest_best : (p : Player) (h : ℕ) → h < g.sets → T (owns g p h) → LowestBest g q p h (listed (best_response g p (q (other p))) h)
  unfolding move_worth
  lowest_best p h l o =
      let y = q (other p) in
      let some = (R.set_moves h l).0 in
      subst (LowestBest g q p h) (sym (response_move g p y h l o))
      (record {
        best = λ k u. best_move_lem g p y h k some u;
        lowest = λ k u. lower_move g p y h k some u;
      })

  -- the best response gains exactly the stated gain
  exact_gain : (p : Player) → Equal (record { numerator = gain g q p; denominator = value_base g q }) (minus (pure_earnings g p (q (other p)) (listed (best_response g p (q (other p))))) (plan_earnings g p (q (other p)) (q p)))
  unfolding gain scaled_best pure_earnings plan_earnings
  exact_gain p =
      let d = (q p).denominator in
      let y = q (other p) in
      let c = plan_count g p y (q p) in
      subst (λ (v : ℤ). Equal (record { numerator = pos d *ℤ best_count g p y -ℤ v; denominator = value_base g q }) (minus (record { numerator = pure_count g p y (listed (best_response g p y)); denominator = against_base g y }) (record { numerator = c; denominator = d * against_base g y }))) (own_count g q p)
      (subst (λ (a : ℤ). Equal (record { numerator = pos d *ℤ best_count g p y -ℤ c; denominator = value_base g q }) (minus (record { numerator = a; denominator = against_base g y }) (record { numerator = c; denominator = d * against_base g y }))) (sym (response_earns g p y R))
      (difference d (against_base g y) (value_base g q) (best_count g p y) c (bases_agree g q p)))

  -- what the best response of a player who can gain says
  deviating : (p : Player) → T (lt_z (pos 0) (gain g q p)) → (p ≡ two → NoProfitableDeviation g q one) → Deviates g q p (gain g q p) (value_base g q) (best_response g p (q (other p)))
  deviating p t f =
      let y = q (other p) in
      let attained = sym (response_attains g p y R) in
      record {
        first_first = f;
        every_set = response_sets g p y;
        pure = response_pure g p y R;
        worthiest = lowest_best p;
        exact = exact_gain p;
        above = lt_z_yes t;
        best = λ τ legal. subst (AtMost (pure_earnings g p y τ)) attained (pure_most g p y R τ legal);
        best_mixed = λ μ legal. subst (AtMost (mixed_earnings g p y μ)) attained (mixed_most g p y R μ legal);
      }

  module _ (root : 0 < g.root_weight) (some : (p : Player) → 0 < (q p).denominator) where
    -- every base is above 0
    against_positive : (p : Player) → 0 < against_base g (q (other p))
    unfolding against_base
    against_positive p = NatL.mul-pos root (some (other p))

    bases_positive : BasesPositive g q
    unfolding pure_earnings plan_earnings mixed_earnings IsMixed
    bases_positive = record {
      values = subst (λ (k : ℕ). 0 < k) (bases_agree g q one) (NatL.mul-pos (some one) (against_positive one));
      pures = λ p σ. against_positive p;
      plans = λ p. NatL.mul-pos (some p) (against_positive p);
      mixed = λ p μ legal. NatL.mul-pos legal.1 (against_positive p);
    }

    -- what an answer says, if it is a deviation
    abbrev Means : Verdict → Type 0
    Means equilibrium = Unit {0}
    Means (deviation p z l) = Deviates g q p z (value_base g q) l

    -- the answer, by which player can gain
    pub verdict_means : VerdictMeans g q
    unfolding verdict deviation_of
    verdict_means = record {
      accepts = (yes_means, means_yes);
      shows = λ p z l e. subst Means e shown;
      bases = bases_positive;
    }
      where
        a : Bool
        a = lt_z (pos 0) (gain g q one)

        b : Bool
        b = lt_z (pos 0) (gain g q two)

        second : Verdict
        second = cond b (deviation_of g q two) equilibrium

        shown : Means (cond a (deviation_of g q one) second)
        shown =
            elim (dec a) [
              | yes t ↦ subst Means (sym (cond_yes a (deviation_of g q one) second t)) (deviating one t (λ e. absurd (one≢two e)))
              | no n ↦ subst Means (sym (cond_no a (deviation_of g q one) second n))
                  (elim (dec b) [
                    | yes t ↦ subst Means (sym (cond_yes b (deviation_of g q two) equilibrium t)) (deviating two t (λ e. content one n))
                    | no m ↦ subst Means (sym (cond_no b (deviation_of g q two) equilibrium m)) tt
                  ])
            ]

        yes_means : cond a (deviation_of g q one) second ≡ equilibrium → NoProfitableDeviation g q one × NoProfitableDeviation g q two
        yes_means e = (
          content one (λ t. deviation≢equilibrium one (gain g q one) (best_response g one (q two)) (sym (cond_yes a (deviation_of g q one) second t) ∙ e)),
          content two (λ t. elim (dec a) [
            | yes u ↦ deviation≢equilibrium one (gain g q one) (best_response g one (q two)) (sym (cond_yes a (deviation_of g q one) second u) ∙ e)
            | no n ↦ deviation≢equilibrium two (gain g q two) (best_response g two (q one)) (sym (cond_yes b (deviation_of g q two) equilibrium t) ∙ sym (cond_no a (deviation_of g q one) second n) ∙ e)
          ]),
        )

        means_yes : NoProfitableDeviation g q one × NoProfitableDeviation g q two → cond a (deviation_of g q one) second ≡ equilibrium
        means_yes c =
            cond_no a (deviation_of g q one) second (λ t. gainful one (against_positive one) t c.0)
            ∙ cond_no b (deviation_of g q two) equilibrium (λ t. gainful two (against_positive two) t c.1)

-- the verdict on the pair of two files that are accepted
pub files_mean : (game plan : List ℕ) → GameAccepted game → PlanFits game plan → VerdictMeans (game_of game) (plan_pair_of (game_of game) plan)
files_mean game plan accepted fits =
    let R = game_rules game accepted in
    let P = plan_rules game plan fits in
    verdict_means (game_of game) R (plan_pair_of (game_of game) plan) P.fit R.some_weight P.denominators
