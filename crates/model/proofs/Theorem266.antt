-- Theorem 2.66 of document 003: an equilibrium is a pair with feasible and complementary prices of both players.
-- Any such prices bound what a strategy earns (`Prices`); where nobody can gain, the worths are such prices (`Duality`).
use Prim.Native.Nat.{◌<◌}
use mathlib.Core.Path.{sym, subst}
use native.Mathlib.Nat as NatL
use lib.IntN.{ℤ, pos, ◌*ℤ◌}
use lib.Signed.{◌≤ℤ◌}
use Rattle.algebra.proofs.Integers.{scale_mono, scale_one, ≤ℤ-antisym}
use Rattle.model.specs.Game.{Game, game_of, Player, one, two, other}
use Rattle.model.specs.Plan.{PlanPair, Fits, plan_pair_of}
use Rattle.model.specs.Earnings.{listed, pure_count, against_base, pure_earnings, plan_count, plan_earnings}
use Rattle.model.specs.BestResponse.{best_count, best_response}
use Rattle.model.specs.Rules.{GameRules}
use Rattle.model.specs.Demand3.{NoProfitableDeviation}
use Rattle.model.specs.Prices.{Priced, Theorem266}
use Rattle.model.proofs.Earnings.{fraction_at_most, fraction_cancel}
use Rattle.model.proofs.Prices.{at_most_price, earns_price, complementary}
use Rattle.model.proofs.Duality.{worths, feasible, plan_at_most}
use Rattle.model.proofs.Strategies.{pure_plan, pure_fits, pure_count_lem}
use Rattle.model.proofs.BestResponses.{response_pure, response_earns}

module _ (g : Game) (R : GameRules g) (q : PlanPair) (p : Player) (F : Fits g p (q p)) where
  -- prices leave no profitable deviation
  priced_enough : Priced g q p → NoProfitableDeviation g q p
  unfolding NoProfitableDeviation pure_earnings plan_earnings pure_plan
  priced_enough P σ legal =
      let (u, H, z) = P in
      let y = q (other p) in
      let d = (q p).denominator in
      let most : pure_count g p y σ ≤ℤ u.start =
      subst (λ (k : ℤ). k ≤ℤ u.start) (sym (pure_count_lem g R p y σ))
      (subst (λ (k : ℤ). plan_count g p y (pure_plan g σ) ≤ℤ k) (scale_one u.start) (at_most_price g R p y (pure_plan g σ) u (pure_fits g R p σ legal) H)) in
      fraction_at_most d (against_base g y) (pure_count g p y σ) (plan_count g p y (q p))
      (subst (λ (k : ℤ). (pos d *ℤ pure_count g p y σ) ≤ℤ k) (sym (earns_price g R p y (q p) u F z)) (scale_mono d most))

  -- the worths are such prices where there is none
  priced_by_worths : 0 < against_base g (q (other p)) → NoProfitableDeviation g q p → Priced g q p
  unfolding NoProfitableDeviation pure_earnings plan_earnings worths
  priced_by_worths some none =
      let y = q (other p) in
      let d = (q p).denominator in
      let σ = listed (best_response g p y) in
      let c = plan_count g p y (q p) in
      let least : (pos d *ℤ best_count g p y) ≤ℤ c =
      subst (λ (k : ℤ). (pos d *ℤ k) ≤ℤ c) (response_earns g p y R)
      (fraction_cancel d (against_base g y) (pure_count g p y σ) c some (none σ (response_pure g p y R))) in
      (worths g p y, feasible g R p y, complementary g R p y (q p) (worths g p y) F (≤ℤ-antisym c (pos d *ℤ best_count g p y) (plan_at_most g R p y (q p) F) least))

pub theorem266 : Theorem266
unfolding against_base
theorem266 game plan good =
    let g = game_of game in
    let q = plan_pair_of g plan in
    let R = good.0.rules in
    let P = good.1 in
    let some : (p : Player) → 0 < against_base g (q (other p)) = λ p. NatL.mul-pos R.some_weight (P.denominators (other p)) in (
      λ n. (priced_by_worths g R q one (P.fit one) (some one) n.0, priced_by_worths g R q two (P.fit two) (some two) n.1),
      λ n. (priced_enough g R q one (P.fit one) n.0, priced_enough g R q two (P.fit two) n.1),
    )
