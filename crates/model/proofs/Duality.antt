-- Duality for the worths: the corollary of duality for any prices (`Prices`) where each set's price is its worth
-- and the empty sequence's is the best value. Theorem 2.66 itself is `Theorem266`.
use Prim.Native.Nat.{ℕ, pred, ◌<◌}
use mathlib.Core.Path.{◌≡◌, sym, ap, ◌∙◌, subst}
use mathlib.Core.List.{[]}
use native.Mathlib.Omega.{arith}
use lib.Dec.{T}
use lib.IntN.{ℤ, pos, ◌+ℤ◌, ◌*ℤ◌}
use lib.Signed.{◌≤ℤ◌, ≤ℤ_refl}
use Rattle.algebra.proofs.Searches.{max_through_above}
use Rattle.model.specs.Game.{Game, Player, owns}
use Rattle.model.specs.Sequences.{Sequence, extended, leading}
use Rattle.model.specs.Plan.{RealizationPlan, Fits}
use Rattle.model.specs.Earnings.{plan_count}
use Rattle.model.specs.BestResponse.{worth, set_worth, best_count}
use Rattle.model.specs.Rules.{GameRules}
use Rattle.model.specs.Prices.{Prices, offered, Feasible, product}
use Rattle.model.proofs.Worths.{worth_sequence, worth_set}
use Rattle.model.proofs.Prices as Prices

-- the worths as prices
unfoldable pub worths : Game → Player → RealizationPlan → Prices
worths g p y = record { start = best_count g p y; set = set_worth g p y }

-- no move is worth more than its set
pub move_at_most : (g : Game) (p : Player) (y : RealizationPlan) (h m : ℕ) → m < g.set_moves h → worth g p y (extended (leading g h) h m) ≤ℤ set_worth g p y h
move_at_most g p y h m l =
    subst (λ (z : ℤ). worth g p y (extended (leading g h) h m) ≤ℤ z) (sym (worth_set g p y h))
    (max_through_above (pred (g.set_moves h)) (λ m. worth g p y (extended (leading g h) h m)) m (omega arith))

module _ (g : Game) (R : GameRules g) (p : Player) (y : RealizationPlan) where
  -- what is offered at a sequence is its worth
  offered_worth : (s : Sequence) → offered g p y (worths g p y) s ≡ worth g p y s
  unfolding offered worths
  offered_worth s = sym (worth_sequence g R p y s)

  -- the worths are feasible prices
  pub feasible : Feasible g p y (worths g p y)
  unfolding worths best_count
  feasible = record {
    empty = subst (λ (z : ℤ). z ≤ℤ worth g p y []) (sym (offered_worth [])) (≤ℤ_refl _);
    moves = λ h m l o v. subst (λ (z : ℤ). z ≤ℤ set_worth g p y h) (sym (offered_worth (extended (leading g h) h m))) (move_at_most g p y h m v);
  }

  module _ (x : RealizationPlan) (F : Fits g p x) where
    -- earnings and the product with the worths are the denominator times the best value
    pub duality : plan_count g p y x +ℤ product g p y (worths g p y) x ≡ pos x.denominator *ℤ best_count g p y
    unfolding worths
    duality = Prices.duality g R p y x (worths g p y) F

    -- so no plan earns more than its denominator times the best value
    pub plan_at_most : plan_count g p y x ≤ℤ (pos x.denominator *ℤ best_count g p y)
    unfolding worths
    plan_at_most = Prices.at_most_price g R p y x (worths g p y) F feasible

    -- and a plan that takes only best moves earns exactly that
    pub plan_attains : ((h m : ℕ) → h < g.sets → T (owns g p h) → m < g.set_moves h → pos (x.move_weight h m) *ℤ worth g p y (extended (leading g h) h m) ≡ pos (x.move_weight h m) *ℤ set_worth g p y h) → plan_count g p y x ≡ pos x.denominator *ℤ best_count g p y
    unfolding worths best_count
    plan_attains e =
        let u = worths g p y in
        Prices.earns_price g R p y x u F
        (Prices.no_slack g R p y x u F (offered_worth []) (λ h m l o v. ap (λ (z : ℤ). pos (x.move_weight h m) *ℤ z) (offered_worth (extended (leading g h) h m)) ∙ e h m l o v))
