-- Document 003, Theorem 2.66: a pair of realization plans is an equilibrium exactly when there are prices of both players' sets,
-- the document's vectors u and v, that are feasible and complementary. Over exact integers: p's prices are counted over D0 × the other's D.
use Rattle.std.specs.Prelude.{ℕ, ◌<◌, ◌≡◌, ◌↔◌, List, [], T, ℤ, pos, ◌+ℤ◌, ◌-ℤ◌, ◌*ℤ◌, ◌≤ℤ◌}
use Rattle.algebra.specs.Bounded.{sum_to, sum_where}
use Rattle.model.specs.Game.{Game, game_of, Player, one, two, other, owns}
use Rattle.model.specs.Sequences.{Sequence, extended, leading}
use Rattle.model.specs.Plan.{RealizationPlan, PlanPair, plan_pair_of}
use Rattle.model.specs.PlanChecks.{files}
use Rattle.model.specs.BestResponse.{leads_to, leaves_worth}
use Rattle.model.specs.Rules.{GoodFiles}
use Rattle.model.specs.Demand3.{NoProfitableDeviation}

-- Prices of one player: one for the empty sequence, and one for each of his sets. Any integers.
pub record Prices : Type 0 where
  pub start : ℤ
  pub set : ℕ → ℤ

-- Player p against the other's plan y, with prices u.
module _ (g : Game) (p : Player) (y : RealizationPlan) (u : Prices) where
  -- what p gets at a sequence: its leaves, (A y) there, and the prices of the own sets that it leads to
  unfoldable pub offered : Sequence → ℤ
  offered s = leaves_worth g p y s +ℤ sum_where g.sets (leads_to g p s) u.set

  -- Eᵀu - A y ≥ 0, at the empty sequence and at each move of each of p's sets
  pub record Feasible : Type 0 where
    pub empty : offered [] ≤ℤ u.start
    pub moves : (h m : ℕ) → h < g.sets → T (owns g p h) → m < g.set_moves h → offered (extended (leading g h) h m) ≤ℤ u.set h

  -- xᵀ(Eᵀu - A y)
  unfoldable pub product : RealizationPlan → ℤ
  product x =
      pos x.denominator *ℤ (u.start -ℤ offered [])
      +ℤ sum_where g.sets (owns g p) (λ h. sum_to (g.set_moves h) (λ m. pos (x.move_weight h m) *ℤ (u.set h -ℤ offered (extended (leading g h) h m))))

-- there are feasible prices for p that are complementary to his plan
abbrev pub Priced : Game → PlanPair → Player → Type 0
Priced g q p = (u : Prices) × Feasible g p (q (other p)) u × (product g p (q (other p)) u (q p) ≡ pos 0)

-- Theorem 2.66. That both plans fit (E x = e, F y = f) and are not negative is what a good plan file says.
abbrev pub Theorem266 : Type 0
Theorem266 = (game plan : List ℕ) → GoodFiles (files game plan) → let g = game_of game in let q = plan_pair_of g plan in (NoProfitableDeviation g q one × NoProfitableDeviation g q two) ↔ (Priced g q one × Priced g q two)
