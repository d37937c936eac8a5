-- Pure strategies as realization plans of 0s and 1s, mixed strategies as sums of pure ones.
use Prim.Native.Nat.{ℕ, zero, suc, ◌≤◌, ◌<◌}
use mathlib.Core.Path.{◌≡◌, refl, sym, ap, ◌∙◌, subst}
use mathlib.Core.Bool.{Bool, true, false, ◌&&◌, cond}
use mathlib.Core.List.{[], ◌∷◌}
use native.Mathlib.Omega.{arith}
use native.Mathlib.Nat as NatL
use lib.Dec.{T, eqb}
use lib.IntN.{ℤ, pos, ◌+ℤ◌, ◌*ℤ◌, zero-*ℤ, +ℤ_idr}
use lib.Signed.{◌≤ℤ◌, ≤ℤ_refl}
use Rattle.algebra.specs.Bounded.{sum_where}
use Rattle.algebra.proofs.Integers.{+ℤ-mono, scale_mono, scale_plus, scale_scale, scale_one}
use Rattle.algebra.proofs.Totals.{only, only_only, count_cong, count_pick}
use Rattle.algebra.proofs.Sums.{only_z, sum_cong, where_z_is, where_tests}
use Rattle.model.specs.Game.{Game, Player, owns, is_leaf}
use Rattle.model.specs.Sequences.{Sequence, extended, acts, own_sequence_of, leading}
use Rattle.model.specs.Plan.{RealizationPlan, sequence_weight, weight_at, Fits}
use Rattle.model.specs.Earnings.{Equal, PureStrategy, MixedStrategy, consistent, total_weight, IsPure, PartsPure, IsMixed, leaf_term, pure_count, against_base, pure_earnings, mixed_count, mixed_earnings, plan_count}
use Rattle.model.specs.BestResponse.{best_count}
use Rattle.model.specs.Rules.{GameRules}
use Rattle.model.specs.Demand3.{StrategiesExist}
use Rattle.model.proofs.Sequences.{weight_empty, weight_extended, consistent_extended}
use Rattle.model.proofs.Tree.{IsSequence, empty, after, acts_parts, own_root, own_step, parent_in, in_own_set, own_sequence_lem, leading_sequence}
use Rattle.model.proofs.Duality.{plan_at_most}

-- the realization plan of a pure strategy: 1 for each sequence that is consistent with it
unfoldable pub pure_plan : Game → PureStrategy → RealizationPlan
pure_plan g σ = record {
  denominator = 1;
  move_weight = λ h m. only (consistent σ (extended (leading g h) h m)) 1;
}

-- the weight that it gives a sequence
pub pure_weight : (g : Game) (p : Player) (σ : PureStrategy) (s : Sequence) → IsSequence g p s → sequence_weight (pure_plan g σ) s ≡ only (consistent σ s) 1
unfolding pure_plan consistent
pure_weight g p σ s empty = weight_empty (pure_plan g σ)
pure_weight g p σ s (after {h = h} {m = m} l o b) = weight_extended (pure_plan g σ) (leading g h) h m

module _ (g : Game) (R : GameRules g) (p : Player) where
  -- it fits
  pub pure_fits : (σ : PureStrategy) → IsPure g p σ → Fits g p (pure_plan g σ)
  unfolding IsPure pure_plan
  pure_fits σ legal h l o =
      count_cong (g.set_moves h) _ _ (λ m u. ap (λ (b : Bool). only b 1) (consistent_extended σ (leading g h) h m) ∙ sym (only_only (eqb (σ h) m) (consistent σ (leading g h)) 1))
      ∙ count_pick (g.set_moves h) (σ h) (λ m. only (consistent σ (leading g h)) 1) (legal h l o)
      ∙ sym (pure_weight g p σ (leading g h) (leading_sequence g R p h l o))

  -- it earns what the strategy does, from any number of nodes
  pub pure_prefix : (y : RealizationPlan) (σ : PureStrategy) (k : ℕ) → k ≤ g.nodes → sum_where k (λ n. is_leaf g n && consistent σ (own_sequence_of g p n)) (leaf_term g p y) ≡ sum_where k (is_leaf g) (λ n. pos (weight_at g (pure_plan g σ) p n) *ℤ leaf_term g p y n)
  unfolding weight_at
  pure_prefix y σ k b =
      where_z_is k (λ n. is_leaf g n && consistent σ (own_sequence_of g p n)) (leaf_term g p y)
      ∙ sum_cong k _ _ (λ n l. go n (is_leaf g n) (consistent σ (own_sequence_of g p n)) (pure_weight g p σ (own_sequence_of g p n) (own_sequence_lem g R p n (omega arith))))
      ∙ sym (where_z_is k (is_leaf g) (λ n. pos (sequence_weight (pure_plan g σ) (own_sequence_of g p n)) *ℤ leaf_term g p y n))
    where
      go : (n : ℕ) (a b : Bool) {w : ℕ} → w ≡ only b 1 → only_z (a && b) (leaf_term g p y n) ≡ only_z a (pos w *ℤ leaf_term g p y n)
      go n true true e = rw e (sym (scale_one (leaf_term g p y n)))
      go n true false e = rw e (sym (zero-*ℤ (leaf_term g p y n)))
      go n false b e = refl

  -- it earns what the strategy does
  pub pure_count_lem : (y : RealizationPlan) (σ : PureStrategy) → pure_count g p y σ ≡ plan_count g p y (pure_plan g σ)
  unfolding pure_count plan_count
  pure_count_lem y σ = pure_prefix y σ g.nodes (omega arith)

  -- no pure strategy earns more than the best value
  pub pure_at_most : (y : RealizationPlan) (σ : PureStrategy) → IsPure g p σ → pure_count g p y σ ≤ℤ best_count g p y
  unfolding pure_plan
  pure_at_most y σ legal =
      subst (λ (z : ℤ). z ≤ℤ best_count g p y) (sym (pure_count_lem y σ))
      (subst (λ (z : ℤ). plan_count g p y (pure_plan g σ) ≤ℤ z) (scale_one (best_count g p y)) (plan_at_most g R p y (pure_plan g σ) (pure_fits σ legal)))

  -- no mixed strategy earns more than its weight times the best value
  pub mixed_at_most : (y : RealizationPlan) (μ : MixedStrategy) → PartsPure g p μ → mixed_count g p y μ ≤ℤ (pos (total_weight μ) *ℤ best_count g p y)
  unfolding PartsPure total_weight mixed_count
  mixed_at_most y [] a = subst (λ (z : ℤ). pos 0 ≤ℤ z) (sym (zero-*ℤ (best_count g p y))) (≤ℤ_refl (pos 0))
  mixed_at_most y (x ∷ μ) a =
      subst (λ (z : ℤ). (pos x.0 *ℤ pure_count g p y x.1 +ℤ mixed_count g p y μ) ≤ℤ z) (sym (scale_plus x.0 (total_weight μ) (best_count g p y)))
      (+ℤ-mono (scale_mono x.0 (pure_at_most y x.1 a.0)) (mixed_at_most y μ a.1))

  -- strategies that agree at p's sets are consistent with the same own sequences, for nodes below a bound
  agree_below : (σ τ : PureStrategy) → ((h : ℕ) → h < g.sets → T (owns g p h) → σ h ≡ τ h) → (k n : ℕ) → n < k → n < g.nodes → consistent σ (own_sequence_of g p n) ≡ consistent τ (own_sequence_of g p n)
  unfolding consistent
  agree_below σ τ e zero n b l = absurd (omega arith)
  agree_below σ τ e (suc k) zero b l = rw (own_root g p)
  agree_below σ τ e (suc k) (suc n) b l =
      rw (own_step g R.parents p n l)
      (go (acts g p up) (λ t. let a = acts_parts g p up t in e (g.node_set up) (in_own_set g R up (parent_in g R (suc n) l) a.0).0 a.1) (agree_below σ τ e k up (omega (arith, R.parents n l)) (parent_in g R (suc n) l)))
    where
      up : ℕ
      up = g.parent (suc n)

      go : (b : Bool) → (T b → σ (g.node_set up) ≡ τ (g.node_set up)) → consistent σ (own_sequence_of g p up) ≡ consistent τ (own_sequence_of g p up) → consistent σ (cond b (extended (own_sequence_of g p up) (g.node_set up) (g.move (suc n))) (own_sequence_of g p up)) ≡ consistent τ (cond b (extended (own_sequence_of g p up) (g.node_set up) (g.move (suc n))) (own_sequence_of g p up))
      go true a r = rw (consistent_extended σ (own_sequence_of g p up) (g.node_set up) (g.move (suc n)), consistent_extended τ (own_sequence_of g p up) (g.node_set up) (g.move (suc n)), a tt, r)
      go false a r = r

  -- what a strategy earns depends only on its moves at p's own sets
  pub pure_agree : (y : RealizationPlan) (σ τ : PureStrategy) → ((h : ℕ) → h < g.sets → T (owns g p h) → σ h ≡ τ h) → pure_count g p y σ ≡ pure_count g p y τ
  unfolding pure_count
  pure_agree y σ τ e = where_tests g.nodes _ _ (leaf_term g p y) (λ n l. ap (λ (b : Bool). is_leaf g n && b) (agree_below σ τ e (suc n) n (omega arith) l))

-- a mixed strategy of one part earns what the part earns
pub mixed_of_one : (g : Game) (p : Player) (y : RealizationPlan) (w : ℕ) (σ : PureStrategy) → Equal (mixed_earnings g p y ((w, σ) ∷ [])) (pure_earnings g p y σ)
unfolding mixed_earnings pure_earnings mixed_count total_weight
mixed_of_one g p y w σ =
    let E = against_base g y in
    rw (+ℤ_idr (pos w *ℤ pure_count g p y σ), NatL.add-zero w)
    (scale_scale E w (pure_count g p y σ) ∙ ap (λ (k : ℕ). pos k *ℤ pure_count g p y σ) (NatL.mul_comm E w))

-- there are strategies: move 0 everywhere is one, alone it is mixed, and any pure one joins a mixed one
pub strategies_exist : (g : Game) → GameRules g → StrategiesExist g
unfolding IsPure IsMixed PartsPure total_weight
strategies_exist g R = record {
  pure = λ p. (λ h. 0, λ h l o. (R.set_moves h l).0);
  mixed = λ p σ weight legal some. ((legal, tt), omega arith);
  more = λ p σ weight μ legal mixed. ((legal, mixed.0), omega (arith, mixed.1));
}
