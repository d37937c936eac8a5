-- The number budget: values, earnings, worths, best values and gains of accepted files, for weights and denominators up to 65,535.
-- Values and best values are bounded by the flow law, worths by counting each leaf once.
use Prim.Native.Nat.{ℕ, ◌+◌, ◌*◌, ◌≤◌, ◌<◌}
use mathlib.Core.Path.{◌≡◌, sym, ap, ◌∙◌, subst}
use mathlib.Core.Bool.{Bool, true, false, ◌&&◌}
use mathlib.Core.List.{List}
use native.Mathlib.Omega.{arith}
use native.Mathlib.Nat as NatL
use lib.IntN.{ℤ, pos, ◌+ℤ◌, ◌*ℤ◌, nat_abs}
use mir.Syntax.{w64}
use mir.Val.{SFits}
use Rattle.algebra.specs.Bounded.{total_to, sum_where}
use Rattle.algebra.proofs.Ranges.{abs_sub, abs_scale, abs_where, sfits_abs}
use Rattle.algebra.proofs.Totals.{only, only_le, only_most, only_scale, count_le, count_less, count_bound, count_scale}
use Rattle.model.specs.Bits.{field}
use Rattle.model.specs.Game.{Game, game_of, Player, one, two, other, is_leaf, payoff_at, node_at}
use Rattle.model.specs.Sequences.{Sequence, same, own_sequence_of}
use Rattle.model.specs.Plan.{RealizationPlan, PlanPair, sequence_weight, weight_at, plan_pair_of, Fits}
use Rattle.model.specs.Table.{stands_at, weighted_payoff}
use Rattle.model.specs.Earnings.{PureStrategy, listed, consistent, IsPure, leaf_term, pure_count, against_base, value_base, value_term, value_count}
use Rattle.model.specs.BestResponse.{leads_to, greatest_worth, leaves_worth, worth_in, best_count, best_response}
use Rattle.model.specs.Verdict.{scaled_best, gain}
use Rattle.model.specs.Limits.{weight_limit, count_limit, GameLimits}
use Rattle.model.specs.Rules.{GameRules}
use Rattle.model.proofs.Bits.{field_fits, signed_abs}
use Rattle.model.proofs.Strategies.{pure_plan, pure_fits, pure_prefix}
use Rattle.model.proofs.BestResponses.{response_pure, response_earns}
use Rattle.model.proofs.Earnings.{bases_agree, own_prefix}
use Rattle.model.proofs.Flow.{mass, flow}
use Rattle.model.proofs.WorthBounds.{leaf_size, leaf_sizes, partial_bound, leaves_bound}

-- a denominator within what contracts allow
pub record PlanLimits (x : RealizationPlan) : Type 0 where
  pub denominator : x.denominator ≤ weight_limit

-- every game file keeps them
pub game_limits : (bytes : List ℕ) → GameLimits (game_of bytes)
unfolding game_of
game_limits bytes = record {
  nodes = omega (arith, field_fits bytes 4 12);
  sets = omega (arith, field_fits bytes 16 12);
  root = omega (arith, field_fits bytes 28 12);
  weights = λ n. omega (arith, field_fits bytes (node_at bytes n + 20) 12);
  payoffs = λ p n. omega (arith, signed_abs 16 (field bytes (node_at bytes n + payoff_at p) 16) (field_fits bytes (node_at bytes n + payoff_at p) 16));
}

-- and every plan file
pub plan_limits : (g : Game) (bytes : List ℕ) (p : Player) → PlanLimits (plan_pair_of g bytes p)
unfolding plan_pair_of
plan_limits g bytes p = record { denominator = go p }
  where
    go : (p : Player) → (plan_pair_of g bytes p).denominator ≤ weight_limit
    go one = omega (arith, field_fits bytes 4 12)
    go two = omega (arith, field_fits bytes 16 12)

-- p's plan x and the other's plan y, as a pair
abbrev paired : Player → (x y : RealizationPlan) → PlanPair
paired one x y one = x
paired one x y two = y
paired two x y one = y
paired two x y two = x

paired_fits : (g : Game) (p : Player) (x y : RealizationPlan) → Fits g p x → Fits g (other p) y → (r : Player) → Fits g r (paired p x y r)
paired_fits g one x y F G one = F
paired_fits g one x y F G two = G
paired_fits g two x y F G one = G
paired_fits g two x y F G two = F

module _ (g : Game) (R : GameRules g) (L : GameLimits g) (p : Player) (y : RealizationPlan) (G : Fits g (other p) y) where
  module _ (x : RealizationPlan) (F : Fits g p x) where
    W : ℕ → ℕ
    W = mass g R (paired p x y) (paired_fits g p x y F G)

    -- a node's mass, with p's weight first
    mass_is : (n : ℕ) → W n ≡ weight_at g x p n * (g.weight n * weight_at g y (other p) n)
    unfolding mass W
    mass_is n = go p
      where
        go : (p : Player) → g.weight n * (weight_at g (paired p x y one) one n * weight_at g (paired p x y two) two n) ≡ weight_at g x p n * (g.weight n * weight_at g y (other p) n)
        go one = NatL.mul_left_comm (g.weight n) (weight_at g x one n) (weight_at g y two n)
        go two = sym (NatL.mul_assoc (g.weight n) (weight_at g y one n) (weight_at g x two n)) ∙ NatL.mul_comm (g.weight n * weight_at g y one n) (weight_at g x two n)

    -- the root's
    root_is : g.root_weight * ((paired p x y one).denominator * (paired p x y two).denominator) ≡ x.denominator * against_base g y
    unfolding against_base
    root_is = go p
      where
        go : (p : Player) → g.root_weight * ((paired p x y one).denominator * (paired p x y two).denominator) ≡ x.denominator * (g.root_weight * y.denominator)
        go one = NatL.mul_left_comm g.root_weight x.denominator y.denominator
        go two = sym (NatL.mul_assoc g.root_weight y.denominator x.denominator) ∙ NatL.mul_comm (g.root_weight * y.denominator) x.denominator

    -- a leaf counts at most 32,768 times its mass
    term_bound : (n : ℕ) → only (is_leaf g n) (nat_abs (pos (weight_at g x p n) *ℤ leaf_term g p y n)) ≤ 32768 * only (is_leaf g n) (W n)
    unfolding leaf_term
    term_bound n =
        let w = g.weight n * weight_at g y (other p) n in
        let v = weight_at g x p n in
        let z = g.payoff p n in
        let a : nat_abs (pos v *ℤ (pos w *ℤ z)) ≡ nat_abs z * (v * w) = abs_scale v (pos w *ℤ z) ∙ ap (λ (k : ℕ). v * k) (abs_scale w z) ∙ sym (NatL.mul_assoc v w (nat_abs z)) ∙ NatL.mul_comm (v * w) (nat_abs z) in
        subst (λ (k : ℕ). only (is_leaf g n) (nat_abs (pos v *ℤ (pos w *ℤ z))) ≤ k) (sym (only_scale (is_leaf g n) 32768 (W n)))
        (only_le (is_leaf g n) _ _ (λ t. omega (arith, a, NatL.mul-le-mul_right (v * w) (L.payoffs p n), mass_is n)))

    -- every prefix of what a plan that fits earns
    pub earned_bound : (k : ℕ) → k ≤ g.nodes → nat_abs (sum_where k (is_leaf g) (λ n. pos (weight_at g x p n) *ℤ leaf_term g p y n)) ≤ 32768 * (x.denominator * against_base g y)
    unfolding W
    earned_bound k l =
        let N = g.nodes in
        let f : ℕ → ℤ = λ n. pos (weight_at g x p n) *ℤ leaf_term g p y n in
        let a = abs_where k (is_leaf g) f in
        let c = count_less N k (λ n. only (is_leaf g n) (nat_abs (f n))) l in
        let d = count_le N (λ n. only (is_leaf g n) (nat_abs (f n))) (λ n. 32768 * only (is_leaf g n) (W n)) (λ n v. term_bound n) in
        let e : total_to N (λ n. 32768 * only (is_leaf g n) (W n)) ≡ 32768 * (x.denominator * against_base g y) =
        sym (count_scale N 32768 (λ n. only (is_leaf g n) (W n))) ∙ ap (λ (k : ℕ). 32768 * k) (flow g R (paired p x y) (paired_fits g p x y F G) ∙ root_is) in
        omega (arith, a, c, d, e)

  -- every prefix of what a pure strategy earns
  pub pure_bound : (σ : PureStrategy) → IsPure g p σ → (k : ℕ) → k ≤ g.nodes → nat_abs (sum_where k (λ n. is_leaf g n && consistent σ (own_sequence_of g p n)) (leaf_term g p y)) ≤ 32768 * against_base g y
  unfolding pure_plan
  pure_bound σ legal k l =
      let b = subst (λ (z : ℤ). nat_abs z ≤ 32768 * (1 * against_base g y)) (sym (pure_prefix g R p y σ k l)) (earned_bound (pure_plan g σ) (pure_fits g R p σ legal) k l) in
      omega (arith, b)

  -- the best value
  pub best_bound : nat_abs (best_count g p y) ≤ 32768 * against_base g y
  unfolding pure_count
  best_bound =
      subst (λ (z : ℤ). nat_abs z ≤ 32768 * against_base g y) (response_earns g p y R)
      (pure_bound (listed (best_response g p y)) (response_pure g p y R) g.nodes (omega arith))

-- all leaves together count at most this much
leaf_sizes_bound : (g : Game) → GameLimits g → (p : Player) (y : RealizationPlan) → ((n : ℕ) → n < g.nodes → weight_at g y (other p) n ≤ weight_limit) → leaf_sizes g p y ≤ count_limit * (count_limit * weight_limit * 32768)
unfolding leaf_sizes leaf_size leaf_term weight_at
leaf_sizes_bound g L p y small =
    let B = count_limit * weight_limit * 32768 in
    omega (arith, count_bound g.nodes B (leaf_size g p y) (λ n l. one_leaf n l (is_leaf g n)), NatL.mul-le-mul_right B L.nodes)
  where
    one_leaf : (n : ℕ) → n < g.nodes → (b : Bool) → only b (nat_abs (pos (g.weight n * sequence_weight y (own_sequence_of g (other p) n)) *ℤ g.payoff p n)) ≤ count_limit * weight_limit * 32768
    one_leaf n l true =
        omega (arith, abs_scale (g.weight n * sequence_weight y (own_sequence_of g (other p) n)) (g.payoff p n), NatL.mul-le-mul (NatL.mul-le-mul (L.weights n) (small n l)) (L.payoffs p n))
    one_leaf n l false = omega arith

-- every prefix of an entry of the payoff table
table_bound : (g : Game) → GameLimits g → (p : Player) (s t k : ℕ) → k ≤ g.nodes → nat_abs (sum_where k (stands_at g s t) (weighted_payoff g p)) ≤ count_limit * (count_limit * 32768)
unfolding weighted_payoff
table_bound g L p s t k l =
    let B = count_limit * 32768 in
    let f : ℕ → ℕ = λ n. only (stands_at g s t n) (nat_abs (weighted_payoff g p n)) in
    let a = abs_where k (stands_at g s t) (weighted_payoff g p) in
    let c = count_bound k B f (λ n v. omega (arith, only_most (stands_at g s t n) (nat_abs (weighted_payoff g p n)), abs_scale (g.weight n) (g.payoff p n), NatL.mul-le-mul (L.weights n) (L.payoffs p n))) in
    let few : k ≤ count_limit = omega (arith, L.nodes) in
    omega (arith, a, c, NatL.mul-le-mul_right B few)

-- so each stays within an i64
pub table_fits : (g : Game) → GameLimits g → (p : Player) (s t k : ℕ) → k ≤ g.nodes → SFits w64 (sum_where k (stands_at g s t) (weighted_payoff g p))
table_fits g L p s t k l = sfits_abs w64 _ (omega (arith, table_bound g L p s t k l))

-- Every sum that is computed for a best response of p's against y stays within an i64.
pub record ResponseBudget (g : Game) (p : Player) (y : RealizationPlan) : Type 0 where
  pub leaves : (s : Sequence) (k : ℕ) → k ≤ g.nodes → SFits w64 (sum_where k (λ n. is_leaf g n && same (own_sequence_of g p n) s) (leaf_term g p y))
  pub partial : (f : ℕ) (s : Sequence) (k : ℕ) → k ≤ g.sets → SFits w64 (leaves_worth g p y s +ℤ sum_where k (leads_to g p s) (greatest_worth g (worth_in g p y f)))

-- for weights within what contracts allow
pub response_budget : (g : Game) → GameRules g → GameLimits g → (p : Player) (y : RealizationPlan) → ((n : ℕ) → n < g.nodes → weight_at g y (other p) n ≤ weight_limit) → ResponseBudget g p y
response_budget g R L p y small =
    let sizes = leaf_sizes_bound g L p y small in
    record {
      leaves = λ s k l. sfits_abs w64 _ (omega (arith, leaves_bound g p y s k l, sizes));
      partial = λ f s k l. sfits_abs w64 _ (omega (arith, partial_bound g p y (λ h v. (R.set_moves h v).0) f s k l, sizes));
    }

-- Every sum that is computed for a pair of plans, best responses apart, stays within an i64.
pub record Budget (g : Game) (q : PlanPair) : Type 0 where
  pub value : (p : Player) (k : ℕ) → k ≤ g.nodes → SFits w64 (sum_where k (is_leaf g) (value_term g q p))
  pub scaled : (p : Player) → SFits w64 (scaled_best g q p)
  pub gains : (p : Player) → SFits w64 (gain g q p)

module _ (g : Game) (R : GameRules g) (L : GameLimits g) (q : PlanPair) (F : (p : Player) → Fits g p (q p)) (M : (p : Player) → PlanLimits (q p)) where
  -- D0 × D1 × D2
  pub base_bound : value_base g q ≤ count_limit * (weight_limit * weight_limit)
  unfolding value_base
  base_bound = NatL.mul-le-mul L.root (NatL.mul-le-mul (M one).denominator (M two).denominator)

  -- every prefix of the value's sum
  value_bound : (p : Player) (k : ℕ) → k ≤ g.nodes → nat_abs (sum_where k (is_leaf g) (value_term g q p)) ≤ 32768 * value_base g q
  value_bound p k l =
      subst (λ (z : ℤ). nat_abs z ≤ 32768 * value_base g q) (own_prefix g q p k)
      (subst (λ (b : ℕ). nat_abs (sum_where k (is_leaf g) (λ n. pos (weight_at g (q p) p n) *ℤ leaf_term g p (q (other p)) n)) ≤ 32768 * b) (bases_agree g q p) (earned_bound g R L p (q (other p)) (F (other p)) (q p) (F p) k l))

  -- the best value as the verdict compares it
  scaled_bound : (p : Player) → nat_abs (scaled_best g q p) ≤ 32768 * value_base g q
  unfolding scaled_best
  scaled_bound p =
      let d = (q p).denominator in
      let y = q (other p) in
      omega (arith, abs_scale d (best_count g p y), NatL.mul-le-mul_left d (best_bound g R L p y (F (other p))), NatL.mul_left_comm d 32768 (against_base g y), ap (λ (k : ℕ). 32768 * k) (bases_agree g q p))

  pub gain_bound : (p : Player) → nat_abs (gain g q p) ≤ 2 * (32768 * value_base g q)
  unfolding gain value_count
  gain_bound p = omega (arith, abs_sub (scaled_best g q p) (value_count g q p), scaled_bound p, value_bound p g.nodes (omega arith))

  pub budget : Budget g q
  budget = record {
    value = λ p k l. sfits_abs w64 _ (omega (arith, value_bound p k l, base_bound));
    scaled = λ p. sfits_abs w64 _ (omega (arith, scaled_bound p, base_bound));
    gains = λ p. sfits_abs w64 _ (omega (arith, gain_bound p, base_bound));
  }
