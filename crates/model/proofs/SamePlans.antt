-- What values, best responses and the verdict take from a plan is its weights at the own sequences to the nodes.
use Prim.Native.Nat.{ℕ, zero, suc, ◌<◌}
use mathlib.Core.Path.{◌≡◌, refl, ap}
use mathlib.Core.Bool.{cond}
use mathlib.Core.List.{[], ◌∷◌}
use Rattle.algebra.specs.Bounded.{sum_where}
use Rattle.algebra.proofs.Searches.{first_to_cong}
use Rattle.algebra.proofs.Sums.{where_cong}
use Rattle.algebra.proofs.Lists.{join_to_cong}
use Rattle.model.specs.Game.{Game, Player, one, two, other, owns, is_leaf}
use Rattle.model.specs.Sequences.{Sequence, extended, leading}
use Rattle.model.specs.Plan.{RealizationPlan, PlanPair, weight_at}
use Rattle.model.specs.Earnings.{leaf_term, value_term, value_count}
use Rattle.model.specs.BestResponse.{leads_to, greatest_worth, leaves_worth, worth_in, worth, set_worth, best_count, best_move, best_at, best_response}
use Rattle.model.specs.Verdict.{scaled_best, gain, deviation_of, verdict}
use Rattle.model.proofs.Worths.{greatest_cong}

-- two plans of p's give his own sequence to each node the same weight
abbrev pub SameWeights : Game → Player → (x y : RealizationPlan) → Type 0
SameWeights g p x y = (n : ℕ) → n < g.nodes → weight_at g x p n ≡ weight_at g y p n

-- Player p against two plans of the other player.
module _ (g : Game) (p : Player) (y z : RealizationPlan) (same : SameWeights g (other p) y z) where
  -- the term of a leaf
  pub leaf_term_agrees : (n : ℕ) → n < g.nodes → leaf_term g p y n ≡ leaf_term g p z n
  unfolding leaf_term
  leaf_term_agrees n l = rw (same n l)

  -- the leaves at a sequence
  pub leaves_worth_agrees : (s : Sequence) → leaves_worth g p y s ≡ leaves_worth g p z s
  unfolding leaves_worth
  leaves_worth_agrees s = where_cong g.nodes _ (leaf_term g p y) (leaf_term g p z) (λ n l t. leaf_term_agrees n l)

  -- a sequence, up to as many moves on
  pub worth_in_agrees : (steps : ℕ) (s : Sequence) → worth_in g p y steps s ≡ worth_in g p z steps s
  unfolding worth_in
  worth_in_agrees zero s = refl
  worth_in_agrees (suc steps) s =
      let sets : sum_where g.sets (leads_to g p s) (greatest_worth g (worth_in g p y steps)) ≡ sum_where g.sets (leads_to g p s) (greatest_worth g (worth_in g p z steps)) =
      where_cong g.sets (leads_to g p s) _ _ (λ h l t. greatest_cong g (worth_in g p y steps) (worth_in g p z steps) h (λ m. worth_in_agrees steps (extended (leading g h) h m))) in
      rw (leaves_worth_agrees s, sets)

  -- a sequence
  pub worth_agrees : (s : Sequence) → worth g p y s ≡ worth g p z s
  unfolding worth
  worth_agrees s = worth_in_agrees g.nodes s

  -- a set
  pub set_worth_agrees : (h : ℕ) → set_worth g p y h ≡ set_worth g p z h
  unfolding set_worth
  set_worth_agrees h = greatest_cong g (worth g p y) (worth g p z) h (λ m. worth_agrees (extended (leading g h) h m))

  -- the best value, counted over D0 × the other's D
  pub best_count_agrees : best_count g p y ≡ best_count g p z
  unfolding best_count
  best_count_agrees = worth_agrees []

  -- the lowest-numbered worthiest move of a set
  pub best_move_agrees : (h : ℕ) → best_move g p y h ≡ best_move g p z h
  unfolding best_move
  best_move_agrees h = first_to_cong (g.set_moves h) _ _ (λ m l. rw (set_worth_agrees h, worth_agrees (extended (leading g h) h m)))

  -- the strategy that is shown
  pub best_response_agrees : best_response g p y ≡ best_response g p z
  unfolding best_response best_at
  best_response_agrees = join_to_cong g.sets _ _ (λ h l. ap (λ (m : ℕ). cond (owns g p h) ((h, m) ∷ []) []) (best_move_agrees h))

-- Two plan pairs.
module _ (g : Game) (q r : PlanPair) (same : (p : Player) → SameWeights g p (q p) (r p)) where
  -- the term of a leaf
  pub value_term_agrees : (p : Player) (n : ℕ) → n < g.nodes → value_term g q p n ≡ value_term g r p n
  unfolding value_term
  value_term_agrees p n l = rw (same one n l, same two n l)

  -- a player's value, counted over D0 × D1 × D2
  pub value_count_agrees : (p : Player) → value_count g q p ≡ value_count g r p
  unfolding value_count
  value_count_agrees p = where_cong g.nodes (is_leaf g) (value_term g q p) (value_term g r p) (λ n l t. value_term_agrees p n l)

  module _ (denominators : (p : Player) → (q p).denominator ≡ (r p).denominator) where
    -- a player's best value, counted over D0 × D1 × D2
    pub scaled_best_agrees : (p : Player) → scaled_best g q p ≡ scaled_best g r p
    unfolding scaled_best
    scaled_best_agrees p = rw (denominators p, best_count_agrees g p (q (other p)) (r (other p)) (same (other p)))

    -- what he gains
    pub gain_agrees : (p : Player) → gain g q p ≡ gain g r p
    unfolding gain
    gain_agrees p = rw (scaled_best_agrees p, value_count_agrees p)

    -- how he does
    pub deviation_agrees : (p : Player) → deviation_of g q p ≡ deviation_of g r p
    unfolding deviation_of
    deviation_agrees p = rw (gain_agrees p, best_response_agrees g p (q (other p)) (r (other p)) (same (other p)))

    -- so the verdict is the same
    pub verdict_agrees : verdict g q ≡ verdict g r
    unfolding verdict
    verdict_agrees = rw (gain_agrees one, gain_agrees two, deviation_agrees one, deviation_agrees two)
