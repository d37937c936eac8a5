-- A player's own plan earns his value; fractions and their bases.
use Prim.Native.Nat.{ℕ, ◌*◌, ◌<◌}
use mathlib.Core.Path.{◌≡◌, sym, ap, ◌∙◌, subst}
use native.Mathlib.Nat as NatL
use lib.IntN.{ℤ, pos, ◌*ℤ◌}
use lib.Signed.{◌≤ℤ◌}
use Rattle.algebra.specs.Bounded.{sum_where}
use Rattle.algebra.proofs.Integers.{scale_mono, scale_scale, scale_cancel}
use Rattle.algebra.proofs.Sums.{where_cong}
use Rattle.model.specs.Game.{Game, Player, one, two, other, is_leaf}
use Rattle.model.specs.Plan.{PlanPair, weight_at}
use Rattle.model.specs.Earnings.{leaf_term, against_base, plan_count, plan_earnings, value_base, value_term, value_count, value}

-- Fractions over the bases that occur: E, and d times E.
-- what is at most a count once multiplied by d is at most it as a fraction
pub fraction_at_most : (d E : ℕ) (a c : ℤ) → (pos d *ℤ a) ≤ℤ c → (pos (d * E) *ℤ a) ≤ℤ (pos E *ℤ c)
fraction_at_most d E a c h =
    subst (λ (z : ℤ). z ≤ℤ (pos E *ℤ c)) (scale_scale E d a ∙ ap (λ (k : ℕ). pos k *ℤ a) (NatL.mul_comm E d)) (scale_mono E h)

-- and the other way round, where E is above 0
pub fraction_cancel : (d E : ℕ) (a c : ℤ) → 0 < E → (pos (d * E) *ℤ a) ≤ℤ (pos E *ℤ c) → (pos d *ℤ a) ≤ℤ c
fraction_cancel d E a c z h =
    scale_cancel E (pos d *ℤ a) c z
    (subst (λ (z : ℤ). z ≤ℤ (pos E *ℤ c)) (sym (scale_scale E d a ∙ ap (λ (k : ℕ). pos k *ℤ a) (NatL.mul_comm E d))) h)

-- a mixture that counts at most t times as much is at most as much
pub mixture_at_most : (t E : ℕ) (m a : ℤ) → m ≤ℤ (pos t *ℤ a) → (pos E *ℤ m) ≤ℤ (pos (t * E) *ℤ a)
mixture_at_most t E m a h =
    subst (λ (z : ℤ). (pos E *ℤ m) ≤ℤ z) (scale_scale E t a ∙ ap (λ (k : ℕ). pos k *ℤ a) (NatL.mul_comm E t)) (scale_mono E h)

module _ (g : Game) (q : PlanPair) where
  -- p's denominator × D0 × the other's is D0 × D1 × D2
  pub bases_agree : (p : Player) → (q p).denominator * against_base g (q (other p)) ≡ value_base g q
  unfolding against_base value_base
  bases_agree one = NatL.mul_left_comm (q one).denominator g.root_weight (q two).denominator
  bases_agree two = NatL.mul_comm (q two).denominator (g.root_weight * (q one).denominator) ∙ NatL.mul_assoc g.root_weight (q one).denominator (q two).denominator

  -- a leaf counts the same in the value and in what the own plan earns
  pub own_term : (p : Player) (n : ℕ) → pos (weight_at g (q p) p n) *ℤ leaf_term g p (q (other p)) n ≡ value_term g q p n
  unfolding leaf_term value_term
  own_term p n =
      scale_scale (weight_at g (q p) p n) (g.weight n * weight_at g (q (other p)) (other p) n) (g.payoff p n)
      ∙ ap (λ (k : ℕ). pos k *ℤ g.payoff p n) (go p)
    where
      go : (p : Player) → weight_at g (q p) p n * (g.weight n * weight_at g (q (other p)) (other p) n) ≡ g.weight n * weight_at g (q one) one n * weight_at g (q two) two n
      go one = NatL.mul_left_comm (weight_at g (q one) one n) (g.weight n) (weight_at g (q two) two n) ∙ sym (NatL.mul_assoc (g.weight n) (weight_at g (q one) one n) (weight_at g (q two) two n))
      go two = NatL.mul_comm (weight_at g (q two) two n) (g.weight n * weight_at g (q one) one n)

  -- over any number of nodes
  pub own_prefix : (p : Player) (k : ℕ) → sum_where k (is_leaf g) (λ n. pos (weight_at g (q p) p n) *ℤ leaf_term g p (q (other p)) n) ≡ sum_where k (is_leaf g) (value_term g q p)
  own_prefix p k = where_cong k (is_leaf g) _ _ (λ n l t. own_term p n)

  -- the own plan's count is the value's
  pub own_count : (p : Player) → plan_count g p (q (other p)) (q p) ≡ value_count g q p
  unfolding plan_count value_count
  own_count p = own_prefix p g.nodes

  -- "A player's own plan earns his value."
  pub own_plan : (p : Player) → plan_earnings g p (q (other p)) (q p) ≡ value g q p
  unfolding plan_earnings value
  own_plan p = λ i. record { numerator = own_count p i; denominator = bases_agree p i }
