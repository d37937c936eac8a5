-- Each check of a plan file decides a rule of document 01.
use Prim.Native.Nat.{ℕ, ◌+◌, ◌*◌, ◌-◌, ◌/◌, ◌≤◌, ◌<◌}
use mathlib.Core.Path.{◌≡◌}
use mathlib.Core.List.{List}
use native.Mathlib.Omega.{arith}
use lib.Dec.{T, eqb}
use lib.ListN.{length}
use Rattle.algebra.specs.Bounded.{total_to}
use Rattle.model.specs.Bits.{bit, field}
use Rattle.model.specs.Game.{Game, Player, one, two, owns}
use Rattle.model.specs.Sequences.{leading}
use Rattle.model.specs.Plan.{RealizationPlan, PlanPair, sequence_weight, balanced, fits, pair_fits_of, plan_moves, weight_bit, plan_pair_of}
use Rattle.model.specs.PlanChecks.{plan_length, plan_has_length, filling, plan_well_formed}
use Rattle.model.proofs.Bits.{field_zero, field_some}
use Rattle.model.proofs.Decisions.{Decides, Fails, itself_iff, eqb_iff, ltb_iff, same_iff, and_iff, implies_iff, all_iff, same_fails, eqb_fails}

-- what holds of both players holds of each
pub each_player : (P : Player → Type 0) → P one × P two → (p : Player) → P p
each_player P h one = h.0
each_player P h two = h.1

-- What stands in a file from a bit on: it is 0 exactly where each of its bits is,
pub rest_iff : (bytes : List ℕ) (from : ℕ) → Decides (eqb (field bytes from (8 * length bytes - from)) 0) ((i : ℕ) → from ≤ i → i < 8 * length bytes → bit bytes i ≡ 0)
rest_iff bytes from =
    let width = 8 * length bytes - from in
    let zeros = field_zero bytes from width in
    same_iff (λ e i l m. zeros.0 e i l (omega arith)) (λ h. zeros.1 (λ i l m. h i l (omega arith))) (eqb_iff (field bytes from width) 0)

-- and is not where one of them is not.
pub rest_fails : (bytes : List ℕ) (from : ℕ) → Fails (eqb (field bytes from (8 * length bytes - from)) 0) ((i : ℕ) × (from ≤ i) × (i < 8 * length bytes) × ¬ (bit bytes i ≡ 0))
rest_fails bytes from =
    let width = 8 * length bytes - from in
    let some = field_some bytes from width in
    same_fails (λ n. let (i, l, m, d) = some.0 n in (i, l, omega arith, d)) (λ r. let (i, l, m, d) = r in some.1 (i, l, omega arith, d)) (eqb_fails (field bytes from width) 0)

module _ (g : Game) where
  -- check 14
  pub plan_length_iff : (bytes : List ℕ) → Decides (plan_has_length g bytes) (length bytes ≡ 4 + (12 * plan_moves g + 7) / 8)
  unfolding plan_has_length plan_length
  plan_length_iff bytes = eqb_iff (length bytes) (4 + (12 * plan_moves g + 7) / 8)

  -- the filling is 0 exactly where each of its bits is
  filling_iff : (bytes : List ℕ) → Decides (eqb (filling g bytes) 0) ((i : ℕ) → 32 + 12 * plan_moves g ≤ i → i < 8 * length bytes → bit bytes i ≡ 0)
  unfolding filling weight_bit
  filling_iff bytes = rest_iff bytes (32 + 12 * plan_moves g)

  -- check 15
  pub well_formed_iff : (bytes : List ℕ) → Decides (plan_well_formed g bytes) ((field bytes 0 4 ≡ 1) × ((p : Player) → 0 < (plan_pair_of g bytes p).denominator) × (field bytes 28 4 ≡ 0) × ((i : ℕ) → 32 + 12 * plan_moves g ≤ i → i < 8 * length bytes → bit bytes i ≡ 0))
  unfolding plan_well_formed plan_pair_of
  well_formed_iff bytes =
      same_iff
      (λ h. (h.0.0.0.0, each_player (λ p. 0 < (plan_pair_of g bytes p).denominator) (h.0.0.0.1, h.0.0.1), h.0.1, h.1))
      (λ h. ((((h.0, h.1 one), h.1 two), h.2), h.3))
      (and_iff (and_iff (and_iff (and_iff (eqb_iff (field bytes 0 4) 1) (ltb_iff 0 (field bytes 4 12))) (ltb_iff 0 (field bytes 16 12))) (eqb_iff (field bytes 28 4) 0)) (filling_iff bytes))

  -- p's plan fits
  abbrev Fit : Player → RealizationPlan → Type 0
  Fit p x = (h : ℕ) → h < g.sets → T (owns g p h) → total_to (g.set_moves h) (x.move_weight h) ≡ sequence_weight x (leading g h)

  -- its test
  fits_iff : (p : Player) (x : RealizationPlan) → Decides (fits g p x) (Fit p x)
  unfolding fits balanced
  fits_iff p x = all_iff (λ h l. implies_iff (itself_iff (owns g p h)) (eqb_iff (total_to (g.set_moves h) (x.move_weight h)) (sequence_weight x (leading g h))))

  -- check 16
  pub pair_fits_iff : (q : PlanPair) → Decides (pair_fits_of g q) ((p : Player) → Fit p (q p))
  unfolding pair_fits_of
  pair_fits_iff q = same_iff (each_player (λ p. Fit p (q p))) (λ h. (h one, h two)) (and_iff (fits_iff one (q one)) (fits_iff two (q two)))
