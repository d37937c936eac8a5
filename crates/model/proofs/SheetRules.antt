-- Each check of a sheet decides its rule, and fails exactly where its refusal applies in its own words.
use Prim.Native.Nat.{ℕ, zero, suc, ◌+◌, ◌*◌, ◌/◌, ◌≤◌, ◌<◌}
use mathlib.Core.Path.{◌≡◌}
use mathlib.Core.Logic.{◌⊎◌}
use mathlib.Core.List.{List}
use native.Mathlib.Omega.{arith}
use native.Mathlib.Nat as NatL
use native.Mathlib.Decide.{dec_lt}
use lib.Dec.{T, ltb, leb}
use lib.ListN.{length}
use Rattle.algebra.specs.Bounded.{total_to}
use Rattle.algebra.proofs.Totals.{count_suc, count_zero, count_term}
use Rattle.model.specs.Bits.{bit}
use Rattle.model.specs.Game.{Game, Player, one, two}
use Rattle.model.specs.Sequences.{leading}
use Rattle.model.specs.Plan.{plan_moves}
use Rattle.model.specs.Sheet.{Odds, sheet_length, sheet_well_formed, odds_total, no_zero_odds, Serves, smallest_d, odds_given, smallest_in_limit}
use Rattle.model.specs.Rules.{GameRules}
use Rattle.model.specs.Calls.PlanFromSheet.{LacksOdds, NoneServes}
use Rattle.model.proofs.Decisions.{Decides, Fails, itself_iff, eqb_iff, ltb_iff, leb_iff, same_iff, and_iff, implies_iff, all_iff, same_fails, eqb_fails, ltb_fails, leb_fails, and_fails, implies_fails, all_fails}
use Rattle.model.proofs.PlanRules.{each_player, rest_iff, rest_fails}
use Rattle.model.proofs.Reasons.{either_player, which_player}
use Rattle.model.proofs.Sheets.{smallest_positive, smallest_serves, smallest_least, limit_iff}

module _ (g : Game) (width : ℕ) (bytes : List ℕ) where
  -- where the filling begins
  abbrev end : ℕ
  end = width * plan_moves g

  -- check 19
  pub formed_iff : Decides (sheet_well_formed g width bytes) ((length bytes ≡ (end + 7) / 8) × ((i : ℕ) → end ≤ i → i < 8 * length bytes → bit bytes i ≡ 0))
  unfolding sheet_well_formed sheet_length
  formed_iff = and_iff (eqb_iff (length bytes) ((end + 7) / 8)) (rest_iff bytes end)

  pub formed_fails : Fails (sheet_well_formed g width bytes) (¬ (length bytes ≡ (end + 7) / 8) ⊎ ((i : ℕ) × (end ≤ i) × (i < 8 * length bytes) × ¬ (bit bytes i ≡ 0)))
  unfolding sheet_well_formed sheet_length
  formed_fails = and_fails (eqb_fails (length bytes) ((end + 7) / 8)) (rest_fails bytes end)

-- a sum above 0 has a term above 0
term_some : (n : ℕ) (f : ℕ → ℕ) → 0 < total_to n f → (i : ℕ) × (i < n) × (0 < f i)
term_some zero f l = let e = count_zero 0 f (λ i u. absurd (omega arith)) in absurd (omega arith)
term_some (suc n) f l =
    elim (dec_lt 0 (f n)) [
      | yes u ↦ (n, omega arith, u)
      | no u ↦ let (i, b, some) = term_some n f (omega (arith, count_suc n f)) in (i, omega arith, some)
    ]

module _ (g : Game) (odds : Odds) where
  -- some move of set h has odds
  total_iff : (h : ℕ) → Decides (ltb 0 (odds_total g odds h)) ((m : ℕ) × (m < g.set_moves h) × (0 < odds h m))
  unfolding odds_total
  total_iff h =
      same_iff (term_some (g.set_moves h) (odds h)) (λ r. let (m, l, some) = r in omega (arith, count_term (g.set_moves h) (odds h) m l))
      (ltb_iff 0 (odds_total g odds h))

  -- none has
  total_fails : (h : ℕ) → Fails (ltb 0 (odds_total g odds h)) ((m : ℕ) → m < g.set_moves h → odds h m ≡ 0)
  unfolding odds_total
  total_fails h =
      same_fails (λ z m l. omega (arith, count_term (g.set_moves h) (odds h) m l)) (λ z. omega (arith, count_zero (g.set_moves h) (odds h) z))
      (ltb_fails 0 (odds_total g odds h))

  -- check 20
  pub given_iff : Decides (odds_given g odds) ((h : ℕ) → h < g.sets → T (no_zero_odds g odds (leading g h)) → (m : ℕ) × (m < g.set_moves h) × (0 < odds h m))
  unfolding odds_given
  given_iff = all_iff (λ h l. implies_iff (itself_iff (no_zero_odds g odds (leading g h))) (total_iff h))

  pub given_fails : Fails (odds_given g odds) ((h : ℕ) × LacksOdds g odds h)
  unfolding odds_given
  given_fails =
      same_fails (λ r. let (h, l, (arrives, zeros)) = r in (h, (l, arrives, zeros))) (λ r. let (h, (l, arrives, zeros)) = r in (h, l, (arrives, zeros)))
      (all_fails g.sets (λ h l. implies_fails (itself_iff (no_zero_odds g odds (leading g h))) (total_fails h)))

  module _ (limit : ℕ) where
    -- check 21: each player's smallest D is in the limit,
    pub limit_each : Decides (smallest_in_limit g odds limit) ((p : Player) → smallest_d g odds p ≤ limit)
    unfolding smallest_in_limit
    limit_each = same_iff (each_player (λ p. smallest_d g odds p ≤ limit)) (λ h. (h one, h two)) (and_iff (leb_iff (smallest_d g odds one) limit) (leb_iff (smallest_d g odds two) limit))

    -- and that is where some D up to the limit serves each
    pub limit_exact : GameRules g → Decides (smallest_in_limit g odds limit) ((p : Player) → (d : ℕ) × (0 < d) × (d ≤ limit) × Serves g odds p d)
    limit_exact R =
        same_iff (λ l p. (smallest_d g odds p, smallest_positive g odds R p, l p, smallest_serves g odds R p)) (λ served p. let (d, some, most, serves) = served p in NatL.le_trans (smallest_least g odds R p d some serves) most)
        limit_each

    pub limit_fails : GameRules g → Fails (smallest_in_limit g odds limit) ((p : Player) × NoneServes g odds limit p)
    unfolding smallest_in_limit
    limit_fails R =
        let fails : (p : Player) → Fails (leb (smallest_d g odds p) limit) (NoneServes g odds limit p) =
        λ p. let e = limit_iff g odds R p limit in same_fails e.0 e.1 (leb_fails (smallest_d g odds p) limit) in
        same_fails (either_player (NoneServes g odds limit)) (λ r. which_player (NoneServes g odds limit) r.0 r.1) (and_fails (fails one) (fails two))
