-- Document 02, W-201: play sheets. "Players think in odds at each set, not in sequence weights": a sheet holds a behavior strategy of each
-- player, its probabilities at a set as whole numbers in proportion.
use Rattle.std.specs.Prelude.{ℕ, ◌+◌, ◌*◌, ◌-◌, ◌/◌, ◌≤◌, ◌<◌, Bool, true, ◌&&◌, cond, List, [], ◌∷◌, length, T, eqb, ltb, leb, pos}
use Rattle.std.specs.Int.{◌∣◌}
use Rattle.algebra.specs.Bounded.{total_to, all_to, implies}
use Rattle.algebra.specs.Divisors.{gcd, gcd_to, lcm_to}
use Rattle.model.specs.Bits.{field, run_bits, pack}
use Rattle.model.specs.Game.{Game, Player, one, two, owns}
use Rattle.model.specs.Sequences.{Sequence, extended, leading}
use Rattle.model.specs.Plan.{RealizationPlan, PlanPair, sequence_weight, plan_moves, weight_place}
use Rattle.model.specs.PlanOrder.{in_plan_order}
use Rattle.model.specs.Earnings.{Fraction, ◌over◌}

-- "a set's weights are the odds of its moves": the odds of move m at set h
abbrev pub Odds : Type 0
Odds = (h m : ℕ) → ℕ

-- m is a move of p's set h
pub record MoveOf (g : Game) (p : Player) (h m : ℕ) : Type 0 where
  pub set : h < g.sets
  pub owned : T (owns g p h)
  pub move : m < g.set_moves h

-- Sheets of `width` bits a move.
module _ (g : Game) (width : ℕ) where
  -- "12 bits per move in plan order, filled to a byte with zeros"
  unfoldable pub sheet_length : ℕ
  sheet_length = (width * plan_moves g + 7) / 8

  -- the odds that a sheet holds
  unfoldable pub odds_of : List ℕ → Odds
  odds_of bytes h m = field bytes (width * weight_place g (g.set_player h) h m) width

  -- the sheet that holds these odds
  unfoldable pub sheet_bytes : Odds → List ℕ
  sheet_bytes odds = pack (run_bits width (in_plan_order g odds))

  -- 19: "wrong length or filling"
  unfoldable pub sheet_well_formed : List ℕ → Bool
  sheet_well_formed bytes =
      eqb (length bytes) sheet_length
      && eqb (field bytes (width * plan_moves g) (8 * length bytes - width * plan_moves g)) 0

module _ (g : Game) (odds : Odds) where
  -- the odds of the moves of set h, added up
  unfoldable pub odds_total : ℕ → ℕ
  odds_total h = total_to (g.set_moves h) (odds h)

  -- the sequence "has no zero odds"
  unfoldable pub no_zero_odds : Sequence → Bool
  no_zero_odds [] = true
  no_zero_odds (x ∷ s) = ltb 0 (odds x.0 x.1) && no_zero_odds s

  -- the odds of the moves of a sequence, multiplied
  unfoldable pub odds_along : Sequence → ℕ
  odds_along [] = 1
  odds_along (x ∷ s) = odds x.0 x.1 * odds_along s

  -- the totals of the odds at its sets, multiplied
  unfoldable pub totals_along : Sequence → ℕ
  totals_along [] = 1
  totals_along (x ∷ s) = odds_total x.0 * totals_along s

  -- The probability of a sequence, by the odds of its moves: odds over totals; 0 over 1 where one of its moves has zero odds.
  unfoldable pub odds_numerator : Sequence → ℕ
  odds_numerator s = cond (no_zero_odds s) (odds_along s) 0

  unfoldable pub odds_denominator : Sequence → ℕ
  odds_denominator s = cond (no_zero_odds s) (totals_along s) 1

  unfoldable pub odds_probability : Sequence → Fraction
  odds_probability s = pos (odds_numerator s) over odds_denominator s

  -- the same in lowest terms
  unfoldable pub lowest_numerator : Sequence → ℕ
  lowest_numerator s = odds_numerator s / gcd (odds_numerator s) (odds_denominator s)

  unfoldable pub lowest_denominator : Sequence → ℕ
  lowest_denominator s = odds_denominator s / gcd (odds_numerator s) (odds_denominator s)

  -- d "serves" p: over d "every realization weight is whole", of each of p's sequences
  unfoldable pub Serves : Player → (d : ℕ) → Type 0
  Serves p d = (h m : ℕ) → MoveOf g p h m → let s = extended (leading g h) h m in odds_denominator s ∣ d * odds_numerator s

  -- "per player, the smallest D for which every realization weight is whole": the least common multiple of the denominators in lowest terms,
  -- of a set's moves and of all sets of the player's; 1 where he has none
  unfoldable pub set_multiple : ℕ → ℕ
  set_multiple h = lcm_to (g.set_moves h) (λ m. lowest_denominator (extended (leading g h) h m))

  unfoldable pub smallest_d : Player → ℕ
  smallest_d p = lcm_to g.sets (λ h. cond (owns g p h) (set_multiple h) 1)

  -- the realization weight of a sequence over d
  unfoldable pub weight_over : (d : ℕ) → Sequence → ℕ
  weight_over d s = d * odds_numerator s / odds_denominator s

  -- "Make a plan from a sheet"
  unfoldable pub plan_from : PlanPair
  plan_from p = record {
    denominator = smallest_d p;
    move_weight = λ h m. weight_over (smallest_d p) (extended (leading g h) h m);
  }

  -- 20: "all odds zero at a set whose own sequence has no zero odds"
  unfoldable pub odds_given : Bool
  odds_given = all_to g.sets (λ h. implies (no_zero_odds (leading g h)) (ltb 0 (odds_total h)))

  -- 21: "no D up to 4,095 serves", for one of the players
  unfoldable pub smallest_in_limit : (limit : ℕ) → Bool
  smallest_in_limit limit = leb (smallest_d one) limit && leb (smallest_d two) limit

-- the probability that a plan gives the sequence which ends in move m of set h
abbrev pub plan_probability : RealizationPlan → (h m : ℕ) → Fraction
plan_probability x h m = pos (x.move_weight h m) over x.denominator

module _ (g : Game) where
  -- "a set's weights divided by their greatest common divisor, and all zeros where the plan never arrives"
  unfoldable pub odds_at : RealizationPlan → Odds
  odds_at x h m = cond (ltb 0 (sequence_weight x (leading g h))) (x.move_weight h m / gcd_to (g.set_moves h) (x.move_weight h)) 0

  -- "Make a sheet from a plan"
  unfoldable pub sheet_from : PlanPair → Odds
  sheet_from q h m = odds_at (q (g.set_player h)) h m

  -- "a plan already over the smallest D": over no smaller one are its probabilities, weight over D, whole
  unfoldable pub OverSmallest : Player → RealizationPlan → Type 0
  OverSmallest p x =
      (d : ℕ) → 0 < d
      → ((h m : ℕ) → MoveOf g p h m → x.denominator ∣ d * x.move_weight h m)
      → x.denominator ≤ d

  -- the greatest common divisor of the denominator and all weights of p's plan: it is over the smallest D exactly where this is 1 (`SheetPromises`)
  unfoldable pub plan_divisor : Player → RealizationPlan → ℕ
  plan_divisor p x = gcd x.denominator (gcd_to g.sets (λ h. cond (owns g p h) (gcd_to (g.set_moves h) (x.move_weight h)) 0))

-- To unfold this is to unfold all of this file that computes: for closed computation.
unfoldable pub opened : Unit {0}
unfolding sheet_length odds_of sheet_bytes sheet_well_formed odds_total no_zero_odds odds_along totals_along odds_numerator odds_denominator odds_probability lowest_numerator lowest_denominator set_multiple smallest_d weight_over plan_from odds_given smallest_in_limit odds_at sheet_from plan_divisor
opened = tt
