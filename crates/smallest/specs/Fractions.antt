-- Probabilities in lowest terms, one move after the other, and a common multiple that stops at a limit.
use Rattle.std.specs.Prelude.{ℕ, ◌*◌, ◌/◌, ◌≤◌, ◌<◌, cond, ltb, leb, Option, Some, None}
use Rattle.algebra.specs.Divisors.{gcd}
use Rattle.model.specs.Limits.{weight_limit}
use Rattle.model.specs.Game.{Game}
use Rattle.model.specs.Sequences.{Sequence}
use Rattle.model.specs.Sheet.{Odds, lowest_numerator, lowest_denominator}
use Rattle.smallest.specs.declared.Probability.{Probability}

abbrev pub probability : (numerator denominator : ℕ) → Probability
probability numerator denominator = record { numerator = numerator; denominator = denominator }

-- a over b in lowest terms
unfoldable pub reduced : (a b : ℕ) → Probability
reduced a b = probability (a / gcd a b) (b / gcd a b)

-- with one more move, of these odds at a set with this total of odds; the total is divided by only where the move is made
unfoldable pub times_odds : Probability → (odds total : ℕ) → Probability
times_odds r odds total = let made = reduced (r.numerator * odds) (r.denominator * total) in cond (ltb 0 (r.numerator * odds)) made (probability 0 1)

-- the probability of a sequence in lowest terms
unfoldable pub lowest_of : Game → Odds → Sequence → Probability
lowest_of g odds s = probability (lowest_numerator g odds s) (lowest_denominator g odds s)

-- a probability, whose denominator is at most so large
pub record ProperTo (bound : ℕ) (r : Probability) : Type 0 where
  pub some : 0 < r.denominator
  pub most : r.numerator ≤ r.denominator
  pub small : r.denominator ≤ bound

-- one whose denominator is within the limit of weights
abbrev pub Proper : Probability → Type 0
Proper = ProperTo weight_limit

-- a number, where it is within the limit
unfoldable pub capped : (limit n : ℕ) → Option ℕ
capped limit n = cond (leb n limit) (Some n) None
