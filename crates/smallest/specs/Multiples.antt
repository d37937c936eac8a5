-- What each step on the way to the smallest D asks and leaves.
use Rattle.std.specs.Prelude.{ℕ, ◌+◌, ◌*◌, ◌≤◌, ◌<◌, ◌≡◌, cond, List, length, Option, OnSome, IfNone}
use Rattle.algebra.specs.Arrays.{item, over}
use Rattle.algebra.specs.Bounded.{total_to}
use Rattle.algebra.specs.Divisors.{lcm, lcm_to}
use Rattle.algebra.specs.Sections.{Held, Apart}
use Rattle.model.specs.Limits.{count_limit, weight_limit}
use Rattle.model.specs.Game.{Game, Player, owns}
use Rattle.model.specs.Sequences.{sequence_count}
use Rattle.model.specs.Demand2.{sequence_at}
use Rattle.model.specs.Sheet.{Odds, lowest_numerator, lowest_denominator, set_multiple, smallest_d, weight_over}
use Rattle.loaded.specs.declared.Counts.{Counts}
use Rattle.loaded.specs.declared.SetSequences.{SetSequences}
use Rattle.loaded.specs.InOrder.{InOrder}
use Rattle.loaded.specs.Loaded.{NumbersLoaded}
use Rattle.loaded.specs.Sets.{set_order}
use Rattle.sheets.specs.OddsByNumber.{OddsByNumber}
use Rattle.sheets.specs.OwnSets.{OrderPlace}
use Rattle.smallest.specs.declared.Probability.{Probability}
use Rattle.smallest.specs.Fractions.{times_odds, Proper, capped}

-- the limit of D is within that of weights, and a common multiple within it
pub record InLimit (multiple limit : ℕ) : Type 0 where
  pub some : 0 < multiple
  pub most : multiple ≤ limit
  pub small : limit ≤ weight_limit

-- A set of at most 64 moves, with a place for the odds and the probability of each.
pub record SetAsked (set : SetSequences) (before : Probability) (total : ℕ) (x numerators denominators : List ℕ) (multiple limit : ℕ) : Type 0 where
  pub in_odds : set.start + set.moves ≤ length x
  pub in_numerators : set.start + set.moves ≤ length numerators
  pub in_denominators : set.start + set.moves ≤ length denominators
  pub proper : Proper before
  pub total_is : total ≡ total_to set.moves (λ m. item x (set.start + m))
  pub total_small : total ≤ 64 * weight_limit
  pub within : InLimit multiple limit

-- the probability of the sequence that ends in its move m
unfoldable pub move_probability : (before : Probability) → (total : ℕ) → (x : List ℕ) → (start m : ℕ) → Probability
move_probability before total x start m = times_odds before (item x (start + m)) total

-- After a set: the common multiple with its denominators, where that is within the limit, and then its probabilities.
pub record SetFilled (set : SetSequences) (before : Probability) (total : ℕ) (x : List ℕ) (multiple limit : ℕ) (r : Option ℕ) (numerators numerators' denominators denominators' : List ℕ) : Type 0 where
  pub answer : r ≡ capped limit (lcm multiple (lcm_to set.moves (λ m. (move_probability before total x set.start m).denominator)))
  pub numerators_held : OnSome r (Held set.start (λ m. (move_probability before total x set.start m).numerator) set.moves numerators')
  pub denominators_held : OnSome r (Held set.start (λ m. (move_probability before total x set.start m).denominator) set.moves denominators')
  pub numerators_apart : Apart set.start (set.start + set.moves) numerators numerators'
  pub denominators_apart : Apart set.start (set.start + set.moves) denominators denominators'

-- the multiple of the set at place i of the order, where it is p's
unfoldable pub order_multiple : Game → Odds → Player → ℕ → ℕ
order_multiple g odds p i = let h = item (set_order g) i in cond (owns g p h) (set_multiple g odds h) 1

-- The probabilities in lowest terms of p's sequences that end in a move of one of the first n sets of the order.
pub record Probabilities (g : Game) (odds : Odds) (p : Player) (n : ℕ) (numerators denominators : List ℕ) : Type 0 where
  pub numerators_are : InOrder g p (lowest_numerator g odds) n numerators
  pub denominators_are : InOrder g p (lowest_denominator g odds) n denominators

-- A place of the order of some game that is loaded, with p's odds and the probabilities of the sets before it.
pub record NextAsked (i : ℕ) (p : Player) (numbers x numerators denominators : List ℕ) (multiple limit : ℕ) : Type 0 where
  pub place : OrderPlace i numbers
  pub odds : Odds
  pub odds_are : OddsByNumber place.game p odds x
  pub probabilities : Probabilities place.game odds p i numerators denominators
  pub within : InLimit multiple limit

-- After the set at place i: the common multiple with it, where that is within the limit, and then its probabilities too.
pub record NextMultiple (g : Game) (odds : Odds) (p : Player) (i multiple limit : ℕ) (r : Option ℕ) (numerators denominators : List ℕ) : Type 0 where
  pub answer : r ≡ capped limit (lcm multiple (order_multiple g odds p i))
  pub probabilities : OnSome r (Probabilities g odds p (i + 1) numerators denominators)

-- All sets of some game that is loaded, and for as many sequences as a player can have a place for odds and probabilities.
pub record AllAsked (sets : ℕ) (numbers x numerators denominators : List ℕ) (limit : ℕ) : Type 0 where
  pub game : Game
  pub counts : Counts
  pub loaded : NumbersLoaded game counts numbers
  pub sets_are : sets ≡ game.sets
  pub in_odds : count_limit ≤ length x
  pub in_numerators : count_limit ≤ length numerators
  pub in_denominators : count_limit ≤ length denominators
  pub within : InLimit 1 limit

-- After all: the smallest D, where it is within the limit, and then the probabilities of all sequences.
pub record Smallest (g : Game) (odds : Odds) (p : Player) (limit : ℕ) (r : Option ℕ) (numerators denominators : List ℕ) : Type 0 where
  pub answer : r ≡ capped limit (smallest_d g odds p)
  pub probabilities : OnSome r (Probabilities g odds p g.sets numerators denominators)

-- Probabilities that are multiplied by d, and a place for the weight of each.
pub record Scalable (count d : ℕ) (numerators denominators x : List ℕ) : Type 0 where
  pub in_numerators : count ≤ length numerators
  pub in_denominators : count ≤ length denominators
  pub in_weights : count ≤ length x
  pub some : (k : ℕ) → k < count → 0 < item denominators k
  pub most : (k : ℕ) → k < count → item numerators k ≤ item denominators k
  pub small : d ≤ weight_limit

-- the weights of p's sequences over the smallest D, by their numbers
unfoldable pub smallest_weight : Game → Odds → Player → ℕ → ℕ
smallest_weight g odds p k = weight_over g odds (smallest_d g odds p) (sequence_at g p k)

-- After a player: the smallest D, where it is within the limit; then his weights in place of his odds, and else his odds.
pub record Weighed (g : Game) (odds : Odds) (p : Player) (limit : ℕ) (r : Option ℕ) (x x' : List ℕ) : Type 0 where
  pub answer : r ≡ capped limit (smallest_d g odds p)
  pub weights : OnSome r (x' ≡ over (smallest_weight g odds p) (sequence_count g p) x)
  pub kept : IfNone r (x' ≡ x)
