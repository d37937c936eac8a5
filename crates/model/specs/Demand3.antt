-- Demand 3: what the verdict gives for an accepted game and a pair that fits, and what that means.
use Rattle.std.specs.Prelude.{ℕ, zero, suc, pred, ◌≤◌, ◌<◌, ◌≡◌, ◌↔◌, List, [], ◌∷◌, map, T, length, ℤ, pos, ◌≤ℤ◌, ◌<ℤ◌}
use Rattle.algebra.specs.Arrays.{item}
use Rattle.algebra.specs.Bounded.{list_to}
use Rattle.model.specs.Game.{Game, game_of, Player, one, two, other, owns, player_of, player_number}
use Rattle.model.specs.Sequences.{Move, extended, leading}
use Rattle.model.specs.Plan.{PlanPair, plan_pair_of}
use Rattle.model.specs.PlanChecks.{files}
use Rattle.model.specs.Earnings.{AtMost, Equal, minus, PureStrategy, MixedStrategy, listed, IsPure, IsMixed, sets_of, pure_earnings, mixed_earnings, plan_earnings, value_base}
use Rattle.model.specs.BestResponse.{worth}
use Rattle.model.specs.Rules.{GoodFiles}
use Rattle.model.specs.Call.{given, Outcome}
use Rattle.model.specs.Exported.{Exported}
use Rattle.model.specs.Calls.Verdict.{Stated, accepted, deviates, moves_of, verdict_call, Numbers, verdict_numbers}

-- p's sets, rising, each with the buffer's entry at its place
unfoldable pub strategy_in : Game → Player → (buffer : List ℕ) → List Move
strategy_in g p buffer = list_to (length (sets_of g p)) (λ i. (item (sets_of g p) i, item buffer i))

-- the pair is accepted
abbrev pub IsAccepted : Stated → Type 0
IsAccepted (accepted base) = Unit {0}
IsAccepted (deviates number gain base sets) = ⊥

-- the base that is stated
abbrev pub stated_base : Stated → ℕ
stated_base (accepted base) = base
stated_base (deviates number gain base sets) = base

-- There are strategies to speak of: "one move for each of his sets", and mixed ones "by whole-number weights of any size, not all 0".
pub record StrategiesExist (g : Game) : Type 0 where
  pub pure : (p : Player) → (σ : PureStrategy) × IsPure g p σ
  pub mixed : (p : Player) (σ : PureStrategy) (weight : ℕ) → IsPure g p σ → 0 < weight → IsMixed g p ((weight, σ) ∷ [])
  pub more : (p : Player) (σ : PureStrategy) (weight : ℕ) (μ : MixedStrategy) → IsPure g p σ → IsMixed g p μ → IsMixed g p ((weight, σ) ∷ μ)

module _ (g : Game) (q : PlanPair) where
  -- "no pure strategy .. earns [p] more against the other's plan than his own plan does"
  unfoldable pub NoProfitableDeviation : Player → Type 0
  NoProfitableDeviation p =
      (σ : PureStrategy) → IsPure g p σ → AtMost (pure_earnings g p (q (other p)) σ) (plan_earnings g p (q (other p)) (q p))

  -- the worth of move m at p's set h, against the other's plan
  unfoldable pub move_worth : Player → (h m : ℕ) → ℤ
  move_worth p h m = worth g p (q (other p)) (extended (leading g h) h m)

  -- "the lowest-numbered worthiest move": worth at least each other move, and more than each lower-numbered one
  pub record LowestBest (p : Player) (h m : ℕ) : Type 0 where
    pub best : (k : ℕ) → k < g.set_moves h → move_worth p h k ≤ℤ move_worth p h m
    pub lowest : (k : ℕ) → k < m → move_worth p h k <ℤ move_worth p h m

  -- What is true of a deviation of p with this gain over this base and these moves.
  pub record Deviates (p : Player) (gain : ℤ) (base : ℕ) (moves : List Move) : Type 0 where
    -- "Player 1 is shown if both can gain": player 2 only where no strategy of player 1 gains
    pub first_first : p ≡ two → NoProfitableDeviation one
    -- "The shown strategy takes in every set of that player, reached or not": a move for each, rising
    pub every_set : map (λ (x : Move). x.0) moves ≡ sets_of g p
    -- "A pure strategy is one move for each of his sets": one of the set's moves
    pub pure : IsPure g p (listed moves)
    -- "the lowest-numbered worthiest move"
    pub worthiest : (h : ℕ) → h < g.sets → T (owns g p h) → LowestBest p h (listed moves h)
    -- "that strategy earns its player, against the other's plan, exactly the stated gain more than his own plan does"
    pub exact : Equal (record { numerator = gain; denominator = base }) (minus (pure_earnings g p (q (other p)) (listed moves)) (plan_earnings g p (q (other p)) (q p)))
    -- "that gain is above zero"
    pub above : pos 0 <ℤ gain
    -- "every other strategy of that player, pure .. earns at most as much as the one shown"
    pub best : (σ : PureStrategy) → IsPure g p σ → AtMost (pure_earnings g p (q (other p)) σ) (pure_earnings g p (q (other p)) (listed moves))
    -- "or mixed by whole-number weights of any size, not all 0"
    pub best_mixed : (μ : MixedStrategy) → IsMixed g p μ → AtMost (mixed_earnings g p (q (other p)) μ) (pure_earnings g p (q (other p)) (listed moves))

  -- every base that a fraction above is compared over is above 0
  pub record BasesPositive : Type 0 where
    pub values : 0 < value_base g q
    pub pures : (p : Player) (σ : PureStrategy) → 0 < (pure_earnings g p (q (other p)) σ).denominator
    pub plans : (p : Player) → 0 < (plan_earnings g p (q (other p)) (q p)).denominator
    pub mixed : (p : Player) (μ : MixedStrategy) → IsMixed g p μ → 0 < (mixed_earnings g p (q (other p)) μ).denominator

  -- What is true of a stated deviation, with the strategy in the buffer.
  pub record Shows (number : ℕ) (gain : ℤ) (base sets : ℕ) (p : Player) (buffer : List ℕ) : Type 0 where
    -- its player is 1 or 2
    pub named : number ≡ player_number p
    -- it covers every set of his, and the buffer has all of it
    pub counted : sets ≡ length (sets_of g p)
    pub in_buffer : sets ≤ length buffer
    -- with these moves it is what demand 3 says, field by field
    pub deviation : Deviates p gain base (strategy_in g p buffer)

  -- what is stated is true
  abbrev pub Means : Stated → (buffer : List ℕ) → Type 0
  Means (accepted base) buffer = Unit {0}
  Means (deviates number gain base sets) buffer = Shows number gain base sets (player_of (pred number)) buffer

  -- what an answer and the buffer beside it mean
  pub record Judged (answer : Stated) (buffer : List ℕ) : Type 0 where
    -- "the pair is accepted exactly when no pure strategy .. earns either player more against the other's plan than his own plan does"
    pub accepted_exactly : IsAccepted answer ↔ (NoProfitableDeviation one × NoProfitableDeviation two)
    -- "whenever the pair is not accepted, the player and the strategy shown are those that document 01 names"
    pub shown : Means answer buffer
    -- "All are compared as exact fractions", none of them over 0: the stated base, and every other
    pub positive : 0 < stated_base answer
    pub bases : BasesPositive
    pub strategies : StrategiesExist g

-- Demand 3 for an outcome: "For every accepted game and every plan pair that fits it, with result buffers long enough for the verdict"
-- an answer is given, and it and the buffer mean what is demanded.
abbrev pub Demand3Met : (game plan moves : List ℕ) → Outcome (ℕ ∷ []) Stated → Type 0
Demand3Met game plan moves o =
    GoodFiles (files game plan)
    → length (moves_of (files game plan)) ≤ length moves
    → (answer : Stated) × (o.answer ≡ given answer) × Judged (game_of game) (plan_pair_of (game_of game) plan) answer o.buffers.0

-- what a verdict in numbers states: player 0 that the pair is accepted
abbrev pub stated_by : (number : ℕ) → (gain : ℤ) → (base count : ℕ) → Stated
stated_by zero gain base count = accepted base
stated_by (suc n) gain base count = deviates (suc n) gain base count

-- demand 3 for an outcome in numbers
abbrev pub Demand3MetIn : (game plan moves : List ℕ) → Exported (ℕ ∷ []) Numbers → Type 0
Demand3MetIn game plan moves x =
    let n = x.numbers in
    GoodFiles (files game plan)
    → length (moves_of (files game plan)) ≤ length moves
    → (x.refusal ≡ 0) × Judged (game_of game) (plan_pair_of (game_of game) plan) (stated_by n.number n.gain n.base n.count) x.buffers.0

pub record Demand3 : Type 0 where
  pub verdict : (game plan moves : List ℕ) → Demand3Met game plan moves (verdict_call game plan moves)
  pub numbers : (game plan : List ℕ) (before : Numbers) (moves : List ℕ) → Demand3MetIn game plan moves (verdict_numbers game plan before moves)
