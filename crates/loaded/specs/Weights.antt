-- Realization plans whose weights go by the numbers of a player's sequences.
use Rattle.std.specs.Prelude.{ℕ, ◌≤◌, ◌<◌, List, length, get_or}
use Rattle.model.specs.Game.{Game, Player, one, two}
use Rattle.model.specs.Sequences.{move_number, sequence_count}
use Rattle.model.specs.Plan.{RealizationPlan, PlanPair}
use Rattle.model.specs.Limits.{weight_limit}

-- the realization plan whose weights, by the numbers of p's sequences, are x
unfoldable pub plan_by_number : Game → Player → (x : ℕ → ℕ) → RealizationPlan
plan_by_number g p x = record { denominator = x 0; move_weight = λ h m. x (move_number g p (h, m)) }

-- one for each player
unfoldable pub pair_by_number : Game → (x y : ℕ → ℕ) → PlanPair
pair_by_number g x y one = plan_by_number g one x
pair_by_number g x y two = plan_by_number g two y

-- the first n entries are within the limit of weights
abbrev pub Small : (n : ℕ) → List ℕ → Type 0
Small n l = (i : ℕ) → i < n → get_or l i 0 ≤ weight_limit

-- p's weights by number: one for each of his sequences
pub record Weights (g : Game) (p : Player) (x : List ℕ) : Type 0 where
  pub long : sequence_count g p ≤ length x
  pub small : Small (sequence_count g p) x
