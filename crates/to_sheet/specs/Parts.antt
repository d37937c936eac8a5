-- The odds of a plan as they are computed, and what that takes of a loaded game.
use Rattle.std.specs.Prelude.{ℕ, ◌+◌, ◌/◌, ◌≤◌, cond, List, [], length}
use Rattle.algebra.specs.Arrays.{item}
use Rattle.algebra.specs.Bounded.{join_to, list_to}
use Rattle.algebra.specs.Divisors.{gcd_to}
use Rattle.model.specs.Game.{Game, Player, owns, moves_before}
use Rattle.model.specs.Plan.{RealizationPlan}
use Rattle.model.specs.Sheet.{Odds}
use Rattle.loaded.specs.Weights.{plan_by_number}
use Rattle.plan.specs.Loaded.{FitsAsked}

-- a set's weights divided by their greatest common divisor; where that is 0, so are the weights, and n / 0 is 0
unfoldable pub parts_of : Game → RealizationPlan → Odds
parts_of g x h m = x.move_weight h m / gcd_to (g.set_moves h) (x.move_weight h)

-- those of set h, of p's weights by number; none where the set is not his
unfoldable pub parts_at : Game → Player → (x : List ℕ) → ℕ → List ℕ
parts_at g p x h = cond (owns g p h) (list_to (g.set_moves h) (parts_of g (plan_by_number g p (item x)) h)) []

-- those of all his sets, rising
unfoldable pub player_parts : Game → Player → (x : List ℕ) → List ℕ
player_parts g p x = join_to g.sets (parts_at g p x)

-- So many sets of some game, a weight for each of a player's sequences, and a place for each of his moves from `before` on.
pub record PartsAsked (sets : ℕ) (p : Player) (numbers x : List ℕ) (before : ℕ) (out : List ℕ) : Type 0 where
  pub asked : FitsAsked sets p numbers x
  pub room : before + moves_before asked.game p asked.game.sets ≤ length out
