-- Numbers in plan order, and the plan file of a pair.
use Rattle.std.specs.Prelude.{ℕ, cond, List, [], ◌++◌}
use Rattle.algebra.specs.Bounded.{join_to, list_to}
use Rattle.model.specs.Game.{Game, Player, one, two, owns}
use Rattle.model.specs.Plan.{PlanPair}
use Rattle.model.specs.Writing.{plan_bytes}

module _ (g : Game) where
  -- a number for each move of each of p's sets, "sets rising and moves rising"
  unfoldable pub moves_in_order : Player → ((h m : ℕ) → ℕ) → List ℕ
  moves_in_order p f = join_to g.sets (λ h. cond (owns g p h) (list_to (g.set_moves h) (f h)) [])

  -- "player 1's moves .., then player 2's likewise"
  unfoldable pub in_plan_order : ((h m : ℕ) → ℕ) → List ℕ
  in_plan_order f = moves_in_order one f ++ moves_in_order two f

  -- all weights of a pair in plan order: at each set its player's
  unfoldable pub pair_weights : PlanPair → List ℕ
  pair_weights q = in_plan_order (λ h. (q (g.set_player h)).move_weight h)

  -- the plan file of a pair
  unfoldable pub plan_file_of : PlanPair → List ℕ
  plan_file_of q = plan_bytes (q one).denominator (q two).denominator (pair_weights q)

-- To unfold this is to unfold all of this file: for closed computation.
unfoldable pub opened : Unit {0}
unfolding moves_in_order in_plan_order pair_weights plan_file_of
opened = tt
