-- Document 01, "Sequence form": gains and the verdict on a plan pair.
use Rattle.std.specs.Prelude.{cond, List, [], ℤ, pos, ◌-ℤ◌, ◌*ℤ◌}
use Rattle.std.specs.Int.Signed.{lt_z}
use Rattle.model.specs.Game.{Game, Player, one, two, other}
use Rattle.model.specs.Sequences.{Move}
use Rattle.model.specs.Plan.{PlanPair}
use Rattle.model.specs.Earnings.{value_count}
use Rattle.model.specs.BestResponse.{best_count, best_response}

-- The verdict's answer. Its yes, document 01's second meaning of "accepted", is `equilibrium`.
pub data Verdict : Type 0 where
  equilibrium : Verdict
  deviation : Player → ℤ → List Move → Verdict  -- the player, his gain over D0 × D1 × D2, a move for each of his sets, rising

module _ (g : Game) (q : PlanPair) where
  -- p's best value against the other's plan, counted over D0 × D1 × D2
  unfoldable pub scaled_best : Player → ℤ
  scaled_best p = pos (q p).denominator *ℤ best_count g p (q (other p))

  -- "The stated gain is best value less value, exact, over D0 × D1 × D2"
  unfoldable pub gain : Player → ℤ
  gain p = scaled_best p -ℤ value_count g q p

  -- p's deviation, as it is shown
  unfoldable pub deviation_of : Player → Verdict
  deviation_of p = deviation p (gain p) (best_response g p (q (other p)))

  -- "Player 1 is shown if both can gain."
  unfoldable pub verdict : Verdict
  verdict = cond (lt_z (pos 0) (gain one)) (deviation_of one) (cond (lt_z (pos 0) (gain two)) (deviation_of two) equilibrium)

-- the strategy that a verdict shows: none where the pair is an equilibrium
unfoldable pub shown_moves : Verdict → List Move
shown_moves equilibrium = []
shown_moves (deviation p gain moves) = moves

-- To unfold this is to unfold all of this file: for closed computation.
unfoldable pub opened : Unit {0}
unfolding scaled_best gain deviation_of verdict shown_moves
opened = tt
