-- A pair that is read from its files and evaluated.
use Rattle.std.specs.Prelude.{ℕ, zero, suc, ◌≡◌, List, ℤ, Result}
use Rattle.algebra.specs.Arrays.{over}
use Rattle.model.specs.Game.{Player, game_of, one, two, other}
use Rattle.model.specs.Plan.{plan_pair_of}
use Rattle.model.specs.Checks.{game_refusal, pair_refusal}
use Rattle.loaded.specs.Counts.{counts_of}
use Rattle.loaded.specs.Loaded.{Loaded}
use Rattle.responses.specs.BestMoves.{own_best_move}
use Rattle.form.specs.Values.{values_of}
use Rattle.model.specs.Call.{answer_of}
use Rattle.model.specs.Exported.{same}
use Rattle.checks.specs.declared.Refusal.{Refusal}
use Rattle.checks.specs.Answers.{answered}
use Rattle.pair.specs.Refusals.{pair_header}
use Rattle.evaluation.specs.declared.Evaluated.{Evaluated}

-- what is read of the files, with both players' values
abbrev pub pair_evaluated : (game plan : List ℕ) → Evaluated
pair_evaluated game plan = record { pair = pair_header game plan; values = values_of (game_of game) (plan_pair_of (game_of game) plan) }

-- an array lent for p's moves: where no check fails it has by set his best move against the other's plan, else it is as it was
abbrev pub moves_after : (refusal : ℕ) → (game plan : List ℕ) → Player → List ℕ → List ℕ
moves_after zero game plan p before = over (own_best_move (game_of game) p (plan_pair_of (game_of game) plan (other p))) (game_of game).sets before
moves_after (suc k) game plan p before = before

-- What is left of two files: the answer; where the game is accepted, the loaded game; and each player's moves, by what their arrays held before.
pub record PairLeft (game plan before1 before2 : List ℕ) (r : Result Evaluated Refusal) (numbers : List ℕ) (payoffs : List ℤ) (moves1 moves2 : List ℕ) : Type 0 where
  pub answer : answered same r ≡ answer_of (pair_refusal game plan) (pair_evaluated game plan)
  pub loaded : game_refusal game ≡ 0 → Loaded (game_of game) (counts_of (game_of game)) numbers payoffs
  pub first : moves1 ≡ moves_after (pair_refusal game plan) game plan one before1
  pub second : moves2 ≡ moves_after (pair_refusal game plan) game plan two before2
