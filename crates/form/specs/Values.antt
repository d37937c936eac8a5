-- A pair of plans by its weights: what its evaluation needs, and what it gives.
use Rattle.std.specs.Prelude.{ℕ, ◌≡◌, true, List}
use Rattle.algebra.specs.Arrays.{item, over}
use Rattle.model.specs.Game.{Game, one, two}
use Rattle.model.specs.Plan.{PlanPair, pair_fits_of}
use Rattle.model.specs.Earnings.{value_count}
use Rattle.model.specs.BestResponse.{best_count}
use Rattle.loaded.specs.Weights.{plan_by_number, pair_by_number, Weights}
use Rattle.loaded.specs.declared.LoadedGame.{LoadedGame}
use Rattle.responses.specs.Responses.{LoadedAs}
use Rattle.responses.specs.BestMoves.{own_best_move}
use Rattle.form.specs.declared.Values.{Values}

-- Both players' weights by number, of plans that fit.
pub record PairWeights (g : Game) (x y : List ℕ) : Type 0 where
  pub weights1 : Weights g one x
  pub weights2 : Weights g two y
  pub fit : pair_fits_of g (pair_by_number g (item x) (item y)) ≡ true

-- Some game is loaded, and x and y have the weights of a pair that fits it.
pub record PairAsked (l : LoadedGame) (x y : List ℕ) : Type 0 where
  pub game : Game
  pub loaded : LoadedAs game l
  pub weights : PairWeights game x y

-- each player's value over D0 × D1 × D2, and his best value over D0 × the other's D
unfoldable pub values_of : Game → PlanPair → Values
values_of g q = record { value1 = value_count g q one; value2 = value_count g q two; best1 = best_count g one (q two); best2 = best_count g two (q one) }

-- What an evaluation gives for weights x and y by number: the values, and by set the best moves of each player.
abbrev pub Evaluated : Game → (x y moves1₀ moves2₀ moves1 moves2 : List ℕ) → Values → Type 0
Evaluated g x y moves1₀ moves2₀ moves1 moves2 r =
    (r ≡ values_of g (pair_by_number g (item x) (item y)))
    × (moves1 ≡ over (own_best_move g one (plan_by_number g two (item y))) g.sets moves1₀)
    × (moves2 ≡ over (own_best_move g two (plan_by_number g one (item x))) g.sets moves2₀)
