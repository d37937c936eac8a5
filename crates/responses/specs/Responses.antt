-- What a best response over a loaded game needs, and what it gives.
use Rattle.std.specs.Prelude.{ℕ, ◌≡◌, List, ℤ}
use Rattle.algebra.specs.Arrays.{item, over}
use Rattle.model.specs.Game.{Game, Player, other}
use Rattle.model.specs.BestResponse.{best_count}
use Rattle.loaded.specs.Loaded.{Loaded}
use Rattle.loaded.specs.Weights.{plan_by_number, Weights}
use Rattle.loaded.specs.declared.LoadedGame.{LoadedGame}
use Rattle.responses.specs.BestMoves.{own_best_move}

-- A game is loaded there.
abbrev pub LoadedAs : Game → LoadedGame → Type 0
LoadedAs g l = Loaded g l.counts l.numbers.now l.payoffs.now

-- Some game is loaded, and y has the other player's weights by number.
pub record ResponseAsked (l : LoadedGame) (p : Player) (y : List ℕ) : Type 0 where
  pub game : Game
  pub loaded : LoadedAs game l
  pub weights : Weights game (other p) y

-- The best value, counted over D0 × the other's D, and by set the best moves: of each game that is loaded there.
abbrev pub ResponseGiven : (l : LoadedGame) → (p : Player) → (y moves₀ moves : List ℕ) → (r : ℤ) → Type 0
ResponseGiven l p y moves₀ moves r =
    (g : Game) → LoadedAs g l → Weights g (other p) y →
    (r ≡ best_count g p (plan_by_number g (other p) (item y)))
    × (moves ≡ over (own_best_move g p (plan_by_number g (other p) (item y))) g.sets moves₀)
