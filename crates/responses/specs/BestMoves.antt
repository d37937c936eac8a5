-- Best moves by set.
use Rattle.std.specs.Prelude.{ℕ, pred, ◌+◌, ◌<◌, cond, List, ℤ}
use Rattle.std.specs.Int.Signed.{le_z}
use Rattle.algebra.specs.Arrays.{item_z}
use Rattle.algebra.specs.Bounded.{max_through, first_to}
use Rattle.model.specs.Game.{Game, Player, owns}
use Rattle.model.specs.Plan.{RealizationPlan}
use Rattle.model.specs.BestResponse.{best_move}
use Rattle.loaded.specs.declared.Counts.{Counts}
use Rattle.responses.specs.Worths.{WorthsHeld}

-- the best move of set h against y, where the set is p's; else 0
unfoldable pub own_best_move : Game → Player → RealizationPlan → ℕ → ℕ
own_best_move g p y h = let best = best_move g p y h in cond (owns g p h) best 0

-- the least number below n at which f is greatest
unfoldable pub first_greatest : (f : ℕ → ℤ) → (n : ℕ) → ℕ
first_greatest f n = first_to n (λ m. le_z (max_through (pred n) f) (f m))

-- the lowest-numbered worthiest of the moves whose worths stand from `start` on
unfoldable pub best_stored : (worths : List ℤ) → (start count : ℕ) → ℕ
best_stored worths start count = first_greatest (λ m. item_z worths (start + m)) count

-- What best moves need: some game is loaded, and the worths of a player's sequences against some plan are stored.
pub record MovesAsked (c : Counts) (numbers : List ℕ) (worths : List ℤ) (p : Player) : Type 0 where
  pub game : Game
  pub plan : RealizationPlan
  pub held : WorthsHeld game p plan c numbers worths

-- The same for one of its sets.
pub record MoveAsked (numbers : List ℕ) (worths : List ℤ) (p : Player) (h : ℕ) : Type 0 where
  pub counts : Counts
  pub asked : MovesAsked counts numbers worths p
  pub is_set : h < asked.game.sets
