-- A player's odds by the numbers of his sequences.
use Rattle.std.specs.Prelude.{ℕ, ◌≤◌, ◌≡◌, List, length}
use Rattle.algebra.specs.Arrays.{item}
use Rattle.model.specs.Game.{Game, Player}
use Rattle.model.specs.Sequences.{move_number, sequence_count}
use Rattle.model.specs.Sheet.{Odds, MoveOf}

-- at the number of the sequence that ends in a move of p's stand its odds
pub record OddsByNumber (g : Game) (p : Player) (odds : Odds) (x : List ℕ) : Type 0 where
  pub long : sequence_count g p ≤ length x
  pub at : (h m : ℕ) → MoveOf g p h m → item x (move_number g p (h, m)) ≡ odds h m
