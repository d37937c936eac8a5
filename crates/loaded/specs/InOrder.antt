-- Numbers by sequence, filled set by set in the order of the sets' first nodes: each set comes after the sets whose moves lead to it.
use Rattle.std.specs.Prelude.{ℕ, ◌≤◌, ◌<◌, ◌≡◌, List, [], length, T}
use Rattle.algebra.specs.Arrays.{item}
use Rattle.model.specs.Game.{Game, Player, owns}
use Rattle.model.specs.Sequences.{Sequence, extended, leading, move_number, sequence_count}
use Rattle.loaded.specs.Sets.{set_order}

-- By the numbers of p's sequences: f of the empty one, and of those that end in a move of one of the first n sets.
pub record InOrder (g : Game) (p : Player) (f : Sequence → ℕ) (n : ℕ) (l : List ℕ) : Type 0 where
  pub long : sequence_count g p ≤ length l
  pub empty : item l 0 ≡ f []
  pub moves : (i m : ℕ) → i < n → let h = item (set_order g) i in T (owns g p h) → m < g.set_moves h → item l (move_number g p (h, m)) ≡ f (extended (leading g h) h m)
