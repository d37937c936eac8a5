-- Weights by the numbers of sequences are the plan's.
use Prim.Native.Nat.{ℕ}
use mathlib.Core.Path.{◌≡◌, refl}
use mathlib.Core.List.{[], ◌∷◌}
use Rattle.model.specs.Game.{Game, Player}
use Rattle.model.specs.Sequences.{Move, Sequence, by_last_move, move_number, sequence_number}
use Rattle.model.specs.Plan.{sequence_weight}
use Rattle.loaded.specs.Weights.{plan_by_number}

-- the weight of a sequence, in a plan whose weights go by number, is that of its number
pub weight_at_lem : (g : Game) (p : Player) (x : ℕ → ℕ) (s : Sequence) → sequence_weight (plan_by_number g p x) s ≡ x (sequence_number g p s)
unfolding sequence_weight sequence_number plan_by_number by_last_move
weight_at_lem g p x s = go 0 s
  where
    go : (n : ℕ) (s : Sequence) → by_last_move (x n) (λ (last : Move). x (move_number g p (last.0, last.1))) s ≡ x (by_last_move n (move_number g p) s)
    go n [] = refl
    go n (a ∷ s) = go (move_number g p a) s
