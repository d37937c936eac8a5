-- Document 01, "Sequence form": own sequences, their numbers, and the sequence that leads to a set.
use Rattle.std.specs.Prelude.{ℕ, zero, suc, ◌+◌, Bool, true, false, ◌&&◌, cond, List, [], ◌∷◌, ◌++◌, reverse, eqb}
use Rattle.algebra.specs.Bounded.{first_to}
use Rattle.model.specs.Game.{Game, Player, is_decision, in_set, owns, moves_before}

-- "a move is a set number with a move number"
abbrev pub Move : Type 0
Move = ℕ × ℕ

-- a player's moves in the order of play, the root's first
abbrev pub Sequence : Type 0
Sequence = List Move

-- the sequence with one more move at its end: move m of set h
abbrev pub extended : Sequence → (h m : ℕ) → Sequence
extended s h m = s ++ (h, m) ∷ []

-- the two moves are the same
abbrev pub same_move : Move → Move → Bool
same_move x y = eqb x.0 y.0 && eqb x.1 y.1

-- the two lists are the same
abbrev pub same : Sequence → Sequence → Bool
same [] [] = true
same [] (y ∷ t) = false
same (x ∷ s) [] = false
same (x ∷ s) (y ∷ t) = same_move x y && same s t

-- `empty` for the empty sequence, and else f of its last move
unfoldable pub by_last_move {ℓ} : {A : Type ℓ} → (empty : A) → (Move → A) → Sequence → A
by_last_move empty f [] = empty
by_last_move empty f (x ∷ s) = by_last_move (f x) f s

module _ (g : Game) where
  -- p moves at node n
  unfoldable pub acts : Player → ℕ → Bool
  acts p n = is_decision g n && owns g p (g.node_set n)

  -- p's moves on the walk from node n to the root, the latest first.
  -- Numbers fall on the way up in a game that passes check 8, so that n steps are enough (Demand2, `own_step`).
  unfoldable pub walk : Player → (steps n : ℕ) → Sequence
  walk p zero n = []
  walk p (suc steps) zero = []
  walk p (suc steps) (suc n) =
      let up = g.parent (suc n) in
      let rest = walk p steps up in
      cond (acts p up) ((g.node_set up, g.move (suc n)) ∷ rest) rest

  -- "A player's own sequence to a node is the list of that player's moves on the walk from the node to the root, turned round"
  unfoldable pub own_sequence_of : Player → ℕ → Sequence
  own_sequence_of p n = reverse (walk p n n)

  -- the first node of set h; N where it has none
  unfoldable pub first_node : ℕ → ℕ
  first_node h = first_to g.nodes (in_set g h)

  -- "the own sequence leading to the set": its player's, to its first node
  unfoldable pub leading : ℕ → Sequence
  leading h = own_sequence_of (g.set_player h) (first_node h)

  -- "0 is empty, then from 1 on one for each move, sets rising and moves rising"
  unfoldable pub move_number : Player → Move → ℕ
  move_number p x = 1 + moves_before g p x.0 + x.1

  -- the number of a sequence: 0 where it is empty, and else that of its last move
  unfoldable pub sequence_number : Player → Sequence → ℕ
  sequence_number p s = by_last_move 0 (move_number p) s

  -- the number of the own sequence leading to set h, among those of the set's player
  unfoldable pub leading_number : ℕ → ℕ
  leading_number h = sequence_number (g.set_player h) (leading h)

  -- how many sequences p has
  unfoldable pub sequence_count : Player → ℕ
  sequence_count p = 1 + moves_before g p g.sets

-- To unfold this is to unfold all of this file: for closed computation.
unfoldable pub opened : Unit {0}
unfolding by_last_move acts walk own_sequence_of first_node leading move_number sequence_number leading_number sequence_count
opened = tt
