-- What a loaded game has of its sets beside what the model says of them.
use Rattle.std.specs.Prelude.{ℕ, ◌+◌, ◌-◌, Bool, ◌&&◌, cond, List, [], ◌∷◌, eqb}
use Rattle.algebra.specs.Bounded.{first_to, join_to}
use Rattle.model.specs.Game.{Game, Player, is_decision, is_chance, owns}
use Rattle.model.specs.Sequences.{first_node, leading_number, move_number}

module _ (g : Game) where
  -- what the payload of node n names or counts: a decision's set, a chance node's moves; 0 at a leaf
  unfoldable pub payload_number : (n : ℕ) → ℕ
  payload_number n = cond (is_decision g n) (g.node_set n) (cond (is_chance g n) (g.chance_moves n) 0)

  -- the number of the sequence that ends in move 0 of set h
  unfoldable pub first_sequence : (h : ℕ) → ℕ
  first_sequence h = move_number g (g.set_player h) (h, 0)

  -- set h is p's, and the sequence with number s leads to it
  unfoldable pub lead_by : (p : Player) → (s h : ℕ) → Bool
  lead_by p s h = owns g p h && eqb (leading_number g h) s

  -- the first set from h on that p's sequence with number s leads to; H where there is none
  unfoldable pub first_led : (p : Player) → (s h : ℕ) → ℕ
  first_led p s h = h + first_to (g.sets - h) (λ i. lead_by p s (h + i))

  -- the next set after h that the same sequence leads to
  unfoldable pub next_led : (h : ℕ) → ℕ
  next_led h = first_led (g.set_player h) (leading_number g h) (h + 1)

  -- the set whose first node is n, alone; nothing where n is the first node of none
  unfoldable pub begins_at : (n : ℕ) → List ℕ
  begins_at n = cond (is_decision g n && eqb (first_node g (g.node_set n)) n) (g.node_set n ∷ []) []

  -- all sets, in the order of their first nodes
  unfoldable pub set_order : List ℕ
  set_order = join_to g.nodes begins_at
