-- What the rules of a game say of its tree: own sequences step by step, perfect recall, and the children of a node.
use Prim.Native.Nat.{ℕ, zero, suc, ◌≤◌, ◌<◌}
use mathlib.Core.Path.{◌≡◌, refl, sym, ap, ◌∙◌, subst}
use mathlib.Core.Bool.{Bool, true, false, ◌&&◌, cond}
use mathlib.Core.List.{[], ◌∷◌, reverse, reverse-cons}
use native.Mathlib.Omega.{arith}
use lib.ListN.{length}
use lib.Dec.{T, eqb, eqb→eq, eqb_refl, ltb, ltb→lt, lt→ltb}
use mir.Facts.{and_yes, yes_and}
use Rattle.algebra.specs.Bounded.{total_to}
use Rattle.algebra.proofs.Tests.{cond_yes, cond_no, eqb_make}
use Rattle.algebra.proofs.Searches.{first_to_found, first_to_least}
use Rattle.algebra.proofs.Totals.{only, count_cong, count_zero, count_one, count_swap, count_pick}
use Rattle.model.specs.Game.{Game, Player, one, two, other, same_player, player_of, player_bit, owns, is_leaf, is_decision, is_chance, in_set, node_moves}
use Rattle.model.specs.Sequences.{Sequence, extended, acts, walk, own_sequence_of, first_node, leading}
use Rattle.model.specs.GameChecks.{is_child}
use Rattle.model.specs.Reasons.{IsChildAt}
use Rattle.model.specs.Rules.{ExactlyOne, GameRules}
use Rattle.model.proofs.Sequences.{extended_length}

-- players that pass the test are the same
pub same_player_lem : (p r : Player) → T (same_player p r) → r ≡ p
same_player_lem one one t = refl
same_player_lem one two t = absurd t
same_player_lem two one t = absurd t
same_player_lem two two t = refl

-- a player passes the test against himself
pub player_refl : (p : Player) → T (same_player p p)
player_refl one = tt
player_refl two = tt

-- and never against his opponent
pub not_other : (p : Player) → ¬ T (same_player (other p) p)
not_other one t = t
not_other two t = t

-- a player's bit tells the player
pub bit_tells : (p r : Player) → eqb (player_bit r) (player_bit p) ≡ same_player p r
bit_tells one one = refl
bit_tells one two = refl
bit_tells two one = refl
bit_tells two two = refl

-- it is 0 or 1
pub bit_below : (p : Player) → player_bit p < 2
bit_below one = omega arith
bit_below two = omega arith

-- and each of these is some player's
pub bit_back : (b : ℕ) → b < 2 → player_bit (player_of b) ≡ b
bit_back zero l = refl
bit_back (suc b) l = omega arith

-- a set's player is the one who owns it
pub owner : (g : Game) (p : Player) (h : ℕ) → T (owns g p h) → g.set_player h ≡ p
unfolding owns
owner g p h o = same_player_lem p (g.set_player h) o

-- One of p's sequences: the empty one, or the one leading to a set of p's and a move there.
pub data IsSequence (g : Game) (p : Player) : Sequence → Type 0 where
  empty : IsSequence g p []
  after : {h m : ℕ} → h < g.sets → T (owns g p h) → m < g.set_moves h → IsSequence g p (extended (leading g h) h m)

-- node c, other than the root, is a child of node n
abbrev pub below : Game → (n c : ℕ) → Bool
below g n c = ltb 0 c && eqb (g.parent c) n

-- what it says to be a child
pub below_is : (g : Game) (n c : ℕ) → T (below g n c) → (0 < c) × (g.parent c ≡ n)
below_is g n c t = let a = and_yes (ltb 0 c) (eqb (g.parent c) n) t in (ltb→lt 0 c a.0, eqb→eq (g.parent c) n a.1)

-- a decision of a set of p's is a node where p moves, and the other way round
pub acts_parts : (g : Game) (p : Player) (n : ℕ) → T (acts g p n) → T (is_decision g n) × T (owns g p (g.node_set n))
unfolding acts
acts_parts g p n t = and_yes (is_decision g n) (owns g p (g.node_set n)) t

-- a node's kind, by its test
pub decision_kind : (g : Game) (n : ℕ) → T (is_decision g n) → g.kind n ≡ 1
unfolding is_decision
decision_kind g n t = eqb→eq (g.kind n) 1 t

pub chance_kind : (g : Game) (n : ℕ) → T (is_chance g n) → g.kind n ≡ 2
unfolding is_chance
chance_kind g n t = eqb→eq (g.kind n) 2 t

pub leaf_kind : (g : Game) (n : ℕ) → T (is_leaf g n) → g.kind n ≡ 0
unfolding is_leaf
leaf_kind g n t = eqb→eq (g.kind n) 0 t

-- the move count of a decision is its set's
pub decision_moves : (g : Game) (n : ℕ) → T (is_decision g n) → node_moves g n ≡ g.set_moves (g.node_set n)
unfolding node_moves
decision_moves g n t = cond_yes (is_decision g n) (g.set_moves (g.node_set n)) _ t

-- a leaf has no moves
pub leaf_moves : (g : Game) (n : ℕ) → T (is_leaf g n) → node_moves g n ≡ 0
unfolding node_moves
leaf_moves g n t =
    cond_no (is_decision g n) _ _ (λ d. omega (arith, leaf_kind g n t, decision_kind g n d))
    ∙ cond_no (is_chance g n) (g.chance_moves n) 0 (λ d. omega (arith, leaf_kind g n t, chance_kind g n d))

-- where numbers fall on the way up, any number of steps that is enough gives the same walk
pub walk_enough : (g : Game) → ((n : ℕ) → suc n < g.nodes → g.parent (suc n) < suc n) → (p : Player) (s t n : ℕ) → n < g.nodes → n ≤ s → n ≤ t → walk g p s n ≡ walk g p t n
unfolding walk
walk_enough g falls p zero zero n b l k = refl
walk_enough g falls p zero (suc t) zero b l k = refl
walk_enough g falls p (suc s) zero zero b l k = refl
walk_enough g falls p zero (suc t) (suc n) b l k = absurd (omega arith)
walk_enough g falls p (suc s) zero (suc n) b l k = absurd (omega arith)
walk_enough g falls p (suc s) (suc t) zero b l k = refl
walk_enough g falls p (suc s) (suc t) (suc n) b l k =
    rw (walk_enough g falls p s t (g.parent (suc n)) (omega (arith, falls n b)) (omega (arith, falls n b)) (omega (arith, falls n b)))

-- the root has the empty own sequence
pub own_root : (g : Game) (p : Player) → own_sequence_of g p 0 ≡ []
unfolding own_sequence_of walk
own_root g p = refl

-- a node's own sequence is its parent's, extended where p moves there
pub own_step : (g : Game) → ((n : ℕ) → suc n < g.nodes → g.parent (suc n) < suc n) → (p : Player) (n : ℕ) → suc n < g.nodes → own_sequence_of g p (suc n) ≡ cond (acts g p (g.parent (suc n))) (extended (own_sequence_of g p (g.parent (suc n))) (g.node_set (g.parent (suc n))) (g.move (suc n))) (own_sequence_of g p (g.parent (suc n)))
unfolding own_sequence_of walk
own_step g falls p n l =
    let up = g.parent (suc n) in
    rw (walk_enough g falls p n up up (omega (arith, falls n l)) (omega (arith, falls n l)) (omega arith))
    (go (acts g p up) (walk g p up up))
  where
    go : (b : Bool) (w : Sequence) → reverse (cond b ((g.node_set (g.parent (suc n)), g.move (suc n)) ∷ w) w) ≡ cond b (extended (reverse w) (g.node_set (g.parent (suc n))) (g.move (suc n))) (reverse w)
    go true w = reverse-cons (g.node_set (g.parent (suc n)), g.move (suc n)) w
    go false w = refl

-- The rules from which follows how many nodes and moves there are: those of parents, of moves and of sets without a node.
pub record TreeRules (g : Game) : Type 0 where
  pub some_node : 0 < g.nodes
  pub root_parent : g.parent 0 ≡ 0
  pub parents : (n : ℕ) → suc n < g.nodes → g.parent (suc n) < suc n
  pub at_move : (n : ℕ) → suc n < g.nodes → g.move (suc n) < node_moves g (g.parent (suc n))
  pub moves : (n m : ℕ) → n < g.nodes → m < node_moves g n → ExactlyOne (IsChildAt g n m)
  pub set_node : (h : ℕ) → h < g.sets → (n : ℕ) × (n < g.nodes) × T (in_set g h n)

-- they are among the rules of a game
pub tree_rules : {g : Game} → GameRules g → TreeRules g
tree_rules R = record {
  some_node = R.some_node;
  root_parent = R.root.0;
  parents = R.parents;
  at_move = R.at_move;
  moves = R.moves;
  set_node = R.set_node;
}

module _ (g : Game) (R : TreeRules g) where
  -- the parent of a node is a node
  pub tree_parent_in : (n : ℕ) → n < g.nodes → g.parent n < g.nodes
  tree_parent_in zero l = omega (arith, R.root_parent, R.some_node)
  tree_parent_in (suc n) l = omega (arith, R.parents n l)

  -- a set's first node is one of its nodes
  pub tree_first_in : (h : ℕ) → h < g.sets → T (in_set g h (first_node g h)) × (first_node g h < g.nodes)
  unfolding first_node
  tree_first_in h l = let n = R.set_node h l in first_to_found g.nodes (in_set g h) n.0 n.1 n.2

  -- the first node of a set has the set's moves
  pub tree_first_set : (h : ℕ) → h < g.sets → T (is_decision g (first_node g h)) × (g.node_set (first_node g h) ≡ h) × (node_moves g (first_node g h) ≡ g.set_moves h)
  unfolding in_set
  tree_first_set h l =
      let n = first_node g h in
      let a = and_yes (is_decision g n) (eqb (g.node_set n) h) (tree_first_in h l).0 in
      let e = eqb→eq (g.node_set n) h a.1 in
      (a.0, e, decision_moves g n a.0 ∙ ap g.set_moves e)

  -- the children of n, by their moves: each move has one
  pub tree_children : (n : ℕ) → n < g.nodes → (f : ℕ → ℕ) → total_to g.nodes (λ c. only (below g n c) (f (g.move c))) ≡ total_to (node_moves g n) f
  unfolding is_child
  tree_children n l f =
      count_cong g.nodes _ _ (λ c k. spread c k)
      ∙ count_swap g.nodes (node_moves g n) (λ c m. only (is_child g n m c) (f m))
      ∙ count_cong (node_moves g n) _ _ (λ m k. gather m (R.moves n m l k))
    where
      in_range_lem : (c : ℕ) → c < g.nodes → T (below g n c) → g.move c < node_moves g n
      in_range_lem zero k t = absurd (omega (arith, (below_is g n 0 t).0))
      in_range_lem (suc c) k t = subst (λ (j : ℕ). g.move (suc c) < node_moves g j) (below_is g n (suc c) t).1 (R.at_move c k)

      by_move : (c : ℕ) (b : Bool) → (T b → g.move c < node_moves g n) → only b (f (g.move c)) ≡ total_to (node_moves g n) (λ m. only (b && eqb (g.move c) m) (f m))
      by_move c true h = sym (count_pick (node_moves g n) (g.move c) f (h tt))
      by_move c false h = sym (count_zero (node_moves g n) (λ m. 0) (λ i v. refl))

      spread : (c : ℕ) → c < g.nodes → only (below g n c) (f (g.move c)) ≡ total_to (node_moves g n) (λ m. only (is_child g n m c) (f m))
      spread c k = by_move c (below g n c) (in_range_lem c k)

      stands : (m c : ℕ) → c < g.nodes → T (is_child g n m c) → IsChildAt g n m c
      stands m c k t =
          let a = and_yes (below g n c) (eqb (g.move c) m) t in
          let b = below_is g n c a.0 in
          (k, b.0, b.1, eqb→eq (g.move c) m a.1)

      gather : (m : ℕ) → ExactlyOne (IsChildAt g n m) → total_to g.nodes (λ i. only (is_child g n m i) (f m)) ≡ f m
      gather m e =
          let c = e.0 in
          let s = e.1 in
          count_one g.nodes (λ i. only (is_child g n m i) (f m)) c s.0 (λ i k d. cond_no (is_child g n m i) (f m) 0 (λ t. d (e.2 i (stands m i k t))))
          ∙ cond_yes (is_child g n m c) (f m) 0 (yes_and (below g n c) (eqb (g.move c) m) (yes_and (ltb 0 c) (eqb (g.parent c) n) (lt→ltb 0 c s.1) (eqb_make (g.parent c) n s.2)) (eqb_make (g.move c) m s.3))

module _ (g : Game) (R : GameRules g) where
  -- the parent of a node is a node
  pub parent_in : (n : ℕ) → n < g.nodes → g.parent n < g.nodes
  parent_in = tree_parent_in g (tree_rules R)

  -- a set's first node is one of its nodes
  pub first_in_lem : (h : ℕ) → h < g.sets → T (in_set g h (first_node g h)) × (first_node g h < g.nodes)
  first_in_lem = tree_first_in g (tree_rules R)

  -- and no other comes before it
  pub first_least : (h n : ℕ) → n < g.nodes → T (in_set g h n) → first_node g h ≤ n
  unfolding first_node
  first_least h n l t = first_to_least g.nodes (in_set g h) n l t

  -- a decision's set is a set of the game, and the decision is in it
  pub in_own_set : (n : ℕ) → n < g.nodes → T (is_decision g n) → (g.node_set n < g.sets) × T (in_set g (g.node_set n) n)
  unfolding in_set
  in_own_set n l d = (R.decision_set n l (decision_kind g n d), yes_and (is_decision g n) (eqb (g.node_set n) (g.node_set n)) d (eqb_refl (g.node_set n)))

  -- every node of a set has the own sequence leading to it
  pub recalled : (h n : ℕ) → h < g.sets → n < g.nodes → T (in_set g h n) → own_sequence_of g (g.set_player h) n ≡ leading g h
  unfolding leading
  recalled h n l k t = let f = first_in_lem h l in R.recall h n (first_node g h) l k f.1 t f.0

  -- so where p moves, his own sequence is the one leading to the set
  pub own_leading : (p : Player) (n : ℕ) → n < g.nodes → T (acts g p n) → own_sequence_of g p n ≡ leading g (g.node_set n)
  own_leading p n l t =
      let h = g.node_set n in
      let a = acts_parts g p n t in
      let i = in_own_set n l a.0 in
      subst (λ (r : Player). own_sequence_of g r n ≡ leading g h) (owner g p h a.1) (recalled h n i.0 l i.1)

  -- every own sequence is one of the player's sequences, for nodes below a bound
  sequences_below : (p : Player) (k n : ℕ) → n < k → n < g.nodes → IsSequence g p (own_sequence_of g p n)
  sequences_below p zero n b l = absurd (omega arith)
  sequences_below p (suc k) zero b l = subst (IsSequence g p) (sym (own_root g p)) empty
  sequences_below p (suc k) (suc n) b l =
      subst (IsSequence g p) (sym (own_step g R.parents p n l)) (go (acts g p up) (λ t. t) (sequences_below p k up (omega (arith, R.parents n l)) (omega (arith, R.parents n l))))
    where
      up : ℕ
      up = g.parent (suc n)

      here : T (acts g p up) → IsSequence g p (extended (leading g (g.node_set up)) (g.node_set up) (g.move (suc n)))
      here t =
          let a = acts_parts g p up t in
          after {h = g.node_set up} {m = g.move (suc n)} (in_own_set up (parent_in (suc n) l) a.0).0 a.1 (omega (arith, decision_moves g up a.0, R.at_move n l))

      go : (b : Bool) → (T b → T (acts g p up)) → IsSequence g p (own_sequence_of g p up) → IsSequence g p (cond b (extended (own_sequence_of g p up) (g.node_set up) (g.move (suc n))) (own_sequence_of g p up))
      go true t r = subst (λ (s : Sequence). IsSequence g p (extended s (g.node_set up) (g.move (suc n)))) (sym (own_leading p up (parent_in (suc n) l) (t tt))) (here (t tt))
      go false t r = r

  -- the own sequence to a node is one of the player's sequences
  pub own_sequence_lem : (p : Player) (n : ℕ) → n < g.nodes → IsSequence g p (own_sequence_of g p n)
  own_sequence_lem p n l = sequences_below p (suc n) n (omega arith) l

  -- so is the one leading to a set of his
  pub leading_sequence : (p : Player) (h : ℕ) → h < g.sets → T (owns g p h) → IsSequence g p (leading g h)
  unfolding leading
  leading_sequence p h l o = subst (λ (r : Player). IsSequence g p (own_sequence_of g r (first_node g h))) (sym (owner g p h o)) (own_sequence_lem p (first_node g h) (first_in_lem h l).1)

  -- an own sequence is no longer than the node's number, for nodes below a bound
  lengths_below : (p : Player) (k n : ℕ) → n < k → n < g.nodes → length (own_sequence_of g p n) ≤ n
  lengths_below p zero n b l = absurd (omega arith)
  lengths_below p (suc k) zero b l = omega (arith, ap {B = ℕ} length (own_root g p))
  lengths_below p (suc k) (suc n) b l =
      subst (λ (s : Sequence). length s ≤ suc n) (sym (own_step g R.parents p n l)) (go (acts g p up) (lengths_below p k up (omega (arith, R.parents n l)) (omega (arith, R.parents n l))))
    where
      up : ℕ
      up = g.parent (suc n)

      go : (b : Bool) → length (own_sequence_of g p up) ≤ up → length (cond b (extended (own_sequence_of g p up) (g.node_set up) (g.move (suc n))) (own_sequence_of g p up)) ≤ suc n
      go true r = omega (arith, extended_length (own_sequence_of g p up) (g.node_set up) (g.move (suc n)), R.parents n l)
      go false r = omega (arith, R.parents n l)

  -- an own sequence is no longer than the node's number
  pub own_length : (p : Player) (n : ℕ) → n < g.nodes → length (own_sequence_of g p n) ≤ n
  own_length p n l = lengths_below p (suc n) n (omega arith) l

  -- the first node of a set has the set's moves
  pub first_set : (h : ℕ) → h < g.sets → T (is_decision g (first_node g h)) × (g.node_set (first_node g h) ≡ h) × (node_moves g (first_node g h) ≡ g.set_moves h)
  first_set = tree_first_set g (tree_rules R)

  -- a child has a larger number than its parent
  child_above : (n c : ℕ) → c < g.nodes → 0 < c → g.parent c ≡ n → n < c
  child_above n zero l z e = absurd (omega arith)
  child_above n (suc c) l z e = omega (arith, R.parents c l)

  -- no sequence leading to a set, with a move there, is as long as there are nodes
  pub leading_length : (h : ℕ) → h < g.sets → suc (length (leading g h)) < g.nodes
  unfolding leading
  leading_length h l =
      let n = first_node g h in
      let f = first_in_lem h l in
      let c = R.moves n 0 f.1 (omega (arith, (first_set h l).2, (R.set_moves h l).0)) in
      omega (arith, own_length (g.set_player h) n f.1, child_above n c.0 c.1.0 c.1.1 c.1.2, c.1.0)

  -- a leaf has no children
  pub leaf_childless : (n c : ℕ) → T (is_leaf g n) → c < g.nodes → ¬ T (below g n c)
  leaf_childless n zero t l b = omega (arith, (below_is g n 0 b).0)
  leaf_childless n (suc c) t l b = omega (arith, ap (node_moves g) (below_is g n (suc c) b).1, leaf_moves g n t, R.at_move c l)

  -- the children of n, by their moves: each move has one
  pub children : (n : ℕ) → n < g.nodes → (f : ℕ → ℕ) → total_to g.nodes (λ c. only (below g n c) (f (g.move c))) ≡ total_to (node_moves g n) f
  children = tree_children g (tree_rules R)

-- What holds of the empty sequence, and of a sequence with a move more where it holds of the one that leads to the set, holds of every sequence of p's.
pub along_sequences : (g : Game) → GameRules g → (p : Player) (P : Sequence → Type 0) → P [] → ((h m : ℕ) → h < g.sets → T (owns g p h) → m < g.set_moves h → P (leading g h) → P (extended (leading g h) h m)) → (s : Sequence) → IsSequence g p s → P s
along_sequences g R p P none more s i = go (suc (length s)) s (omega arith) i
  where
    go : (k : ℕ) (s : Sequence) → length s < k → IsSequence g p s → P s
    go zero s b i = absurd (omega arith)
    go (suc k) s b empty = none
    go (suc k) s b (after {h = h} {m = m} l o v) = more h m l o v (go k (leading g h) (omega (arith, extended_length (leading g h) h m)) (leading_sequence g R p h l o))
