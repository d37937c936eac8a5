-- Leaves counted and placed, node by node: the laws of gathering, where the test is "node n is a leaf".
use Prim.Native.Nat.{ℕ, ◌+◌, ◌≤◌, ◌<◌}
use mathlib.Core.Path.{◌≡◌}
use mathlib.Core.List.{[], ◌∷◌}
use lib.ListN.{length}
use lib.Dec.{T, eqb, eqb→eq}
use lib.IntN.{pos}
use Rattle.algebra.proofs.Filters as Numbers
use Rattle.algebra.proofs.Lists.{join_to_place}
use Rattle.algebra.proofs.Tests.{cond_yes, eqb_make}
use Rattle.model.specs.Game.{Game, Player, is_leaf}
use Rattle.model.specs.Writing.{payoff_field}
use Rattle.loaded.specs.Leaves.{leaf_at, leaves_below, leaves_of, leaf_of}

module _ (g : Game) where
  -- a leaf, and any other node
  is_leaf_lem : (n : ℕ) → g.kind n ≡ 0 → T (is_leaf g n)
  unfolding is_leaf
  is_leaf_lem n e = eqb_make (g.kind n) 0 e

  no_leaf : (n : ℕ) → ¬ (g.kind n ≡ 0) → ¬ T (is_leaf g n)
  unfolding is_leaf
  no_leaf n d t = d (eqb→eq (g.kind n) 0 t)

  -- the place after node n
  pub next_one : (n at : ℕ) → g.kind n ≡ 0 → at + 1 ≡ at + length (leaf_at g n)
  unfolding leaf_at
  next_one n at k = Numbers.next_yes (is_leaf g) n at (is_leaf_lem n k)

  pub next_none : (n at : ℕ) → ¬ (g.kind n ≡ 0) → at ≡ at + length (leaf_at g n)
  unfolding leaf_at
  next_none n at k = Numbers.next_no (is_leaf g) n at (no_leaf n k)

  -- a leaf's payoff is what its record has
  pub leaf_payoff : (p : Player) (n : ℕ) → g.kind n ≡ 0 → payoff_field g p n ≡ g.payoff p n
  unfolding payoff_field is_leaf
  leaf_payoff p n k = cond_yes (eqb (g.kind n) 0) (g.payoff p n) (pos 0) (eqb_make (g.kind n) 0 k)

  -- there are no more leaves than nodes
  pub leaves_few : (n : ℕ) → length (leaves_below g n) ≤ n
  unfolding leaves_below leaf_at
  leaves_few n = Numbers.gathered_few (is_leaf g) n

  pub all_few : length (leaves_of g) ≤ g.nodes
  unfolding leaves_of
  all_few = leaves_few g.nodes

  -- the count, where the loop begins and a turn later
  pub count_none : 0 ≡ length (leaves_below g 0)
  unfolding leaves_below leaf_at
  count_none = Numbers.count_none (is_leaf g)

  pub count_more : (n count next : ℕ) → count ≡ length (leaves_below g n) → next ≡ count + length (leaf_at g n) → next ≡ length (leaves_below g (n + 1))
  unfolding leaves_below leaf_at
  count_more n count next e h = Numbers.count_more (is_leaf g) n count next e h

  -- all nodes
  pub count_all : (n count : ℕ) → count ≡ length (leaves_below g n) → n ≡ g.nodes → count ≡ length (leaves_of g)
  unfolding leaves_of
  count_all n count e h = rw h at e

  -- a leaf's place is how many leaves come before it
  pub leaf_place : (n : ℕ) → n < g.nodes → g.kind n ≡ 0 → leaf_of g (length (leaves_below g n)) ≡ n
  unfolding leaf_of leaves_of leaves_below leaf_at
  leaf_place n l k = join_to_place 0 (leaf_at g) n l (cond_yes (is_leaf g n) (n ∷ []) [] (is_leaf_lem n k))
