-- The number of a player's own sequence, from a node to its parent, and by what the sections have.
use Prim.Native.Nat.{ℕ, zero, suc, ◌+◌, ◌<◌}
use mathlib.Core.Path.{◌≡◌, refl, sym, ap, ◌∙◌, subst}
use mathlib.Core.List.{List}
use native.Mathlib.Omega.{arith}
use lib.Dec.{T}
use Rattle.algebra.specs.Arrays.{item}
use Rattle.algebra.proofs.Tests.{cond_yes, cond_no}
use Rattle.model.specs.Game.{Game, Player, moves_before}
use Rattle.model.specs.Sequences.{Sequence, acts, own_sequence_of, move_number}
use Rattle.model.specs.Table.{own_number}
use Rattle.model.proofs.Sequences.{number_empty, number_extended}
use Rattle.model.proofs.Tree.{owner, acts_parts, own_root, own_step}
use Rattle.loaded.specs.Sections.{parent_section, place_section, start_section, own_section_of}
use Rattle.loaded.specs.Rooted.{Rooted}
use Rattle.loaded.specs.Sets.{first_sequence}
use Rattle.loaded.proofs.NodeReads.{parent_read, place_read}
use Rattle.sequences.specs.Recall.{OwnStored}
use Rattle.sequences.proofs.Nodes.{Decision}

-- the root's is 0
pub number_root : (g : Game) (p : Player) → own_number g p 0 ≡ 0
unfolding own_number
number_root g p = rw (own_root g p) (number_empty g p)

-- a node's parent comes before it
parent_before : (g : Game) → Rooted g → (n : ℕ) → ¬ (n ≡ 0) → n < g.nodes → g.parent n < n
parent_before g R zero z l = absurd (z refl)
parent_before g R (suc n) z l = R.parents n l

module _ (g : Game) (R : Rooted g) (p : Player) where
  -- that of the move at the parent, where p moves there
  pub number_here : (n : ℕ) → ¬ (n ≡ 0) → n < g.nodes → T (acts g p (g.parent n)) → own_number g p n ≡ first_sequence g (g.node_set (g.parent n)) + g.move n
  unfolding own_number first_sequence move_number
  number_here zero z l t = absurd (z refl)
  number_here (suc n) z l t =
      let up = g.parent (suc n) in
      let h = g.node_set up in
      rw (own_step g R.parents p n l, cond_yes {A = Sequence} (acts g p up) _ _ t)
      (omega (arith, number_extended g p (own_sequence_of g p up) h (g.move (suc n)), ap (λ (r : Player). moves_before g r h) (owner g p h (acts_parts g p up t).1)))

  -- and else the parent's
  pub number_above : (n : ℕ) → ¬ (n ≡ 0) → n < g.nodes → ¬ T (acts g p (g.parent n)) → own_number g p n ≡ own_number g p (g.parent n)
  unfolding own_number
  number_above zero z l t = absurd (z refl)
  number_above (suc n) z l t = rw (own_step g R.parents p n l, cond_no {A = Sequence} (acts g p (g.parent (suc n))) _ _ t)

-- A node other than the root, and the parent that is read.
module _ {g : Game} {p : Player} {stored : ℕ} {l : List ℕ} (S : OwnStored g p stored l) {n up : ℕ} (z : ¬ (n ≡ 0)) (v : n < g.nodes) (e : up ≡ item l (parent_section + n)) where
  -- it is the node's parent
  parent_is : up ≡ g.parent n
  parent_is = e ∙ parent_read S.decoded v

  -- and comes before it
  pub parent_below : up < n
  parent_below = omega (arith, parent_is, parent_before g S.rooted n z v)

  pub parent_in : up < g.nodes
  parent_in = omega (arith, parent_below)

  -- the number of p's move there, by what is read of its set and of the node
  pub number_made : {h start place : ℕ} → Decision g up h → T (acts g p up) → start ≡ item l (start_section + h) → place ≡ item l (place_section + n) → start + place ≡ own_number g p n
  number_made {h} {start} {place} D moves s m =
      let a : start ≡ first_sequence g (g.node_set (g.parent n)) = s ∙ S.starts.at 0 h D.below ∙ ap (first_sequence g) D.set ∙ ap (λ (k : ℕ). first_sequence g (g.node_set k)) parent_is in
      let c : place ≡ g.move n = m ∙ place_read S.decoded v in
      omega (arith, a, c, number_here g S.rooted p n z v (rw parent_is at moves))

  -- where p does not move there
  module _ (waits : ¬ T (acts g p up)) where
    -- it is the parent's
    pub number_walked : {r : ℕ} → r ≡ own_number g p up → r ≡ own_number g p n
    number_walked r = r ∙ ap (own_number g p) parent_is ∙ sym (number_above g S.rooted p n z v (subst (λ (k : ℕ). ¬ T (acts g p k)) parent_is waits))

    -- which may be stored
    pub number_stored : {r own : ℕ} → up < stored → own ≡ own_section_of p → r ≡ item l (own + up) → r ≡ own_number g p n
    number_stored {r} {own} w o is = number_walked (is ∙ rw o (S.own.at 0 up w))
