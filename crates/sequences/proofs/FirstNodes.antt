-- Laws of the sets' first nodes, which are found from the last node to the first, and of check 12.
use Prim.Native.Nat.{ℕ, suc, ◌+◌, ◌-◌, ◌≤◌, ◌<◌}
use mathlib.Core.Path.{◌≡◌, sym, ◌∙◌}
use mathlib.Core.Bool.{Bool, true, false, cond}
use mathlib.Core.List.{List}
use native.Mathlib.Omega.{arith}
use native.Mathlib.Nat.{zero-add, add-zero, sub-zero}
use lib.Dec.{T, eqb, eqb→eq, ltb}
use lib.ListN.{set}
use mir.Facts.{and_yes, yes_and}
use Rattle.algebra.specs.Arrays.{item}
use Rattle.algebra.specs.Bounded.{any_to, first_to}
use Rattle.algebra.specs.Sections.{Held}
use Rattle.algebra.proofs.Tests.{cond_yes, cond_no, eqb_make}
use Rattle.algebra.proofs.Searches.{first_to_bound, first_to_below}
use Rattle.algebra.proofs.Sections.{held_put, held_as}
use Rattle.model.specs.Game.{Game, is_decision, in_set}
use Rattle.model.specs.Sequences.{first_node}
use Rattle.loaded.specs.Sections.{first_node_section}
use Rattle.sequences.proofs.Nodes.{Decision}

module _ (g : Game) where
  -- the first node of set h from `left` on; N where there is none
  unfoldable pub first_from : (left h : ℕ) → ℕ
  first_from left h = left + first_to (g.nodes - left) (λ i. in_set g h (left + i))

  -- with no node left
  from_end : (h : ℕ) → first_from g.nodes h ≡ g.nodes
  unfolding first_from
  from_end h = omega (arith, first_to_bound (g.nodes - g.nodes) (λ i. in_set g h (g.nodes + i)))

  -- with every node
  from_start : (h : ℕ) → first_from 0 h ≡ first_node g h
  unfolding first_from first_node
  from_start h = simp (zero-add, sub-zero)

  -- one node more
  from_step : (left h : ℕ) → left < g.nodes → first_from left h ≡ cond (in_set g h left) left (first_from (left + 1) h)
  unfolding first_from first_to
  from_step left h l =
      let e : g.nodes - left ≡ suc k = omega arith in
      rw (e, add-zero left) (go (in_set g h left))
    where
      k : ℕ
      k = g.nodes - (left + 1)

      shift : (i : ℕ) → left + suc i ≡ left + 1 + i
      shift i = omega arith

      shifted : first_to k (λ i. in_set g h (left + suc i)) ≡ first_to k (λ i. in_set g h (left + 1 + i))
      shifted j = first_to k (λ i. in_set g h (shift i j))

      go : (b : Bool) → left + cond b 0 (suc (first_to k (λ i. in_set g h (left + suc i)))) ≡ cond b left (left + 1 + first_to k (λ i. in_set g h (left + 1 + i)))
      go true = omega arith
      go false = omega (arith, shifted)

  -- it is the first of its own set
  from_own : (left h : ℕ) → left < g.nodes → Decision g left h → first_from left h ≡ left
  unfolding in_set
  from_own left h l D =
      from_step left h l
      ∙ cond_yes (in_set g h left) left (first_from (left + 1) h) (yes_and (is_decision g left) (eqb (g.node_set left) h) D.is (eqb_make (g.node_set left) h (sym D.set)))

  -- and changes nothing of another
  from_other : (left h : ℕ) → left < g.nodes → ¬ T (in_set g h left) → first_from (left + 1) h ≡ first_from left h
  from_other left h l other = sym (from_step left h l ∙ cond_no (in_set g h left) left (first_from (left + 1) h) other)

  module _ {from n : ℕ} where
    -- a section of N has the first nodes with no node left
    pub firsts_none : (v left : ℕ) {l : List ℕ} → Held from (λ h. v) n l → v ≡ g.nodes → left ≡ g.nodes → Held from (first_from left) n l
    firsts_none v left H e d = held_as (first_from left) H (λ h s. e ∙ sym (rw d (from_end h)))

    -- a decision is put into its set's place
    pub firsts_own : (left next h x : ℕ) {l k : List ℕ} → Decision g left h → Held from (first_from next) n l → k ≡ set l (from + h) x → h < n → next ≡ left + 1 → next ≤ g.nodes → x ≡ left → Held from (first_from left) n k
    unfolding in_set
    firsts_own left next h x D H e b s f v =
        held_put (first_from left) h x H e b (v ∙ sym (from_own left h (omega arith) D))
        (λ i w c. rw s (from_other left i (omega arith) (λ t. c (sym (D.set ∙ eqb→eq (g.node_set left) i (and_yes (is_decision g left) (eqb (g.node_set left) i) t).1)))))

    -- any other node changes nothing
    pub firsts_other : (left next : ℕ) {l : List ℕ} → ¬ T (is_decision g left) → Held from (first_from next) n l → next ≡ left + 1 → next ≤ g.nodes → Held from (first_from left) n l
    unfolding in_set
    firsts_other left next d H s f =
        held_as (first_from left) H (λ h w. rw s (from_other left h (omega arith) (λ t. d (and_yes (is_decision g left) (eqb (g.node_set left) h) t).0)))

    -- with every node the section has the sets' first nodes
    pub firsts_all : (left : ℕ) {l : List ℕ} → Held from (first_from left) n l → left ≡ 0 → Held from (first_node g) n l
    firsts_all left H z = held_as (first_node g) H (λ h s. rw z (from_start h))

  -- where it does, check 12 tests a set by its entry
  pub has_node : (h v first : ℕ) {l : List ℕ} → Held first_node_section (first_node g) g.sets l → h < g.sets → v ≡ g.nodes → first ≡ item l (first_node_section + h) → ltb first v ≡ any_to g.nodes (in_set g h)
  unfolding first_node
  has_node h v first H b e r = rw (r ∙ H.at 0 h b, e) (first_to_below g.nodes (in_set g h))
