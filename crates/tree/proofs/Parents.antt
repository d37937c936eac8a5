-- What is read of a node, of every game whose nodes hang together.
use Prim.Native.Nat.{ℕ, zero, suc, ◌+◌, ◌<◌}
use mathlib.Core.Path.{◌≡◌, ap, ◌∙◌}
use mathlib.Core.List.{List}
use native.Mathlib.Omega.{arith}
use Rattle.algebra.specs.Arrays.{item}
use Rattle.model.specs.Limits.{count_limit}
use Rattle.model.specs.Game.{Game, node_moves}
use Rattle.loaded.specs.Sections.{kind_section, parent_section, place_section, weight_section}
use Rattle.loaded.proofs.NodeReads.{kind_read, parent_read, place_read, weight_read}
use Rattle.tree.specs.Games.{SetThere, TreeIn}

-- Node i, other than the root, hangs at node p.
pub record Hangs (g : Game) (p i : ℕ) : Type 0 where
  pub after : 0 < i
  pub parent : p ≡ g.parent i
  pub low : p < i
  pub inside : p < g.nodes
  pub near : p < count_limit

-- It stands at move m there.
pub record Stands (g : Game) (p m i : ℕ) : Type 0 where
  pub hangs : Hangs g p i
  pub move : m ≡ g.move i
  pub small : m < 64

module _ {nodes : ℕ} {numbers : List ℕ} {g : Game} (t : TreeIn nodes numbers g) where
  -- a node's kind and weight, as they are read
  pub kind_in : {n : ℕ} → n < nodes → item numbers (kind_section + n) ≡ g.kind n
  kind_in l = kind_read t.decoded (omega arith)

  pub weight_in : {n : ℕ} → n < nodes → item numbers (weight_section + n) ≡ g.weight n
  weight_in l = weight_read t.decoded (omega arith)

  -- its set is there
  pub set_is_there : {n : ℕ} → n < nodes → SetThere g n
  set_is_there {n} l =
      let inside : n < g.nodes = omega arith in
      record { inside = inside; set = t.rooted.decision_set n inside }

  -- it hangs at the parent that is read
  pub hangs : {p i : ℕ} → 0 < i → i < nodes → p ≡ item numbers (parent_section + i) → Hangs g p i
  hangs {p} {i = zero} after l e = absurd (omega arith)
  hangs {p} {i = suc i} after l e =
      let inside : suc i < g.nodes = omega arith in
      let parent : p ≡ g.parent (suc i) = e ∙ parent_read t.decoded inside in
      let low : p < suc i = omega (arith, t.rooted.parents i inside) in
      record { after = after; parent = parent; low = low; inside = omega arith; near = omega (arith, t.rooted.few_nodes) }

  -- at the move that is read
  pub stands : {p m i : ℕ} → 0 < i → i < nodes → p ≡ item numbers (parent_section + i) → m ≡ item numbers (place_section + i) → Stands g p m i
  stands {p} {m} {i = zero} after l e f = absurd (omega arith)
  stands {p} {m} {i = suc i} after l e f =
      let inside : suc i < g.nodes = omega arith in
      let h = hangs after l e in
      let move : m ≡ g.move (suc i) = f ∙ place_read t.decoded inside in
      record { hangs = h; move = move; small = omega (arith, t.rooted.at_move i inside, ap (node_moves g) h.parent, t.rooted.few_moves p h.inside) }
