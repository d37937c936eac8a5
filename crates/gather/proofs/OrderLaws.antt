-- Sets put one by one into the section of their order.
use Prim.Native.Nat.{ℕ, ◌+◌, ◌<◌}
use mathlib.Core.Path.{◌≡◌, refl, sym, ap, ◌∙◌}
use mathlib.Core.List.{List}
use native.Mathlib.Omega.{arith}
use lib.ListN.{length, set}
use Rattle.algebra.specs.Arrays.{item}
use Rattle.algebra.specs.Bounded.{join_to}
use Rattle.algebra.specs.Sections.{Held}
use Rattle.algebra.proofs.Lists.{length_join_to_more}
use Rattle.algebra.proofs.Sections.{held_none, held_more}
use Rattle.model.specs.Game.{Game}
use Rattle.model.specs.Sequences.{first_node}
use Rattle.loaded.specs.Sections.{section_room, payload_section, first_node_section, order_section}
use Rattle.loaded.specs.Sets.{begins_at, set_order}
use Rattle.loaded.proofs.NodeReads.{set_read}
use Rattle.loaded.proofs.SetOrder.{begins_one, begins_none, order_place, order_long}
use Rattle.gather.specs.Numbered.{Numbered}
use Rattle.gather.specs.Gathered.{OrderBelow}

module _ {g : Game} {l : List ℕ} (N : Numbered g l) {n : ℕ} (v : n < g.nodes) where
  -- a decision's payload is its set, which is one of the game's
  pub set_is : {h : ℕ} → g.kind n ≡ 1 → h ≡ item l (payload_section + n) → (h ≡ g.node_set n) × (g.node_set n < g.sets)
  set_is k e = (e ∙ set_read N.decoded v k, N.rules.decision_set n v k)

  -- and the first node that is read is the set's
  pub first_is : {h m : ℕ} → g.kind n ≡ 1 → h ≡ item l (payload_section + n) → m ≡ item l (first_node_section + h) → m ≡ first_node g (g.node_set n)
  first_is k e f =
      let s = set_is k e in
      f ∙ ap (λ (h : ℕ). item l (first_node_section + h)) s.0 ∙ N.first_nodes.at 0 (g.node_set n) s.1

module _ (g : Game) where
  -- where the loop begins
  pub order_none : (l : List ℕ) → Numbered g l → OrderBelow g 0 0 l
  unfolding join_to
  order_none l N = record { counted = refl; order = held_none _ (omega (arith, N.decoded.room)) }

  -- a node at which no set begins
  pub set_none : (n at : ℕ) {l : List ℕ} → (g.kind n ≡ 1 → ¬ (first_node g (g.node_set n) ≡ n)) → OrderBelow g n at l → OrderBelow g (n + 1) at l
  set_none n at d O = record { counted = omega (arith, O.counted, length_join_to_more n (begins_at g), ap length (begins_none g n d)); order = O.order }

  -- one at which a set begins
  pub set_put : (n at h : ℕ) {l k : List ℕ} → n < g.nodes → g.kind n ≡ 1 → first_node g (g.node_set n) ≡ n → h ≡ g.node_set n → k ≡ set l (order_section + at) h → at < section_room → Numbered g l → OrderBelow g n at l → OrderBelow g (n + 1) (at + 1) k
  set_put n at h v kind first is put few N O = record {
    counted = omega (arith, O.counted, length_join_to_more n (begins_at g), ap length (begins_one g n kind first));
    order = held_more h O.order (omega (arith, N.decoded.room)) put (is ∙ sym (ap (item (set_order g)) O.counted ∙ order_place g n v kind first));
  }

  -- all nodes
  pub order_all : (n count : ℕ) {l k : List ℕ} → Numbered g k → OrderBelow g n count l → n ≡ g.nodes → Held order_section (item (set_order g)) g.sets l
  unfolding set_order
  order_all n count N O e =
      let all : count ≡ g.sets = O.counted ∙ ap (λ (m : ℕ). length (join_to m (begins_at g))) e ∙ order_long g N.rules in
      rw all at O.order
