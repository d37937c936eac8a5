-- What is read of a node is what a game that stands there has.
use Prim.Native.Nat.{ℕ, suc, ◌+◌, ◌<◌}
use mathlib.Core.Path.{◌≡◌, ap, ◌∙◌}
use mathlib.Core.Bool.{Bool, true, ◌&&◌}
use mathlib.Core.List.{List}
use native.Mathlib.Omega.{arith}
use lib.Dec.{eqb}
use borrow.Author.Tests.{eq-eqb, ne_eqb}
use Rattle.algebra.specs.Arrays.{item}
use Rattle.algebra.specs.Bounded.{implies}
use Rattle.model.specs.Game.{Game, is_decision, is_chance, node_moves}
use Rattle.loaded.specs.Sections.{moves_section, kind_section, parent_section, place_section, weight_section, payload_section}
use Rattle.loaded.specs.Sets.{payload_number}
use Rattle.loaded.specs.Loaded.{Decoded}

-- a kind from 3 on is no decision and no chance node
pub neither : (k : ℕ) (a b : Bool) → (implies (eqb (suc (suc (suc k))) 1) a && implies (eqb (suc (suc (suc k))) 2) b) ≡ true
unfolding implies
neither k a b = rw (ne_eqb (suc (suc (suc k))) 1 (λ e. omega arith), ne_eqb (suc (suc (suc k))) 2 (λ e. omega arith))

module _ {g : Game} {numbers : List ℕ} (D : Decoded g numbers) {n : ℕ} (l : n < g.nodes) where
  -- the fields of node n's record
  pub kind_read : item numbers (kind_section + n) ≡ g.kind n
  kind_read = D.nodes_decoded.kinds.at 0 n l

  pub parent_read : item numbers (parent_section + n) ≡ g.parent n
  parent_read = D.nodes_decoded.parents.at 0 n l

  pub place_read : item numbers (place_section + n) ≡ g.move n
  place_read = D.nodes_decoded.places.at 0 n l

  pub weight_read : item numbers (weight_section + n) ≡ g.weight n
  weight_read = D.nodes_decoded.weights.at 0 n l

  pub payload_read : item numbers (payload_section + n) ≡ payload_number g n
  payload_read = D.nodes_decoded.payloads.at 0 n l

  -- a decision's payload is its set
  pub set_read : g.kind n ≡ 1 → item numbers (payload_section + n) ≡ g.node_set n
  unfolding payload_number is_decision
  set_read k = payload_read ∙ rw (eq-eqb (g.kind n) 1 k)

  -- whose moves it has
  pub set_moves_read : {h : ℕ} → h ≡ item numbers (payload_section + n) → g.kind n ≡ 1 → g.node_set n < g.sets → item numbers (moves_section + h) ≡ node_moves g n
  unfolding node_moves is_decision
  set_moves_read e k s = ap (λ (j : ℕ). item numbers (moves_section + j)) (e ∙ set_read k) ∙ D.sets_decoded.moves.at 0 (g.node_set n) s ∙ rw (eq-eqb (g.kind n) 1 k)

  -- the payload of any other node is its move count
  pub moves_read : ¬ (g.kind n ≡ 1) → item numbers (payload_section + n) ≡ node_moves g n
  unfolding payload_number node_moves is_decision is_chance
  moves_read d = payload_read ∙ rw (ne_eqb (g.kind n) 1 d)
