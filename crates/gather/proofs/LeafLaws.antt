-- Leaves put one by one into their sections.
use Prim.Native.Nat.{ℕ, ◌+◌, ◌≤◌, ◌<◌}
use mathlib.Core.Path.{◌≡◌, sym, ap, ◌∙◌}
use mathlib.Core.List.{List}
use native.Mathlib.Omega.{arith}
use lib.ListN.{length, set}
use Rattle.algebra.specs.Arrays.{item}
use Rattle.algebra.specs.Sections.{Held, Apart}
use Rattle.algebra.proofs.Sections.{apart_none, apart_set}
use Rattle.model.specs.Limits.{count_limit}
use Rattle.model.specs.Game.{Game, Player, one, two}
use Rattle.model.specs.Table.{own_number}
use Rattle.loaded.specs.Sections.{section_room, weight_section, own_section_of, leaf_section, chance_section, head_section_of}
use Rattle.loaded.specs.Rows.{Rows}
use Rattle.loaded.specs.Leaves.{leaves_of, leaf_of}
use Rattle.loaded.proofs.NodeReads.{weight_read}
use Rattle.loaded.proofs.Rows.{rows_none, rows_put, rows_next, rows_held}
use Rattle.loaded.proofs.Gathered.{next_one, next_none, all_few, count_none, count_more, count_all, leaf_place}
use Rattle.gather.specs.Numbered.{Numbered}
use Rattle.gather.specs.Gathered.{leaf_numbers, LeavesBelow, LeavesGathered}

module _ (g : Game) where
  -- where the loop begins
  pub leaves_none : (l : List ℕ) → Numbered g l → LeavesBelow g 0 0 l
  leaves_none l N = record { counted = count_none g; rows = rows_none (omega (arith, N.decoded.room)) }

  -- a node that is no leaf
  pub leaf_none : (n at : ℕ) {l : List ℕ} → ¬ (g.kind n ≡ 0) → LeavesBelow g n at l → LeavesBelow g (n + 1) at l
  leaf_none n at d L = record { counted = count_more g n at at L.counted (next_none g n at d); rows = L.rows }

  -- all nodes
  pub leaves_all : (n count : ℕ) {l k : List ℕ} → Numbered g k → LeavesBelow g n count l → n ≡ g.nodes → LeavesGathered g count l
  leaves_all n count {l} N L e = record { counted = all; leaves = own; chances = rows_held 2 rows (omega arith) few }
    where
      all : count ≡ length (leaves_of g)
      all = count_all g n count L.counted e

      few : length (leaves_of g) ≤ section_room
      few = omega (arith, all_few g, N.decoded.few_nodes)

      rows : Rows (leaf_section one) 3 (leaf_numbers g) 0 (length (leaves_of g)) l
      rows = rw all at L.rows

      own : (p : Player) → Held (leaf_section p) (λ k. own_number g p (leaf_of g k)) (length (leaves_of g)) l
      own one = rows_held 0 rows (omega arith) few
      own two = rows_held 1 rows (omega arith) few

-- A leaf is put by three stores, one a section.
module _ (at a b w : ℕ) {l m o k : List ℕ} (first : m ≡ set l (leaf_section one + at) a) (second : o ≡ set m (leaf_section two + at) b) (third : k ≡ set o (chance_section + at) w) (few : at ≤ count_limit) where
  -- they change nothing else
  pub leaf_apart : Apart (leaf_section one) (head_section_of one) l k
  leaf_apart =
      let one_put : Apart (leaf_section one) (head_section_of one) l m = apart_set (leaf_section one + at) a apart_none first (omega arith) (omega arith) in
      apart_set (chance_section + at) w (apart_set (leaf_section two + at) b one_put second (omega arith) (omega arith)) third (omega arith) (omega arith)

  -- and give the leaf its row
  pub leaf_put_lem : (g : Game) (n : ℕ) → n < g.nodes → g.kind n ≡ 0 → a ≡ item l (own_section_of one + n) → b ≡ item l (own_section_of two + n) → w ≡ item l (weight_section + n) → Numbered g l → LeavesBelow g n at l → LeavesBelow g (n + 1) (at + 1) k
  leaf_put_lem g n v kind a_is b_is w_is N L =
      let place : leaf_of g at ≡ n = ap (leaf_of g) L.counted ∙ leaf_place g n v kind in
      let one_put = rows_put a L.rows (omega arith) (omega arith) first (a_is ∙ (N.own one).at 0 n v ∙ sym (ap (own_number g one) place)) in
      let two_put = rows_put b one_put (omega arith) (omega arith) second (b_is ∙ (N.own two).at 0 n v ∙ sym (ap (own_number g two) place)) in
      record {
        counted = count_more g n at (at + 1) L.counted (next_one g n at kind);
        rows = rows_next (rows_put w two_put (omega arith) (omega arith) third (w_is ∙ weight_read N.decoded v ∙ sym (ap g.weight place)));
      }
