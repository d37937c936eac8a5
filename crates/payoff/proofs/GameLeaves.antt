-- The leaves of a loaded game can be sorted by their pairs of sequences, and the rows from them are the game's payoff table.
use Prim.Native.Nat.{ℕ, ◌<◌}
use mathlib.Core.Path.{◌≡◌, ap}
use mathlib.Core.List.{List}
use native.Mathlib.Omega.{arith}
use lib.IntN.{ℤ}
use lib.ListN.{length}
use Rattle.model.specs.Game.{Game, Player, one, two}
use Rattle.model.specs.Sequences.{sequence_count}
use Rattle.model.specs.Table.{own_number, payoff_table}
use Rattle.model.proofs.Numbers.{sequences_few}
use Rattle.loaded.specs.Sections.{leaf_section}
use Rattle.loaded.specs.Leaves.{leaves_of, Column}
use Rattle.loaded.specs.Counts.{counts_of}
use Rattle.loaded.specs.Loaded.{NumbersLoaded, Loaded}
use Rattle.loaded.specs.declared.Counts.{Counts}
use Rattle.loaded.proofs.Gathered.{all_few}
use Rattle.loaded.proofs.LeafColumns.{column_below}
use Rattle.loaded.proofs.Views.{leaves_counted, column_in, gathered_in}
use Rattle.algebra.specs.Sections.{section}
use Rattle.sorting.specs.Sorted.{Keyed}
use Rattle.sorting.specs.Pairs.{Sortable}
use Rattle.payoff.specs.Table.{TableLaid}
use Rattle.payoff.specs.Layout.{leaves_in, RowsIn}
use Rattle.payoff.proofs.PayoffTables.{table_laid}
use Rattle.payoff.proofs.GameTables.{addable, table_rows}

module _ {g : Game} {c : Counts} {numbers : List ℕ} (N : NumbersLoaded g c numbers) where
  counted1 : c.sequences1 ≡ sequence_count g one
  unfolding counts_of
  counted1 = ap (λ (c : Counts). c.sequences1) N.counts_are

  counted2 : c.sequences2 ≡ sequence_count g two
  unfolding counts_of
  counted2 = ap (λ (c : Counts). c.sequences2) N.counts_are

  leaves_are : c.leaves ≡ length (leaves_of g)
  leaves_are = leaves_counted g N.counts_are

  -- a player's sequence numbers are keys
  keyed : (p : Player) → Keyed (section (leaf_section p) numbers) c.leaves (sequence_count g p)
  keyed p =
      let column : Column g (own_number g p) (section (leaf_section p) numbers) = column_in (N.leaves p) in
      record { long = omega (arith, leaves_are, column.long); below = λ k v. column_below g N.rules p column k (omega (arith, leaves_are)) }

  -- they can be sorted by pairs
  pub numbers_sortable : Sortable c.leaves c.sequences1 c.sequences2 (section (leaf_section one) numbers) (section (leaf_section two) numbers)
  numbers_sortable = record {
    first_keyed = rw counted1 (keyed one);
    second_keyed = rw counted2 (keyed two);
    few_leaves = omega (arith, leaves_are, all_few g, N.limits.nodes);
    few1 = omega (arith, counted1, sequences_few g N.rules one, N.limits.nodes);
    few2 = omega (arith, counted2, sequences_few g N.rules two, N.limits.nodes);
  }

-- the rows from them are the game's table
pub rows_are_table : {g : Game} {c : Counts} {numbers : List ℕ} {payoffs : List ℤ} → Loaded g c numbers payoffs → {rows : ℕ} {sorted bounds : List ℕ} → RowsIn (leaf_section one) (leaf_section two) c numbers rows sorted bounds → c.leaves < length bounds → TableLaid (payoff_table g) rows (leaves_in numbers payoffs sorted bounds)
rows_are_table {g} {c} L rows few =
    let N = L.in_numbers in
    let S = numbers_sortable N in
    let G = gathered_in L in
    table_rows g G (rw (counted1 N, counted2 N) at (table_laid _ _ c.leaves c.sequences1 c.sequences2 S.first_keyed S.second_keyed rows few _ _ _ (addable g G N.limits one) (addable g G N.limits two)))
