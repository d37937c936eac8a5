-- The payoff table over a loaded game.
use Rattle.std.specs.Prelude.{ℕ, ◌*◌, ◌≤◌, ◌<◌, List, length, ℤ}
use Rattle.algebra.specs.Sections.{section}
use Rattle.algebra.specs.Arrays.{item}
use Rattle.model.specs.Limits.{count_limit}
use Rattle.model.specs.Game.{Game, one, two}
use Rattle.loaded.specs.Sections.{leaf_section, chance_section, payoff_section}
use Rattle.loaded.specs.Loaded.{NumbersLoaded}
use Rattle.loaded.specs.declared.Counts.{Counts}
use Rattle.sorting.specs.Pairs.{Sortable, pair_key, Rows}
use Rattle.payoff.specs.Table.{Leaves, leaves, first_in, FirstReady, sum_in, RowSummable}

-- the leaves in the sections of a loaded game
abbrev pub leaves_in : (numbers : List ℕ) → (payoffs : List ℤ) → (sorted bounds : List ℕ) → Leaves
leaves_in numbers payoffs sorted bounds = leaves (section (leaf_section one) numbers) (section (leaf_section two) numbers) (section chance_section numbers) (section (payoff_section one) payoffs) (section (payoff_section two) payoffs) sorted bounds

-- Leaves whose numbers stand from `from1` and from `from2` on.
module _ (from1 from2 : ℕ) (c : Counts) (numbers : List ℕ) where
  -- What sorting them by pairs needs.
  pub record RowsAsked (sorted bounds : List ℕ) : Type 0 where
    pub in1 : from1 ≤ length numbers
    pub in2 : from2 ≤ length numbers
    pub sortable : Sortable c.leaves c.sequences1 c.sequences2 (section from1 numbers) (section from2 numbers)
    pub sorted_long : c.leaves ≤ length sorted
    pub bounds_long : c.leaves < length bounds

  -- the rows of their pairs
  abbrev pub RowsIn : (rows : ℕ) → (sorted bounds : List ℕ) → Type 0
  RowsIn rows sorted bounds = Rows (pair_key c.sequences2 (item (section from1 numbers)) (item (section from2 numbers))) c.leaves (c.sequences1 * c.sequences2) rows sorted bounds

-- What laying them out needs: some game's numbers, and room.
pub record LayoutAsked (c : Counts) (numbers sorted bounds : List ℕ) : Type 0 where
  pub game : Game
  pub in_numbers : NumbersLoaded game c numbers
  pub sorted_long : count_limit ≤ length sorted
  pub bounds_long : count_limit < length bounds

-- One player's numbers by leaf stand from `from` on, the places in the order of the table in `sorted`, and where each row begins in `bounds`.
module _ (from : ℕ) (numbers sorted bounds : List ℕ) where
  -- the number of his sequence at row k: that of the row's first leaf
  abbrev pub sequence_at : (k : ℕ) → ℕ
  sequence_at k = first_in sorted bounds k (section from numbers)

  -- What reading it needs.
  abbrev pub SequenceReady : (k : ℕ) → Type 0
  SequenceReady k = FirstReady sorted bounds k (section from numbers)

-- The same of his payoffs.
module _ (from : ℕ) (numbers : List ℕ) (payoffs : List ℤ) (sorted bounds : List ℕ) where
  -- his sum at row k
  abbrev pub sum_at : (k : ℕ) → ℤ
  sum_at k = sum_in sorted bounds k (section chance_section numbers) (section from payoffs)

  -- What adding it up needs.
  abbrev pub SumReady : (k : ℕ) → Type 0
  SumReady k = RowSummable sorted bounds k (section chance_section numbers) (section from payoffs)
