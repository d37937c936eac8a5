-- What the inner functions of the call leave: the answer, the leaves in the order of the table, and a row made from them.
use Rattle.std.specs.Prelude.{ℕ, zero, suc, ◌≤◌, ◌<◌, ◌≡◌, Bool, true, false, List, leb, ℤ, length, Result}
use Rattle.model.specs.Limits.{count_limit}
use Rattle.model.specs.Game.{game_of}
use Rattle.model.specs.Checks.{game_refusal}
use Rattle.model.specs.Table.{payoff_table}
use Rattle.model.specs.Call.{Answer, given, refused}
use Rattle.model.specs.Exported.{same}
use Rattle.checks.specs.declared.Refusal.{Refusal}
use Rattle.checks.specs.Answers.{answered}
use Rattle.loaded.specs.Sections.{numbers_room, payoffs_room}
use Rattle.payoff.specs.Table.{Leaves, row_from, TableLaid}
use Rattle.payoff.specs.Layout.{leaves_in}
use Rattle.rows.specs.declared.Row.{Row}
use Rattle.rows.specs.declared.SortedLeaves.{SortedLeaves}

-- There is room for every game and the order of its leaves.
pub record Roomy (numbers : List ℕ) (payoffs : List ℤ) (sorted bounds : List ℕ) : Type 0 where
  pub numbers_long : numbers_room ≤ length numbers
  pub payoffs_long : payoffs_room ≤ length payoffs
  pub sorted_long : count_limit ≤ length sorted
  pub bounds_long : count_limit < length bounds

-- the answer by the number of the game's refusal, 0 being none, by whether there is room for the rows, and by how many there are
abbrev pub table_answer : (refusal : ℕ) → (roomy : Bool) → (rows : ℕ) → Answer ℕ
table_answer zero true rows = given rows
table_answer zero false rows = refused 18
table_answer (suc k) roomy rows = refused (suc k)

-- The answer for a game and room for so many rows; and of an accepted game the leaves are laid out.
pub record TableMade (bytes : List ℕ) (room : ℕ) (r : Result ℕ Refusal) (l : Leaves) : Type 0 where
  pub answer : answered same r ≡ table_answer (game_refusal bytes) (leb (length (payoff_table (game_of bytes))) room) (length (payoff_table (game_of bytes)))
  pub laid : game_refusal bytes ≡ 0 → TableLaid (payoff_table (game_of bytes)) (length (payoff_table (game_of bytes))) l

-- the leaves that these are
abbrev pub leaves_sorted : SortedLeaves → Leaves
leaves_sorted l = leaves_in l.numbers.now l.payoffs.now l.sorted.now l.bounds.now

-- row k from these leaves
abbrev pub row_made : Leaves → (k : ℕ) → Row
row_made l k = record { sequence1 = (row_from l k).sequence1; sequence2 = (row_from l k).sequence2; sum1 = (row_from l k).sum1; sum2 = (row_from l k).sum2 }
