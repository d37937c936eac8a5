-- The stages of loading a game file: which checks each makes, what it takes up, and what it leaves.
use Rattle.std.specs.Prelude.{ℕ, ◌≡◌, List, ◌++◌, ℤ, length, take, drop, T, Result}
use Rattle.algebra.specs.Sections.{Held}
use Rattle.model.specs.Limits.{GameLimits}
use Rattle.model.specs.Game.{Game, Player, game_of}
use Rattle.model.specs.Table.{own_number}
use Rattle.model.specs.Rules.{GameRules}
use Rattle.model.specs.GameChecks.{counts_positive_of, set_moves_in_range, moves_lead_on_of}
use Rattle.model.specs.Rows.{Rows, refusal}
use Rattle.model.specs.Checks.{record_rows, tree_rows, game_refusal}
use Rattle.model.specs.Call.{answer_of}
use Rattle.model.specs.Exported.{same}
use Rattle.checks.specs.declared.Refusal.{Refusal}
use Rattle.checks.specs.Answers.{answered}
use Rattle.records.specs.declared.game_file.Header.{Header}
use Rattle.records.specs.Records.{header_of}
use Rattle.loaded.specs.Sections.{start_section, own_section_of}
use Rattle.loaded.specs.Leaves.{leaves_of}
use Rattle.loaded.specs.Sets.{first_sequence}
use Rattle.loaded.specs.Rooted.{Rooted}
use Rattle.loaded.specs.Counts.{counts_of}
use Rattle.loaded.specs.Loaded.{Decoded}
use Rattle.loaded.specs.declared.Counts.{Counts}
use Rattle.sequences.specs.declared.SequenceCounts.{SequenceCounts}
use Rattle.sequences.specs.Sets.{sequence_counts}
use Rattle.sequences.specs.Recall.{OwnFilled}
use Rattle.decoding.specs.Decoding.{PayoffsLoaded}

-- 5 and 6: set entries and node records
unfoldable pub record_part : Rows (List ℕ)
record_part = take 2 record_rows

-- 7 to 11: each node by itself, and the tree
unfoldable pub tree_part : Rows (List ℕ)
tree_part = drop 2 record_rows ++ take 3 tree_rows

-- 12 and 13: the sets
unfoldable pub set_part : Rows (List ℕ)
set_part = drop 3 tree_rows

-- After 5 and 6: where they pass, every record stands in the sections.
pub record RecordsLoaded (bytes : List ℕ) (r : Result ℕ Refusal) (numbers : List ℕ) (payoffs : List ℤ) : Type 0 where
  pub answer : answered same r ≡ answer_of (refusal record_part bytes) (length (leaves_of (game_of bytes)))
  pub decoded : refusal record_part bytes ≡ 0 → Decoded (game_of bytes) numbers
  pub by_leaf : refusal record_part bytes ≡ 0 → PayoffsLoaded (game_of bytes) payoffs

-- What 1 to 6 leave for 7 to 11.
pub record FileDecoded (bytes : List ℕ) (header : Header) (numbers : List ℕ) : Type 0 where
  pub header_is : header ≡ header_of bytes
  pub counts : T (counts_positive_of (game_of bytes))
  pub set_moves : T (set_moves_in_range (game_of bytes))
  pub decoded : Decoded (game_of bytes) numbers

-- What 1 to 11 leave for 12 and 13.
pub record FileRooted (bytes : List ℕ) (header : Header) (numbers : List ℕ) : Type 0 where
  pub header_is : header ≡ header_of bytes
  pub rooted : Rooted (game_of bytes)
  pub moves_lead_on : T (moves_lead_on_of (game_of bytes))
  pub decoded : Decoded (game_of bytes) numbers

-- After the sequences are numbered: how many there are, and by number the first of each set and both players' own to each node.
pub record SequencesNumbered (g : Game) (r : SequenceCounts) (numbers : List ℕ) : Type 0 where
  pub counted : r ≡ sequence_counts g
  pub decoded : Decoded g numbers
  pub starts : Held start_section (first_sequence g) g.sets numbers
  pub own : (p : Player) → Held (own_section_of p) (own_number g p) g.nodes numbers

-- All sections that the checks take hold the game.
pub record SequencesIn (g : Game) (numbers : List ℕ) : Type 0 where
  pub filled : OwnFilled g numbers
  pub starts : Held start_section (first_sequence g) g.sets numbers

-- After 12 and 13.
pub record SequencesLoaded (bytes : List ℕ) (r : Result Counts Refusal) (numbers : List ℕ) : Type 0 where
  pub answer : answered same r ≡ answer_of (refusal set_part bytes) (counts_of (game_of bytes))
  pub sequences : refusal set_part bytes ≡ 0 → SequencesIn (game_of bytes) numbers

-- After 1 to 13.
pub record FileChecked (bytes : List ℕ) (r : Result Counts Refusal) (numbers : List ℕ) (payoffs : List ℤ) : Type 0 where
  pub answer : answered same r ≡ answer_of (game_refusal bytes) (counts_of (game_of bytes))
  pub sequences : game_refusal bytes ≡ 0 → SequencesIn (game_of bytes) numbers
  pub by_leaf : game_refusal bytes ≡ 0 → PayoffsLoaded (game_of bytes) payoffs

-- What an accepted game leaves for the sections that no check takes.
pub record Sequenced (g : Game) (counts : Counts) (numbers : List ℕ) : Type 0 where
  pub rules : GameRules g
  pub limits : GameLimits g
  pub counts_are : counts ≡ counts_of g
  pub sequences : SequencesIn g numbers
