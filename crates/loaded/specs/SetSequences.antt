-- The sequences of a set, as its sections have them.
use Rattle.std.specs.Prelude.{ℕ, ◌+◌, List}
use Rattle.algebra.specs.Arrays.{item}
use Rattle.model.specs.Game.{Game}
use Rattle.model.specs.Sequences.{leading_number}
use Rattle.loaded.specs.Sections.{moves_section, start_section, lead_section}
use Rattle.loaded.specs.Sets.{first_sequence}
use Rattle.loaded.specs.declared.SetSequences.{SetSequences}

-- what stands there of set h
unfoldable pub set_sequences_in : (numbers : List ℕ) → (h : ℕ) → SetSequences
set_sequences_in numbers h = record { start = item numbers (start_section + h); moves = item numbers (moves_section + h); lead = item numbers (lead_section + h) }

-- what a game has of it
unfoldable pub set_sequences_of : Game → (h : ℕ) → SetSequences
set_sequences_of g h = record { start = first_sequence g h; moves = g.set_moves h; lead = leading_number g h }
