-- The invariant: the first `h` places have the numbers of these sets' first sequences, and `next` has each player's next number.
use mathlib.Core.Path.{◌≡◌}
use lib.ListN.{length}
use Rattle.algebra.specs.Arrays.{Holds}
use Rattle.algebra.specs.Sections.{Held, Apart}
use Rattle.model.specs.Game.{Game, one}
use Rattle.loaded.specs.Sections.{start_section, own_section_of}
use Rattle.loaded.specs.Sets.{first_sequence}
use Rattle.loaded.specs.Loaded.{Decoded}
use Rattle.sequences.proofs.FirstSequences.{next_number}
use Rattle.sequences.proofs.sets.first_sequences.Given as goal

abbrev pub invariant-loop-h : goal.invariant-loop-h
invariant-loop-h l = record {
  two : length l.next ≡ 2;
  apart : Apart start_section (own_section_of one) l.initial.numbers l.numbers;
  held : (g : Game) → l.sets ≡ g.sets → Decoded g l.initial.numbers → Held start_section (first_sequence g) l.h l.numbers × Holds (next_number g l.h) 2 l.next;
}
