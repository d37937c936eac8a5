-- The invariant: the places of the sets below `h` have the numbers of the sequences that lead to them, and nothing else has changed.
use mathlib.Core.Path.{◌≡◌}
use Rattle.algebra.specs.Sections.{Held, Apart}
use Rattle.model.specs.Game.{Game}
use Rattle.model.specs.Sequences.{leading_number}
use Rattle.loaded.specs.Sections.{lead_section, order_section}
use Rattle.sequences.specs.Recall.{OwnFilled}
use Rattle.sequences.proofs.sets.leads.Given as goal

abbrev pub invariant-loop-h : goal.invariant-loop-h
invariant-loop-h l = record {
  apart : Apart lead_section order_section l.initial.numbers l.numbers;
  held : (g : Game) → l.sets ≡ g.sets → OwnFilled g l.initial.numbers → Held lead_section (leading_number g) l.h l.numbers;
}
