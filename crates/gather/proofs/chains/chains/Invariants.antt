-- The invariant: the chains of the sets from `h` on are made.
use mathlib.Core.Path.{◌≡◌}
use Rattle.algebra.specs.Sections.{Apart}
use Rattle.model.specs.Game.{Game, one, two}
use Rattle.model.specs.Sequences.{sequence_count}
use Rattle.loaded.specs.Sections.{head_section_of, numbers_room}
use Rattle.gather.specs.Numbered.{Numbered}
use Rattle.gather.specs.Gathered.{ChainsFrom}
use Rattle.gather.proofs.chains.chains.Given as goal

abbrev pub invariant-loop-h : goal.invariant-loop-h
invariant-loop-h l = Apart (head_section_of one) numbers_room l.initial.numbers l.numbers × ((g : Game) → l.sets ≡ g.sets → l.sequences1 ≡ sequence_count g one → l.sequences2 ≡ sequence_count g two → Numbered g l.initial.numbers → ChainsFrom g l.h l.numbers)
