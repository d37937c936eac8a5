-- The invariant: the numbers of the nodes below `n` are stored. With all earlier ones stored, the last own move gives the next.
use Prim.Native.Nat.{◌+◌}
use mathlib.Core.Path.{◌≡◌}
use Rattle.algebra.specs.Sections.{Apart}
use Rattle.model.specs.Game.{Game}
use Rattle.loaded.specs.Sections.{section_room, own_section_of}
use Rattle.loaded.specs.Players.{as_player}
use Rattle.sequences.specs.Recall.{OwnStored}
use Rattle.sequences.proofs.recall.own_numbers.Given as goal

abbrev pub invariant-loop-n : goal.invariant-loop-n
invariant-loop-n l = record {
  apart : Apart (own_section_of (as_player l.player)) (own_section_of (as_player l.player) + section_room) l.initial.numbers l.numbers;
  stored : (g : Game) → l.nodes ≡ g.nodes → OwnStored g (as_player l.player) 0 l.initial.numbers → OwnStored g (as_player l.player) l.n l.numbers;
}
