-- The invariant: the first m sequences are marked, and nothing else is changed.
use Prim.Native.Nat.{◌+◌}
use mathlib.Core.Bool.{cond}
use lib.Dec.{ltb}
use Rattle.algebra.specs.Arrays.{item}
use Rattle.algebra.specs.Sections.{Held, Apart}
use Rattle.odds.proofs.mark_moves.Given as goal

abbrev pub invariant-loop-m : goal.invariant-loop-m
invariant-loop-m l = let s = l.set in Held s.start (λ i. cond (ltb 0 (item l.x (s.start + i))) l.before 0) l.m l.marks × Apart s.start (s.start + s.moves) l.initial.marks l.marks
