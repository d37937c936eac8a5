-- The invariant: each set below `h` passes check 12. A set that fails, or the end of the sets, closes a return.
use mathlib.Core.Path.{◌≡◌}
use Rattle.algebra.specs.Bounded.{any_to}
use Rattle.algebra.specs.Sections.{Held}
use Rattle.model.specs.Game.{Game, in_set}
use Rattle.model.specs.Sequences.{first_node}
use Rattle.loaded.specs.Sections.{first_node_section}
use Rattle.checks.proofs.Passes.{Passed}
use Rattle.sequences.proofs.sets.sets_non_empty.Given as goal

abbrev pub invariant-loop-h : goal.invariant-loop-h
invariant-loop-h l = (g : Game) → l.nodes ≡ g.nodes → l.sets ≡ g.sets → Held first_node_section (first_node g) g.sets l.numbers → Passed (λ k. any_to g.nodes (in_set g k)) g.sets l.h
