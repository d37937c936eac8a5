-- The invariant: the first `k` rows stand in both columns.
use Rattle.algebra.proofs.Fillings.{Filling}
use Rattle.model.specs.Game.{one, two}
use Rattle.loaded.specs.Sections.{leaf_section}
use Rattle.payoff.specs.Layout.{sequence_at}
use Rattle.table.proofs.sequences.Given as goal

abbrev pub invariant-loop-k : goal.invariant-loop-k
invariant-loop-k l = Filling (sequence_at (leaf_section one) l.leaves.numbers.now l.leaves.sorted.now l.leaves.bounds.now) l.n l.initial.sequence1 l.k l.sequence1 × Filling (sequence_at (leaf_section two) l.leaves.numbers.now l.leaves.sorted.now l.leaves.bounds.now) l.n l.initial.sequence2 l.k l.sequence2
