-- The invariant: the first `k` rows stand in both columns.
use Rattle.algebra.proofs.Fillings.{Filling}
use Rattle.model.specs.Game.{one, two}
use Rattle.loaded.specs.Sections.{payoff_section}
use Rattle.payoff.specs.Layout.{sum_at}
use Rattle.table.proofs.sums.Given as goal

abbrev pub invariant-loop-k : goal.invariant-loop-k
invariant-loop-k l = Filling (sum_at (payoff_section one) l.leaves.numbers.now l.leaves.payoffs.now l.leaves.sorted.now l.leaves.bounds.now) l.n l.initial.sum1 l.k l.sum1 × Filling (sum_at (payoff_section two) l.leaves.numbers.now l.leaves.payoffs.now l.leaves.sorted.now l.leaves.bounds.now) l.n l.initial.sum2 l.k l.sum2
