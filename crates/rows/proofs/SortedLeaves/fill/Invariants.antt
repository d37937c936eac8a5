-- The invariant: the first `k` rows are made from their leaves, and the others are as they were.
use Rattle.algebra.proofs.Fillings.{Filling}
use Rattle.rows.specs.Rows.{leaves_sorted, row_made}
use Rattle.rows.proofs.SortedLeaves.fill.Given as goal

abbrev pub invariant-loop-k : goal.invariant-loop-k
invariant-loop-k l = Filling (row_made (leaves_sorted l.self)) l.n l.initial.rows l.k l.rows
