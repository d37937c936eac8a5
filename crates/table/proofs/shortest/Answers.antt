-- So much fits the shortest as fits each.
use Rattle.table.proofs.Columns.{shortest_of_four}
use Rattle.table.proofs.shortest.Goals as goal

pub returns : goal.returns
returns c n = let a = c.args in rw (c.min-3.ensures, c.min-2.ensures, c.min.ensures) (shortest_of_four n a.sequence1 a.sequence2 a.sum1 a.sum2)
