-- The pair is that of the row's first leaf; each sum is over all its leaves.
use mathlib.Core.Path.{◌∙◌}
use mir.Syntax.{w64}
use mir.Facts.{to_z-of_z}
use Rattle.rows.proofs.SortedLeaves.row.Goals as goal

pub returns : goal.returns
returns c i = record {
  sequence1 = c.sequence-sequence1.ensures i;
  sequence2 = c.sequence-sequence2.ensures i;
  sum1 = (to_z-of_z {w = w64} {z = c.sum-sum1.result} (record { sfits = c.sum-sum1.type_inv }) ∙ c.sum-sum1.ensures) i;
  sum2 = (to_z-of_z {w = w64} {z = c.sum-sum2.result} (record { sfits = c.sum-sum2.type_inv }) ∙ c.sum-sum2.ensures) i;
}
