-- The row's leaves are the sorted ones from where it begins to where the next one does.
use mathlib.Core.Path.{◌∙◌}
use mir.Syntax.{w64}
use mir.Facts.{to_z-of_z}
use Rattle.loaded.specs.Sections.{chance_section}
use Rattle.algebra.specs.Sections.{section}
use Rattle.payoff.proofs.RowSums.{row_sum}
use Rattle.payoff.proofs.layout.row_sum.Goals as goal

pub returns : goal.returns
returns c =
    let a = c.args in
    row_sum a.sorted.now a.bounds.now (section chance_section a.numbers.now) (section a.from a.payoffs.now) a.k c.item-start.ensures.0 c.item-end.ensures.0 (to_z-of_z {w = w64} {z = c.leaf_sum.result} (record { sfits = c.leaf_sum.type_inv }) ∙ c.leaf_sum.ensures)

pub leaf_sum-requires : goal.leaf_sum-requires
leaf_sum-requires c = rw (c.item-start.ensures.0, c.item-end.ensures.0) c.requires.summable
