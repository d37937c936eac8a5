-- Both columns are parts of the numbers.
use Rattle.algebra.proofs.Sections.{section_part}
use Rattle.payoff.proofs.layout.sorted_rows.Goals as goal

pub returns : goal.returns
returns c =
    let a = c.args in
    rw (section_part a.from1 a.numbers.now, section_part a.from2 a.numbers.now) at c.rows.ensures

pub rows-requires : goal.rows-requires
rows-requires c =
    let a = c.args in
    (rw (section_part a.from1 a.numbers.now, section_part a.from2 a.numbers.now) c.requires.sortable, c.requires.sorted_long, c.requires.bounds_long)
