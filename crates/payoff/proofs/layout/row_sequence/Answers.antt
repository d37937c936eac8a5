-- The row's first leaf is the sorted one at which the row begins.
use native.Mathlib.Omega.{arith}
use mathlib.Core.Path.{◌≡◌, sym, ap, ◌∙◌}
use Rattle.algebra.specs.Arrays.{item}
use Rattle.algebra.specs.Sections.{section}
use Rattle.algebra.proofs.Sections.{section_long, section_at}
use Rattle.payoff.proofs.layout.row_sequence.Goals as goal
use Rattle.payoff.proofs.layout.row_sequence.Goals.{After-item-leaf}

first : (c : After-item-leaf) → let a = c.args in c.item-leaf.result ≡ item a.sorted.now (item a.bounds.now a.k)
first c = c.item-leaf.ensures.0 ∙ ap (item c.args.sorted.now) c.item.ensures.0

pub returns : goal.returns
returns c =
    let a = c.args in
    c.number.ensures.0 ∙ sym (section_at a.from a.numbers.now c.item-leaf.result 0) ∙ ap (item (section a.from a.numbers.now)) (first (goal.at.returns c).After-item-leaf)

pub number-requires : goal.number-requires
number-requires c = let a = c.args in omega (arith, first c, c.requires.leaf_in, section_long a.from a.numbers.now)
