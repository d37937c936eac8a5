-- A read of a section is one of the section as a list.
use native.Mathlib.Omega.{arith}
use mathlib.Core.Path.{◌∙◌, sym}
use mir.Syntax.{w16, w64}
use mir.Facts.{to_z-of_z}
use lib.IntN.{pos}
use Rattle.slices.proofs.Products.{weighed_is}
use Rattle.loaded.specs.Sections.{chance_section}
use Rattle.payoff.specs.Table.{weighed_at}
use Rattle.algebra.proofs.Sections.{section_long, section_at}
use Rattle.payoff.proofs.sums.leaf_term.Goals as goal

pub returns : goal.returns
unfolding weighed_at
returns c =
    let a = c.args in
    to_z-of_z {w = w64} {z = c.weighed.result} (record { sfits = c.weighed.type_inv })
    ∙ weighed_is c.weighed.ensures (c.number-weight.ensures.0 ∙ sym (section_at chance_section a.numbers.now a.k 0)) (to_z-of_z {w = w16} {z = c.payoff.result} (record { sfits = c.payoff.type_inv }) ∙ c.payoff.ensures ∙ sym (section_at a.from a.payoffs.now a.k (pos 0)))

pub number-weight-requires : goal.number-weight-requires
number-weight-requires c = omega (arith, section_long chance_section c.args.numbers.now)

pub payoff-requires : goal.payoff-requires
payoff-requires c = omega (arith, section_long c.args.from c.args.payoffs.now)

pub weighed-requires : goal.weighed-requires
weighed-requires c = omega (arith, c.number-weight.ensures.1)
