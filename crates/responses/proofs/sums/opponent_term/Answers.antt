-- Two numbers of 16 bits have a product of 32, and its product with a payoff is exact.
use mathlib.Core.Path.{◌∙◌}
use native.Mathlib.Omega.{arith}
use mir.Syntax.{w16, w64}
use mir.Facts.{to_z-of_z}
use Rattle.slices.proofs.Products.{two_weights, weighed_is}
use Rattle.responses.proofs.LeafReadings.{term_weight}
use Rattle.responses.proofs.sums.opponent_term.Goals as goal

pub overflow_mul-weight : goal.overflow_mul-weight
overflow_mul-weight c = omega (arith, two_weights c.number.ensures.1 c.item.ensures.1)

pub weighed-requires : goal.weighed-requires
weighed-requires c = omega (arith, two_weights c.number.ensures.1 c.item.ensures.1)

pub returns : goal.returns
returns c =
    let a = c.args in
    to_z-of_z {w = w64} {z = c.weighed.result} (record { sfits = c.weighed.type_inv })
    ∙ weighed_is c.weighed.ensures
    (term_weight a.y.now c.number.ensures.0 c.item.ensures.0 c.number-s.ensures.0)
    (to_z-of_z {w = w16} {z = c.payoff.result} (record { sfits = c.payoff.type_inv }) ∙ c.payoff.ensures)
