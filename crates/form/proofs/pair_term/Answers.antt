-- The product of the weights leaves room for the payoff.
use mathlib.Core.Path.{◌∙◌}
use mir.Syntax.{w16, w64}
use mir.Facts.{to_z-of_z}
use Rattle.slices.proofs.Products.{weighed_is}
use Rattle.form.proofs.PairLaws.{pair_weight}
use Rattle.form.proofs.pair_term.Goals as goal

pub returns : goal.returns
returns c =
    let a = c.args in
    let payoff = c.payoff in
    to_z-of_z {w = w64} {z = c.weighed.result} (record { sfits = c.weighed.type_inv })
    ∙ weighed_is c.weighed.ensures
    (pair_weight a.x.now a.y.now c.number-drawn.ensures.0 c.item-own.ensures.0 c.number.ensures.0 c.item-other.ensures.0 c.number-2.ensures.0 c.product.ensures.0)
    (to_z-of_z {w = w16} {z = payoff.result} (record { sfits = payoff.type_inv }) ∙ payoff.ensures)
