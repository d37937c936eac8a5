-- Three numbers of 16 bits make 48.
use mathlib.Core.Path.{refl}
use native.Mathlib.Omega.{arith}
use Rattle.slices.proofs.Products.{two_weights, three_weights}
use Rattle.form.proofs.product.Goals as goal

pub overflow_mul-result : goal.overflow_mul-result
overflow_mul-result c = omega (arith, two_weights c.requires.0 c.requires.1)

pub overflow_mul-result-2 : goal.overflow_mul-result-2
overflow_mul-result-2 c = omega (arith, three_weights c.requires.0 c.requires.1 c.requires.2)

pub returns : goal.returns
returns c = (refl, omega (arith, three_weights c.requires.0 c.requires.1 c.requires.2))
