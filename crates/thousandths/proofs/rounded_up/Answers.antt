-- Quotient and remainder make the rounded number, and no part of it leaves its type. The answer stands before what the steps ask.
use mathlib.Core.Path.{◌≡◌, sym, ap, ◌∙◌}
use native.Mathlib.Omega.{arith}
use Prim.Native.Nat.{ℕ, ◌-◌, ◌+◌, ◌*◌, ◌%◌, ◌/◌}
use Rattle.model.proofs.Thousandths.{up_by_parts, parts_fit}
use Rattle.thousandths.proofs.Amounts.{ceil_is}
use Rattle.thousandths.proofs.rounded_up.Goals as goal
use Rattle.thousandths.proofs.rounded_up.Goals.{After-div_ceil}

-- the sum, by the model's quotient
rounded : (c : After-div_ceil) → 1000 * (c.args.count / c.args.base) + c.div_ceil.result ≡ 1000 * (c.args.count / c.args.base) + (1000 * (c.args.count % c.args.base) + (c.args.base - 1)) / c.args.base
rounded c = ap (λ (k : ℕ). 1000 * (c.args.count / c.args.base) + k) (c.div_ceil.ensures ∙ ceil_is (1000 * (c.args.count % c.args.base)) c.args.base c.requires.some)

pub returns : goal.returns
returns c = rounded c ∙ sym (up_by_parts c.args.count c.args.base c.requires.some)

pub overflow_mul-result : goal.overflow_mul-result
overflow_mul-result c = omega (arith, (parts_fit _ _ c.requires.some c.requires.count_fits).whole)

pub overflow_add-result : goal.overflow_add-result
overflow_add-result c = let whole = rounded (goal.at.overflow_add-result c).After-div_ceil in omega (arith, whole, up_by_parts c.args.count c.args.base c.requires.some, (parts_fit _ _ c.requires.some c.requires.count_fits).sum)
