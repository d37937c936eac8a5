-- The amount is its own size, and the rounded size decides.
use Prim.Native.Nat.{ℕ}
use mathlib.Core.Path.{◌≡◌, ap, ◌∙◌}
use mir.Facts.{to_z-of_z}
use lib.Dec.{leb}
use lib.IntN.{nat_abs}
use Rattle.thousandths.proofs.Amounts.{within_is}
use Rattle.thousandths.proofs.at_most.Goals as goal
use Rattle.thousandths.proofs.at_most.Goals.{After-unsigned_abs}

-- what is rounded
size_is : (c : After-unsigned_abs) → c.unsigned_abs.result ≡ nat_abs c.args.count
size_is c = rw (to_z-of_z c.ranges.count) at c.unsigned_abs.ensures.value

pub returns : goal.returns
returns c =
    let a = c.args in
    ap (λ (k : ℕ). leb k a.tolerance) (rw (size_is (goal.at.returns c).After-unsigned_abs) at c.rounded_up.ensures) ∙ within_is a.tolerance a.count a.base c.requires
