-- Both gains, as the values are read.
use mathlib.Core.Path.{◌≡◌}
use borrow.Author.Rules.{rules}
use mir.Syntax.{w64}
use mir.Val.{SFits}
use mir.Facts.{to_z-of_z}
use Rattle.model.specs.Earnings.{◌over◌}
use Rattle.model.specs.Tolerance.{thousandths, at_most}
use Rattle.judgement.specs.Judgement.{gain_of}
use Rattle.tolerance.proofs.Tolerated.{both_hold, first_fails}
use Rattle.tolerance.proofs.passes.Goals as goal
use Rattle.tolerance.proofs.passes.Goals.{After-gain_within-first, After-gain_within-second}

best1_fits : (c : After-gain_within-first) → SFits w64 c.args.values.best1
best1_fits c = search rules

value1_fits : (c : After-gain_within-first) → SFits w64 c.args.values.value1
value1_fits c = search rules

best2_fits : (c : After-gain_within-second) → SFits w64 c.args.values.best2
best2_fits c = search rules

value2_fits : (c : After-gain_within-second) → SFits w64 c.args.values.value2
value2_fits c = search rules

-- player 1's gain
first_is : (c : After-gain_within-first) → let a = c.args in c.gain_within-first.result ≡ at_most (gain_of a.denominators.d1 a.values.best1 a.values.value1 over a.base) (thousandths a.tolerance)
first_is c = rw (to_z-of_z (best1_fits c), to_z-of_z (value1_fits c)) at c.gain_within-first.ensures

-- player 2's
second_is : (c : After-gain_within-second) → let a = c.args in c.gain_within-second.result ≡ at_most (gain_of a.denominators.d2 a.values.best2 a.values.value2 over a.base) (thousandths a.tolerance)
second_is c = rw (to_z-of_z (best2_fits c), to_z-of_z (value2_fits c)) at c.gain_within-second.ensures

pub returns-then-first : goal.returns-then-first
returns-then-first c = both_hold (first_is (goal.at.returns-then-first c).After-gain_within-first) (second_is (goal.at.returns-then-first c).After-gain_within-second) c.if-first.true

pub returns-else-first : goal.returns-else-first
returns-else-first c = first_fails _ (first_is (goal.at.returns-else-first c).After-gain_within-first) c.if-first.false
