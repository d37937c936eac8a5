-- The judgement on the values as they are read.
use borrow.Author.Rules.{rules}
use mir.Syntax.{w64}
use mir.Val.{SFits}
use mir.Facts.{to_z-of_z}
use Rattle.verdict.proofs.verdicts.judge.Goals as goal
use Rattle.verdict.proofs.verdicts.judge.Goals.{After-judge}

value1_fits : (c : After-judge) → SFits w64 c.args.values.value1
value1_fits c = search rules

value2_fits : (c : After-judge) → SFits w64 c.args.values.value2
value2_fits c = search rules

best1_fits : (c : After-judge) → SFits w64 c.args.values.best1
best1_fits c = search rules

best2_fits : (c : After-judge) → SFits w64 c.args.values.best2
best2_fits c = search rules

pub returns : goal.returns
returns c = rw (to_z-of_z (value1_fits c), to_z-of_z (value2_fits c), to_z-of_z (best1_fits c), to_z-of_z (best2_fits c)) at c.judge.ensures
