-- The line's length goes to the reference; a refusal leaves it as it was.
use mathlib.Core.Path.{refl}
use Rattle.std.proofs.Common.{rules}
use Rattle.checks.specs.Answers.{answered}
use Rattle.model.specs.Exported.{same}
use Rattle.model.proofs.Exported.{exports}
use Rattle.exported_report.proofs.refusal_line.Goals as goal

pub returns-in-Ok : goal.returns-in-Ok
returns-in-Ok c = exports (answered same) same _ c.refusal_line.ensures c.in-Ok.is refl refl

pub returns-in-Err : goal.returns-in-Err
returns-in-Err c = exports (answered same) same _ c.refusal_line.ensures c.in-Err.is (search rules) refl
