-- 1 or 0 goes to the reference; a refusal leaves it as it was.
use mathlib.Core.Path.{refl, ◌∙◌}
use Rattle.exported_tolerance.proofs.Exports.{passes_from, exports_tolerance}
use Rattle.exported_tolerance.proofs.tolerates.Goals as goal

pub returns-in-Ok : goal.returns-in-Ok
returns-in-Ok c =
    let a = c.args in
    let m = exports_tolerance a.tolerance a.game.now a.plan.now a.passes.now c.in-Ok.is c.tolerates.ensures.equation refl (c.from.ensures ∙ passes_from c.in-Ok.within) in
    record { equation = m.0; promise = m.1 }

pub returns-in-Err : goal.returns-in-Err
returns-in-Err c =
    let a = c.args in
    let m = exports_tolerance a.tolerance a.game.now a.plan.now a.passes.now c.in-Err.is c.tolerates.ensures.equation c.number.ensures refl in
    record { equation = m.0; promise = m.1 }
