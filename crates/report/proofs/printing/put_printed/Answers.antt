-- The report where it is given, and the line of the refusal where it is not.
use Rattle.report.proofs.Printed.{printed_report, line_room, printed_line}
use Rattle.report.proofs.printing.put_printed.Goals as goal

pub put_refusal-requires : goal.put_refusal-requires
put_refusal-requires c =
    line_room c.args.game.now c.args.plan.now c.args.out.now c.requires c.report.ensures c.in-Err.is c.number.ensures

pub returns-in-Ok : goal.returns-in-Ok
returns-in-Ok c =
    printed_report c.args.game.now c.args.plan.now c.args.out.now c.requires c.report.ensures c.in-Ok.is

pub returns-in-Err : goal.returns-in-Err
returns-in-Err c =
    printed_line c.args.game.now c.args.plan.now c.args.out.now c.requires c.report.ensures c.in-Err.is c.number.ensures c.put_refusal.ensures
