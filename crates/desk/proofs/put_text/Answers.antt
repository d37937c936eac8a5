-- Cut files give the text of whole ones, and its end is in the buffer.
use Rattle.std.proofs.Common.{◌≤◌, arith, length, length-take-le, sym, take}
use Rattle.report.proofs.Calls.{printed_most}
use Rattle.desk.proofs.Texts.{put_files}
use Rattle.desk.proofs.put_text.Goals as goal

pub returns-clause-by_index : goal.returns-clause-by_index
returns-clause-by_index c = put_files _ _ _ _ c.requires.longest_game_in_bounds.0 c.requires.longest_plan_in_bounds.0 c.put_printed.ensures

pub returns-clause-prefix_len : goal.returns-clause-prefix_len
returns-clause-prefix_len c =
    let within : c.put_printed.result ≤ length c.put_printed.new.out = omega (arith, c.put_printed.auto, c.put_printed.ensures.place, printed_most (take c.args.game_count c.args.game.now) (take c.args.plan_count c.args.plan.now)) in
    (within, sym (length-take-le _ _ within))
