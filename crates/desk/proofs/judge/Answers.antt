-- Each buffer is longer than any file that can be accepted.
use Rattle.std.proofs.Common.{arith, rules}
use Rattle.model.specs.Report.{longest_game, longest_plan}
use Rattle.desk.proofs.judge.Goals as goal

pub put_text-size-requires-clause-longest_game_in_bounds :
    goal.put_text-size-requires-clause-longest_game_in_bounds
unfolding longest_game
put_text-size-requires-clause-longest_game_in_bounds c = (omega arith, search rules)

pub put_text-size-requires-clause-longest_plan_in_bounds :
    goal.put_text-size-requires-clause-longest_plan_in_bounds
unfolding longest_plan
put_text-size-requires-clause-longest_plan_in_bounds c = (omega arith, search rules)
