-- The line lies within the list.
use Rattle.trials.specs.Lists.{line_at}
use Rattle.trials.proofs.lists.line_at.Goals as goal

pub returns : goal.returns
unfolding line_at
returns c = rw c.find-end.ensures.0
