-- The name lies within the path.
use Rattle.trials.specs.Lists.{name_of}
use Rattle.trials.proofs.lists.name_of.Goals as goal

pub returns : goal.returns
unfolding name_of
returns c = rw c.find-end.ensures.0
