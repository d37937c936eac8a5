-- `children::weights_obey_rules` meets its contract: the sums that are compared are those that were added up.
use Rattle.tree.proofs.children.weights_obey_rules.Goals as goal

pub returns : goal.returns
returns c g t d = c.all_weights_right.ensures g t d (c.add_weights.ensures g t)
