-- What is found from the start on is what is found from the place on: no byte before it is the one.
use Rattle.std.proofs.Common.{◌≡◌}
use Rattle.trials.specs.Lists.{place_of}
use Rattle.trials.proofs.lists.find.Given as goal

abbrev pub invariant-loop-at : goal.invariant-loop-at
invariant-loop-at l = place_of l.text l.start l.byte ≡ place_of l.text l.at l.byte
