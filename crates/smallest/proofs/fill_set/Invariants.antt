-- The invariant: the probabilities of the first m moves are put, and `common` is the common multiple with their denominators.
use Rattle.smallest.proofs.SetFills.{Done}
use Rattle.smallest.proofs.fill_set.Given as goal

abbrev pub invariant-loop-m : goal.invariant-loop-m
invariant-loop-m l = Done l.before l.total l.x l.set.start l.set.moves l.multiple l.limit l.initial.numerators l.numerators l.initial.denominators l.denominators l.m l.common
