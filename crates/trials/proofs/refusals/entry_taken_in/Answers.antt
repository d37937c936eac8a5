-- One step after the other.
use Rattle.trials.proofs.refusals.entry_taken_in.Goals as goal

pub returns : goal.returns
returns c = rw (c.taken_in-2.ensures, c.taken_in.ensures)
