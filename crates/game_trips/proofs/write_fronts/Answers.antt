-- What the writer is given is what it writes.
use Rattle.game_trips.proofs.write_fronts.Goals as goal

pub returns : goal.returns
returns c = c.write.ensures
