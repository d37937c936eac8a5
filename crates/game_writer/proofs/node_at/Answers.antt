-- Each number is its list's.
use Rattle.game_writer.proofs.node_at.Goals as goal

pub returns : goal.returns
returns c = rw (c.payload_at.ensures, c.index.ensures, c.index-2.ensures)
