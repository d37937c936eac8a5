-- The measure is the node's number, and a parent's is smaller.
use Rattle.sequences.proofs.recall.+last_own_move.Given as goal

abbrev pub decreases-last_own_move : goal.decreases-last_own_move
decreases-last_own_move l = l.n
