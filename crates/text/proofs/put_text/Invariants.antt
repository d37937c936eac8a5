-- The invariant: the first `i` bytes of the text are put, and the other bytes are as they were.
use lib.ListN.{length, get_or}
use Rattle.algebra.proofs.Arrays.{Placing}
use Rattle.text.proofs.put_text.Given as goal

abbrev pub invariant-loop-i : goal.invariant-loop-i
invariant-loop-i l = Placing l.at (λ j. get_or l.text j 0) (length l.text) l.initial.out l.i l.out
