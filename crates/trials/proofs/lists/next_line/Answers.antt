-- The next line begins after this one's end, if that is not the list's.
use Rattle.std.proofs.Common.{arith}
use Rattle.trials.proofs.Scans.{next_begins, next_ends}
use Rattle.trials.proofs.lists.next_line.Goals as goal

pub returns-then-end-list : goal.returns-then-end-list
returns-then-end-list c = (next_begins _ _ _ c.find-end.ensures.0 (omega arith), omega arith, omega arith, omega arith)

pub returns : goal.returns
returns c = (next_ends _ _ _ c.find-end.ensures.0 (omega arith), omega arith, omega arith, omega arith)
