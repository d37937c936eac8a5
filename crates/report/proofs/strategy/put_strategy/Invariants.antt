-- The invariant: the lines of the player's sets below `h` are put, and `next` is the place after them.
use Rattle.algebra.specs.Bounded.{join_to}
use Rattle.loaded.specs.Players.{as_player}
use Rattle.text.specs.Text.{Put}
use Rattle.report.specs.Whole.{set_line}
use Rattle.report.proofs.strategy.put_strategy.Given as goal

abbrev pub invariant-loop-h : goal.invariant-loop-h
invariant-loop-h l = Put l.at (join_to l.h (set_line l.numbers (as_player l.player) l.moves)) l.initial.out l.out l.next
