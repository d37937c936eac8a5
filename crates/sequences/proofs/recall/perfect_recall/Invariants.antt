-- The invariant: each node below `n` passes its test. A node that fails, or the end of the nodes, closes a return.
use mathlib.Core.Path.{◌≡◌}
use Rattle.model.specs.Game.{Game}
use Rattle.checks.proofs.Passes.{Passed}
use Rattle.sequences.specs.Recall.{OwnFilled, recall_test}
use Rattle.sequences.proofs.recall.perfect_recall.Given as goal

abbrev pub invariant-loop-n : goal.invariant-loop-n
invariant-loop-n l = (g : Game) → l.nodes ≡ g.nodes → OwnFilled g l.numbers → Passed (recall_test g) g.nodes l.n
