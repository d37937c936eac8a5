-- The invariant: each node below `n` passes check 11, and the array has its depth. A node that fails, or the end of the nodes, closes a return.
use Rattle.model.specs.Game.{Game}
use Rattle.tree.specs.Games.{TreeIn}
use Rattle.tree.proofs.Depths.{Measured}
use Rattle.tree.proofs.paths.paths_in_limit.Given as goal

abbrev pub invariant-loop-n : goal.invariant-loop-n
invariant-loop-n l = (g : Game) → TreeIn l.nodes l.numbers g → Measured g l.n l.depths
