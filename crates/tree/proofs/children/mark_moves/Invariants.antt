-- `children::mark_moves` meets its contract. The invariant: each node below n is alone at its move, and the array has a one for each move met.
-- A one that stands there already is a move that two nodes share.
use Rattle.model.specs.Game.{Game}
use Rattle.checks.proofs.Passes.{Passed}
use Rattle.tree.specs.Games.{TreeIn}
use Rattle.tree.specs.Children.{Marked, alone}
use Rattle.tree.proofs.children.mark_moves.Given as goal

abbrev pub invariant-loop-n : goal.invariant-loop-n
invariant-loop-n l = (g : Game) → TreeIn l.nodes l.numbers g → Passed (alone g) g.nodes l.n × Marked g l.n l.seen
