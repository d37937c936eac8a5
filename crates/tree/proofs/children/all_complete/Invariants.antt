-- `children::all_complete` meets its contract. The invariant: every move of each node below n is met.
-- A node's entry of the array is compared with as many ones as it has moves.
use Rattle.model.specs.Game.{Game}
use Rattle.checks.proofs.Passes.{Passed}
use Rattle.tree.specs.Games.{TreeIn}
use Rattle.tree.specs.Children.{Marked, complete}
use Rattle.tree.proofs.children.all_complete.Given as goal

abbrev pub invariant-loop-n : goal.invariant-loop-n
invariant-loop-n l = (g : Game) → TreeIn l.nodes l.numbers g → Marked g g.nodes l.seen → Passed (complete g) g.nodes l.n
