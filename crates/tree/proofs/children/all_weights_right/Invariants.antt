-- `children::all_weights_right` meets its contract. The invariant: each node below n passes the test of check 10.
use mathlib.Core.Path.{◌≡◌}
use Rattle.algebra.specs.Arrays.{Holds}
use Rattle.model.specs.Game.{Game}
use Rattle.model.specs.GameChecks.{children_weight}
use Rattle.checks.proofs.Passes.{Passed}
use Rattle.tree.specs.Games.{TreeIn}
use Rattle.tree.specs.Children.{weight_test}
use Rattle.tree.proofs.children.all_weights_right.Given as goal

abbrev pub invariant-loop-n : goal.invariant-loop-n
invariant-loop-n l = (g : Game) → TreeIn l.nodes l.numbers g → l.root_weight ≡ g.root_weight → Holds (children_weight g) g.nodes l.sums → Passed (weight_test g) g.nodes l.n
