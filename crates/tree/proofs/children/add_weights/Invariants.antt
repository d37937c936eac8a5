-- `children::add_weights` meets its contract. The invariant: the array has, at each node, the weights of its children below n, added up.
-- With weights of 16 bits no sum of 4,095 wraps.
use Prim.Native.Nat.{◌≤◌}
use Rattle.algebra.specs.Arrays.{Holds}
use Rattle.model.specs.Game.{Game}
use Rattle.tree.specs.Games.{TreeIn}
use Rattle.tree.proofs.Weights.{weight_to}
use Rattle.tree.proofs.children.add_weights.Given as goal

abbrev pub invariant-loop-n : goal.invariant-loop-n
invariant-loop-n l = (l.n ≤ l.nodes) × ((g : Game) → TreeIn l.nodes l.numbers g → Holds (weight_to g l.n) g.nodes l.sums)
