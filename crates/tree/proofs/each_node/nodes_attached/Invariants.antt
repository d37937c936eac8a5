-- The invariant: each node below `n` passes check 8. A node that fails, or the end of the nodes, closes a return.
use mathlib.Core.Path.{◌≡◌}
use lib.Dec.{T}
use Rattle.model.specs.Game.{Game}
use Rattle.model.specs.GameChecks.{payloads_in_range_of, attached}
use Rattle.checks.proofs.Passes.{Passed}
use Rattle.loaded.specs.Loaded.{Decoded}
use Rattle.tree.proofs.each_node.nodes_attached.Given as goal

abbrev pub invariant-loop-n : goal.invariant-loop-n
invariant-loop-n l = (g : Game) → l.nodes ≡ g.nodes → Decoded g l.numbers → T (payloads_in_range_of g) → Passed (attached g) g.nodes l.n
