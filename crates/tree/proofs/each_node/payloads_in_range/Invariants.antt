-- The invariant: each node below `n` passes check 7. A node that fails, or the end of the nodes, closes a return.
use mathlib.Core.Path.{◌≡◌}
use Rattle.model.specs.Game.{Game}
use Rattle.model.specs.GameChecks.{payload_in_range}
use Rattle.checks.proofs.Passes.{Passed}
use Rattle.loaded.specs.Loaded.{Decoded}
use Rattle.tree.proofs.each_node.payloads_in_range.Given as goal

abbrev pub invariant-loop-n : goal.invariant-loop-n
invariant-loop-n l = (g : Game) → l.nodes ≡ g.nodes → l.sets ≡ g.sets → Decoded g l.numbers → Passed (payload_in_range g) g.nodes l.n
