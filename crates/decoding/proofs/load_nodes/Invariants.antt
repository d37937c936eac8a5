-- The invariant: each node below `n` passes check 6, its record is put, and the payoffs of the leaves among them are put and counted.
-- A node that fails, or the end of the nodes, closes a return.
use Rattle.model.specs.Game.{game_of}
use Rattle.checks.proofs.Passes.{Passed}
use Rattle.decoding.proofs.Nodes.{well_formed_at, NodesPut, PayoffsPut}
use Rattle.decoding.proofs.load_nodes.Given as goal

abbrev pub invariant-loop-n : goal.invariant-loop-n
invariant-loop-n l = Passed (well_formed_at l.bytes) (game_of l.bytes).nodes l.n
    × NodesPut (game_of l.bytes) l.n l.initial.numbers l.numbers
    × PayoffsPut (game_of l.bytes) l.n l.leaves l.initial.payoffs l.payoffs
