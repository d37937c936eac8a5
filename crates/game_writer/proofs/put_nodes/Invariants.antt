-- The invariant: the records of the nodes before `n` are put.
use Prim.Native.Nat.{◌/◌}
use lib.ListN.{length}
use Rattle.model.specs.Writing.{node_bits}
use Rattle.fitting.specs.GameLists.{fields_of_lists}
use Rattle.game_writer.proofs.Puttings.{Putting}
use Rattle.game_writer.proofs.put_nodes.Given as goal

abbrev pub invariant-loop-n : goal.invariant-loop-n
invariant-loop-n l = Putting (l.records / 8) (node_bits (fields_of_lists l.lists)) (length l.lists.kinds.now) l.initial.out l.n l.out
