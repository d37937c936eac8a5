-- The invariant: the entries of the sets before `h` are put.
use lib.ListN.{length}
use Rattle.model.specs.Writing.{set_bits}
use Rattle.fitting.specs.GameLists.{fields_of_lists}
use Rattle.game_writer.proofs.Puttings.{Putting}
use Rattle.game_writer.proofs.put_sets.Given as goal

abbrev pub invariant-loop-h : goal.invariant-loop-h
invariant-loop-h l = Putting 5 (set_bits (fields_of_lists l.lists)) (length l.lists.set_players.now) l.initial.out l.h l.out
