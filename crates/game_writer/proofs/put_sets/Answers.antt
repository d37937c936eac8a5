use Rattle.std.proofs.Common.{◌+◌, arith}
use Rattle.model.specs.Writing.{set_bits}
use Rattle.records.specs.Records.{entry_bits}
use Rattle.fitting.specs.GameLists.{fields_of_lists}
use Rattle.game_writer.proofs.Nodes.{set_width}
use Rattle.game_writer.proofs.Puttings.{putting_none, putting_more}
use Rattle.game_writer.proofs.put_sets.Goals as goal

pub loop-h-init : goal.loop-h-init
loop-h-init c = putting_none _ 1 _ (set_width _) _ _

pub loop-h-preserved : goal.loop-h-preserved
unfolding set_bits entry_bits
loop-h-preserved c =
    putting_more 5 1 _ (set_width (fields_of_lists c.args.lists.now)) _ _ (omega arith) _ _ c.loop-h.invariant (5 + c.loop-h.h) _ _ (omega arith) (omega arith) (rw c.index.ensures) c.put.ensures
