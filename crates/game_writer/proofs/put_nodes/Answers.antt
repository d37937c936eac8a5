use Rattle.std.proofs.Common.{refl, arith}
use Rattle.game_writer.proofs.Nodes.{node_width, record_made}
use Rattle.game_writer.proofs.Puttings.{putting_none, putting_more}
use Rattle.game_writer.proofs.put_nodes.Goals as goal

pub loop-n-init : goal.loop-n-init
loop-n-init c = putting_none _ 8 _ (node_width _) _ _

pub loop-n-preserved : goal.loop-n-preserved
loop-n-preserved c =
    putting_more _ 8 _ (node_width _) _ _ (omega arith) _ _ c.loop-n.invariant _ _ _ (omega arith) refl (record_made _ _ _ c.node_at.ensures) c.put.ensures
