use native.Mathlib.Omega.{arith}
use Rattle.std.proofs.Common.{rules}
use Rattle.records.proofs.Widths.{readable}
use Rattle.columns.proofs.NodeBuffers.{none_filled, node_fits, more_filled, all_filled}
use Rattle.columns.proofs.GameBuffers.node_columns.Goals as goal

pub loop-n-init : goal.loop-n-init
loop-n-init c = (none_filled _ _, search rules)

pub read-requires : goal.read-requires
read-requires c = readable c.requires.0 (omega arith)

pub put_node-requires : goal.put_node-requires
put_node-requires c = node_fits _ _ _ _ _ _ c.requires.0.nodes_is c.requires.1 c.loop-n.invariant.0 c.loop-n-test.true

pub loop-n-preserved : goal.loop-n-preserved
loop-n-preserved c =
    let more = more_filled _ _ _ _ _ _ c.requires.0.nodes_is c.requires.1 c.loop-n.invariant.0 c.loop-n-test.true _ c.read.ensures in
    (rw c.put_node.ensures.fields more, search rules)

pub returns : goal.returns
returns c = record { fields = all_filled _ _ _ _ c.loop-n.invariant.0 (omega (arith, c.loop-n-test.false, c.requires.0.nodes_is)); same = c.loop-n.invariant.1 }
