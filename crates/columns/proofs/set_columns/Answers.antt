use native.Mathlib.Omega.{arith}
use Rattle.algebra.proofs.Fillings.{filling_none, filling_more, filling_all}
use Rattle.records.proofs.Widths.{few_sets}
use Rattle.records.proofs.Records.{set_player_lem}
use Rattle.columns.proofs.set_columns.Goals as goal

pub loop-h-preserved : goal.loop-h-preserved
loop-h-preserved c = (
  filling_more 0 _ _ _ _ _ _ c.loop-h.invariant.0 (omega arith) (omega arith) (set_player_lem _ _ _ c.read-entry.ensures),
  filling_more 0 _ _ _ _ _ _ c.loop-h.invariant.1 (omega arith) (omega arith) c.read-entry.ensures.moves,
)

pub read-entry-requires : goal.read-entry-requires
read-entry-requires c = omega (arith, few_sets c.args.bytes.now)

pub returns : goal.returns
returns c = (filling_all 0 _ _ _ _ _ c.loop-h.invariant.0 (omega arith), filling_all 0 _ _ _ _ _ c.loop-h.invariant.1 (omega arith))

pub loop-h-init : goal.loop-h-init
loop-h-init c = (filling_none 0 _ _ _, filling_none 0 _ _ _)
