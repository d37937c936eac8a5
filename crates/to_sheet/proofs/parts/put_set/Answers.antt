-- The sections tell whose the set is, where its weights stand and where its odds go.
use native.Mathlib.Omega.{arith}
use lib.ListN.{length}
use Rattle.loaded.proofs.SetsRead.{Stand}
use Rattle.plan.proofs.Balance.{weights_stand}
use Rattle.to_sheet.proofs.SetParts.{set_room, other_put, own_put}
use Rattle.to_sheet.proofs.parts.put_set.Goals as goal
use Rattle.to_sheet.proofs.parts.put_set.Goals.{After-set_sequences-set}

pub returns-then-eq : goal.returns-then-eq
returns-then-eq c g S l = own_put c.owner.result c.args.player c.owner.ensures g S l c.args.x.now c.args.before c.args.out.now c.if-eq.ensures c.set_sequences-set.ensures c.set_divisor-divisor.ensures c.put_parts.ensures

pub returns-else-eq : goal.returns-else-eq
returns-else-eq c g S l = other_put c.owner.result c.args.player c.owner.ensures g S l c.args.x.now c.args.before c.args.out.now c.if-eq.ensures

-- where the set's weights stand
stands : (c : After-set_sequences-set) → Stand (length c.args.x.now) c.set_sequences-set.result
stands c = weights_stand c.owner.result c.args.player c.requires.asked c.owner.ensures c.if-eq.ensures c.set_sequences-set.ensures

pub set_divisor-divisor-requires : goal.set_divisor-divisor-requires
set_divisor-divisor-requires c = (stands c).block

pub overflow_add-before : goal.overflow_add-before
overflow_add-before c = omega (arith, (set_room c.owner.result c.args.player c.owner.ensures c.requires c.if-eq.ensures c.set_sequences-set.ensures).1)

pub overflow_sub-before : goal.overflow_sub-before
overflow_sub-before c = omega (arith, (stands (goal.at.overflow_sub-before c).After-set_sequences-set).first)

pub put_parts-requires : goal.put_parts-requires
put_parts-requires c = ((stands (goal.at.put_parts-requires c).After-set_sequences-set).block, (set_room c.owner.result c.args.player c.owner.ensures c.requires c.if-eq.ensures c.set_sequences-set.ensures).1)
