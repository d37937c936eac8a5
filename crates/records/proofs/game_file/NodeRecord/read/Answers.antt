-- A record is two halves of 32 bits: four fields are cut from the first, and the payload is the second.
use Prim.Native.Nat.{◌+◌, ◌*◌}
use native.Mathlib.Omega.{arith}
use Rattle.bits.proofs.Cuts.{cut_first, cut_field}
use Rattle.records.proofs.Payloads.{node_place, node_bound, node_read}
use Rattle.records.proofs.game_file.NodeRecord.read.Goals as goal

pub overflow_add-at : goal.overflow_add-at
overflow_add-at c = let a = c.args in omega (arith, node_bound a.bytes.now)

pub read-halves-requires : goal.read-halves-requires
read-halves-requires c = let a = c.args in (omega arith, omega arith, omega (arith, node_bound a.bytes.now))

pub returns : goal.returns
returns c =
    let a = c.args in
    let bytes = a.bytes.now in
    let at = a.records + 64 * a.n in
    let halves = c.read-halves.ensures in
    node_read bytes a.n at _ _ _ _ _ _
    (node_place bytes a.records a.n (omega arith))
    (cut_first bytes at 2 30 halves.0 c.cut.ensures.0)
    c.from-kind.ensures
    (cut_field bytes at 2 12 18 halves.0 c.cut-parent.ensures.0)
    (cut_field bytes at 14 6 12 halves.0 c.cut-place.ensures.0)
    (cut_field bytes at 20 12 0 halves.0 c.cut-weight.ensures.0)
    (c.read-payload.ensures bytes (at + 32) halves.1)
