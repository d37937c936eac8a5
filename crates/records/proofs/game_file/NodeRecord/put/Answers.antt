-- Four fields, and the payload after them, fill the eight bytes.
use Prim.Native.Nat.{◌+◌, ◌*◌, ◌/◌}
use native.Mathlib.Omega.{arith}
use Rattle.records.proofs.Packed.{node_filled}
use Rattle.records.proofs.game_file.NodeRecord.put.Goals as goal

pub returns : goal.returns
returns c =
    let a = c.args in
    node_filled a.self (a.records / 8 + 8 * a.n) (a.records + 64 * a.n) _ a.out.now c.number.ensures (omega arith) (omega arith) c.put_fields.ensures c.put.ensures
