-- Two fields fill the byte.
use Prim.Native.Nat.{◌+◌, ◌*◌}
use mathlib.Core.Path.{refl}
use native.Mathlib.Omega.{arith}
use Rattle.records.specs.Records.{entry_bits}
use Rattle.records.proofs.Packed.{entry_filled}
use Rattle.records.proofs.game_file.SetEntry.put.Goals as goal

pub returns : goal.returns
unfolding entry_bits
returns c =
    let a = c.args in
    entry_filled a.self a.h (40 + 8 * a.h) a.out.now refl (omega arith) c.put_fields.ensures
