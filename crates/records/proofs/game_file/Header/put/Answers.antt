-- Four fields fill the five bytes.
use native.Mathlib.Omega.{arith}
use Rattle.records.specs.Records.{header_bits}
use Rattle.records.proofs.Packed.{header_filled}
use Rattle.records.proofs.game_file.Header.put.Goals as goal

pub returns : goal.returns
unfolding header_bits
returns c =
    let a = c.args in
    header_filled a.self a.out.now (omega arith) c.put_fields.ensures
