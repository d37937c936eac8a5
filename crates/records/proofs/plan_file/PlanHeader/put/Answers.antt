-- Four fields fill the four bytes.
use native.Mathlib.Omega.{arith}
use Rattle.records.specs.PlanRecords.{plan_header_bits}
use Rattle.records.proofs.Packed.{plan_header_filled}
use Rattle.records.proofs.plan_file.PlanHeader.put.Goals as goal

pub returns : goal.returns
unfolding plan_header_bits
returns c =
    let a = c.args in
    plan_header_filled a.self a.out.now (omega arith) c.put_fields.ensures
