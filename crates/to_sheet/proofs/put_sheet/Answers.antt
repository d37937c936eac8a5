-- 18 by the sheet's length; with room for it the run of odds is put.
use native.Mathlib.Omega.{arith}
use native.Mathlib.Nat as NatL
use lib.Dec.{leb, leb→le}
use lib.ListN.{length}
use Rattle.checks.specs.declared.Refusal.TheVariants.{Room}
use Rattle.checks.proofs.Chains.{fine_test}
use Rattle.checks.proofs.AnswerLaws.{passed_on}
use Rattle.to_sheet.proofs.OddsFiles.{sheet_short, sheet_given}
use Rattle.to_sheet.proofs.put_sheet.Goals as goal

pub returns-in_err-has_room : goal.returns-in_err-has_room
returns-in_err-has_room c =
    let a = c.args in
    rw (passed_on c.from_residual.ensures.1) (sheet_short a.width a.odds.now a.out.now c.file_bytes-size.ensures c.has_room.ensures c.in_err-has_room.was)

pub returns : goal.returns
returns c =
    let a = c.args in
    sheet_given a.width a.odds.now a.out.now c.file_bytes-size.ensures c.has_room.ensures c.in_ok-has_room.was c.put_run.ensures

pub put_run-requires : goal.put_run-requires
put_run-requires c =
    let size = c.file_bytes-size.result in
    let room = length c.args.out.now in
    let l = leb→le size room (fine_test Room (leb size room) c.has_room.ensures c.in_ok-has_room.was) in
    (c.requires.0, c.requires.1, omega (arith, NatL.mul-le-mul c.requires.1 c.requires.2), omega (arith, c.file_bytes-size.ensures, l))

pub file_bytes-size-requires : goal.file_bytes-size-requires
file_bytes-size-requires c = omega (arith, NatL.mul-le-mul c.requires.1 c.requires.2)
