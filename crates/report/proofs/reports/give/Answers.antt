-- With room the text is put and counted; without it nothing is.
use native.Mathlib.Omega.{arith}
use lib.Dec.{leb, leb→le}
use lib.ListN.{length}
use Rattle.checks.specs.declared.Refusal.TheVariants.{Room}
use Rattle.checks.proofs.AnswerLaws.{passed_on}
use Rattle.checks.proofs.Chains.{fine_test}
use Rattle.report.proofs.Calls.{text_short, text_given}
use Rattle.report.proofs.reports.give.Goals as goal

pub returns-in_err-check : goal.returns-in_err-check
returns-in_err-check c =
    let a = c.args in
    rw (passed_on c.from_residual.ensures.1) (text_short a.text.now a.out.now c.check.ensures c.in_err-check.was)

pub returns : goal.returns
returns c =
    let a = c.args in
    text_given a.text.now a.out.now c.check.ensures c.in_ok-check.was c.put_text.ensures

pub put_text-requires : goal.put_text-requires
put_text-requires c =
    let a = c.args in
    let size = length a.text.now in
    let room = length a.out.now in
    let l = leb→le size room (fine_test Room (leb size room) c.check.ensures c.in_ok-check.was) in
    record { fits = omega (arith, l) }
