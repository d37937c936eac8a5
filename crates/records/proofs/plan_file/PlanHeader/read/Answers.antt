-- Four fields in order, from bit 0 on.
use mathlib.Core.Path.{refl}
use Rattle.records.specs.PlanRecords.{plan_header_of, denominators_of}
use Rattle.records.proofs.plan_file.PlanHeader.read.Goals as goal

pub returns : goal.returns
unfolding plan_header_of denominators_of
returns c =
    rw (c.next-zeros.ensures.0, c.next-d2.ensures.2, c.next-d2.ensures.0, c.next-d1.ensures.2, c.next-d1.ensures.0, c.next-edition.ensures.2, c.next-edition.ensures.0, c.new-reader.ensures) refl
