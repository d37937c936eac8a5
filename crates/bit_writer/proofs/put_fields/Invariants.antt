-- The writer is past the fields so far.
use mathlib.Core.Path.{◌≡◌}
use lib.ListN.{take}
use Rattle.bit_writer.proofs.Fields.{past_all}
use Rattle.bit_writer.proofs.put_fields.Given as goal

abbrev pub invariant-loop-field : goal.invariant-loop-field
invariant-loop-field l = l.writer ≡ past_all l.initial.writer.bytes l.at (take l.field-index l.fields)
