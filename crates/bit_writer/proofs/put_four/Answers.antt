-- The fields in a row are these four. The answer stands here so that a wrong field is named where it is refused.
use Rattle.bit_writer.proofs.put_four.Goals as goal

pub returns : goal.returns
returns c = c.put_fields.ensures
