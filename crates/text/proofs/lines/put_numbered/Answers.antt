-- The label, and then the digits.
use Rattle.text.proofs.Puts.{put_then}
use Rattle.text.proofs.lines.put_numbered.Goals as goal

pub returns : goal.returns
returns c =
    put_then c.put_text-digits.ensures c.requires c.put_decimal.ensures
