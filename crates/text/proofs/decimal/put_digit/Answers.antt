-- One byte is put.
use Rattle.text.proofs.Puts.{put_one}
use Rattle.text.proofs.decimal.put_digit.Goals as goal

pub returns : goal.returns
returns c = put_one _ _ _ c.requires.1
