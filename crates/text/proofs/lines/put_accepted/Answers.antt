-- The text is the literal.
use Rattle.model.specs.Report.{ascii, line}
use Rattle.text.proofs.lines.put_accepted.Goals as goal

pub put_text-requires : goal.put_text-requires
unfolding line ascii
put_text-requires c = c.requires

pub returns : goal.returns
unfolding line ascii
returns c = c.put_text.ensures
