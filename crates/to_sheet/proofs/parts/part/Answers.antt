-- By 0 the quotient is 0.
use mathlib.Core.Path.{◌∙◌}
use Rattle.to_sheet.proofs.Dividing.{or_none}
use Rattle.to_sheet.proofs.parts.part.Goals as goal

pub returns : goal.returns
returns c = c.unwrap_or.ensures ∙ or_none c.args.weight c.args.divisor c.checked_div.result c.checked_div.ensures
