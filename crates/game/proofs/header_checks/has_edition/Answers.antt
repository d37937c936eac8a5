-- The edition in the header is the one that is read.
use mathlib.Core.Path.{ap, ◌∙◌}
use Rattle.game.proofs.Headers.{edition_right}
use Rattle.checks.specs.Answers.{checked_of}
use Rattle.checks.specs.declared.Refusal.TheVariants.{WrongEdition}
use Rattle.game.proofs.header_checks.has_edition.Goals as goal

pub returns : goal.returns
returns c = c.check.ensures ∙ ap (checked_of WrongEdition) (edition_right _ _ c.read-header.ensures)
