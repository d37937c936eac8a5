-- The test that is made is the model's.
use Rattle.model.specs.GameChecks.{has_header_of}
use Rattle.game.proofs.header_checks.has_header.Goals as goal

pub returns : goal.returns
unfolding has_header_of
returns c = c.check.ensures
