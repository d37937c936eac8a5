-- The gain as it is read back, compared with the tolerance. The answer stands before what the calls ask.
use mathlib.Core.Path.{◌≡◌, ◌∙◌}
use mir.Syntax.{w64}
use mir.Val.{to_z, of_z}
use mir.Facts.{to_z-of_z}
use Rattle.judgement.specs.Judgement.{gain_of}
use Rattle.tolerance.proofs.gain_within.Goals as goal
use Rattle.tolerance.proofs.gain_within.Goals.{After-gain-gain}

gain_is : (c : After-gain-gain) → let a = c.args in to_z w64 (of_z w64 c.gain-gain.result) ≡ gain_of a.denominator a.best a.value
gain_is c = to_z-of_z {w = w64} {z = c.gain-gain.result} (record { sfits = c.gain-gain.type_inv }) ∙ rw (to_z-of_z c.ranges.best, to_z-of_z c.ranges.value) at c.gain-gain.ensures

pub returns : goal.returns
returns c = rw (gain_is (goal.at.returns c).After-gain-gain) at c.at_most.ensures

pub at_most-requires : goal.at_most-requires
at_most-requires c = rw (gain_is c) c.requires.amount

pub gain-gain-requires : goal.gain-gain-requires
gain-gain-requires c = rw (to_z-of_z c.ranges.best, to_z-of_z c.ranges.value) c.requires.steps
