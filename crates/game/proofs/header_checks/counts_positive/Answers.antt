-- Both counts are above 0, or one of them is not.
use mathlib.Core.Path.{◌≡◌, ap, ◌∙◌}
use mathlib.Core.Bool.{Bool, ◌&&◌}
use native.Mathlib.Omega.{arith}
use lib.Dec.{ltb}
use borrow.Author.Tests.{lt-ltb, le-ltb}
use Rattle.model.specs.Game.{game_of}
use Rattle.model.specs.GameChecks.{counts_positive_of}
use Rattle.records.proofs.Headers.{header_nodes, header_weight}
use Rattle.checks.specs.declared.Refusal.TheVariants.{ZeroCount}
use Rattle.checks.specs.Answers.{checked_of}
use Rattle.game.proofs.header_checks.counts_positive.Goals as goal
use Rattle.game.proofs.header_checks.counts_positive.Goals.{then-header-gt0, else-header-gt0}

pub returns : goal.returns
unfolding counts_positive_of
returns c =
    let e = c.read-header.ensures in
    c.check.ensures ∙ ap (checked_of ZeroCount) (rw (← header_nodes _ _ e, ← header_weight _ _ e) (elim c.if-header-gt0.branch [
      | then-header-gt0 w ↦ w.check-is ∙ rw (lt-ltb 0 c.read-header.result.nodes w.if-header-gt0.true)
      | else-header-gt0 w ↦ w.check-is ∙ rw (le-ltb 0 c.read-header.result.nodes (omega (arith, w.if-header-gt0.false)))
    ]))
