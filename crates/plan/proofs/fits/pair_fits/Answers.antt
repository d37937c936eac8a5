-- Each player's answer is that of his plan, and check 16 is that of both.
use mathlib.Core.Path.{◌∙◌}
use Rattle.checks.proofs.AnswerLaws.{passed_on}
use Rattle.plan.proofs.Balance.{pair_broken, pair_second}
use Rattle.plan.proofs.fits.pair_fits.Goals as goal

pub returns-in_err-player_fits : goal.returns-in_err-player_fits
returns-in_err-player_fits c g sets e =
    let a = c.args in
    passed_on c.from_residual.ensures.1 ∙ pair_broken g a.x.now a.y.now (c.player_fits.ensures g sets e) c.in_err-player_fits.was

pub returns : goal.returns
returns c g sets e =
    let a = c.args in
    pair_second g a.x.now a.y.now (c.player_fits.ensures g sets e) c.in_ok-player_fits.was (c.player_fits-2.ensures g sets e)
