-- A file that is refused is not loaded; an accepted one leaves what the rest asks, and then all is loaded.
use Rattle.model.specs.Game.{game_of}
use Rattle.checks.proofs.AnswerLaws.{passed_on}
use Rattle.game.proofs.Answers.{none_loaded, sequenced, all_loaded}
use Rattle.game.proofs.load.Goals as goal

pub returns-in_err-counts : goal.returns-in_err-counts
returns-in_err-counts c = rw (passed_on c.from_residual.ensures.1) (none_loaded c.check_into.ensures c.in_err-counts.was)

pub returns : goal.returns
returns c =
    let F = c.check_into.ensures in
    let f = c.in_ok-counts.was in
    all_loaded F f (c.load_rest.ensures _ (sequenced F f))

pub load_rest-requires : goal.load_rest-requires
load_rest-requires c = (game_of c.args.bytes.now, sequenced c.check_into.ensures c.in_ok-counts.was)
