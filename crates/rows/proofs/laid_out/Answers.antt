-- The file's refusal comes first; else the game is loaded, and its leaves are laid out; 18 by their rows.
use Rattle.model.specs.Game.{game_of}
use Rattle.checks.proofs.AnswerLaws.{passed_on}
use Rattle.game.proofs.Loads.{load_accepted, load_refused, game_opened}
use Rattle.model.specs.Table.{payoff_table}
use Rattle.payoff.specs.Table.{TableLaid}
use Rattle.payoff.specs.Layout.{leaves_in}
use Rattle.rows.proofs.Answers.{file_refused, laid_short, laid_given}
use Rattle.rows.proofs.laid_out.Goals as goal
use Rattle.rows.proofs.laid_out.Goals.{After-lay_out-rows}

pub returns-in_err-counts : goal.returns-in_err-counts
returns-in_err-counts c = rw (passed_on c.from_residual.ensures.1) (file_refused _ _ _ (load_refused _ c.load.ensures.answer c.in_err-counts.was).0)

pub lay_out-rows-requires : goal.lay_out-rows-requires
lay_out-rows-requires c = record {
  game = game_of c.args.game.now;
  in_numbers = (game_opened _ c.load.ensures c.in_ok-counts.was).in_numbers;
  sorted_long = c.requires.sorted_long;
  bounds_long = c.requires.bounds_long;
}

-- the leaves of an accepted game
laid : (c : After-lay_out-rows) → TableLaid (payoff_table (game_of c.args.game.now)) c.lay_out-rows.result (leaves_in c.load.new.numbers c.load.new.payoffs c.lay_out-rows.new.sorted c.lay_out-rows.new.bounds)
laid c =
    let o = load_accepted _ c.load.ensures.answer c.in_ok-counts.was in
    c.lay_out-rows.ensures (game_of c.args.game.now) _ (rw o.1 (c.load.ensures.loaded o.0))

pub returns-in_err-has_room : goal.returns-in_err-has_room
returns-in_err-has_room c =
    let o = load_accepted _ c.load.ensures.answer c.in_ok-counts.was in
    rw (passed_on c.from_residual-in_err-has_room.ensures.1) (laid_short _ _ o.0 (laid (goal.at.returns-in_err-has_room c).After-lay_out-rows) c.has_room.ensures c.in_err-has_room.was)

pub returns : goal.returns
returns c =
    let o = load_accepted _ c.load.ensures.answer c.in_ok-counts.was in
    laid_given _ _ o.0 (laid (goal.at.returns c).After-lay_out-rows) c.has_room.ensures c.in_ok-has_room.was
