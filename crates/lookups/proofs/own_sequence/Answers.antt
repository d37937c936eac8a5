-- The game's refusal comes first, then 17; an accepted game is loaded, with all that the look-up asks for.
use Prim.Native.Nat.{◌<◌}
use mathlib.Core.Path.{ap, ◌∙◌}
use native.Mathlib.Omega.{arith}
use Rattle.model.specs.Call.{given}
use Rattle.model.specs.Game.{game_of}
use Rattle.model.specs.Calls.OwnSequence.{call}
use Rattle.checks.specs.Answers.{answered}
use Rattle.checks.proofs.AnswerLaws.{passed_on}
use Rattle.loaded.proofs.Sides.{sets_counted}
use Rattle.game.proofs.Loads.{GameOpened, game_opened}
use Rattle.lookups.specs.Answers.{sequence_seen}
use Rattle.lookups.proofs.Asked.{in_game, game_refused, number_missing, number_found}
use Rattle.lookups.proofs.Answers.{load_refuses, sequence_is_read}
use Rattle.lookups.proofs.own_sequence.Goals as goal
use Rattle.lookups.proofs.own_sequence.Goals.{After-index, In_ok-counts}

was_loaded : (c : In_ok-counts) → GameOpened c.args.game.now c.in_ok-counts.counts c.load.new.numbers
was_loaded c = game_opened _ c.load.ensures c.in_ok-counts.was

pub returns-in_err-counts : goal.returns-in_err-counts
unfolding call
returns-in_err-counts c = ap (answered sequence_seen) (passed_on c.from_residual.ensures.1) ∙ game_refused _ _ _ _ (load_refuses _ c.load.ensures c.in_err-counts.was)

pub returns-in_err-in_game : goal.returns-in_err-in_game
unfolding call
returns-in_err-in_game c =
    let o = was_loaded (goal.at.returns-in_err-in_game c).In_ok-counts in
    ap (answered sequence_seen) (passed_on c.from_residual-in_err-in_game.ensures.1)
    ∙ number_missing _ _ _ _ o.none (sets_counted _ o.counts_are) c.in_game.ensures c.in_err-in_game.was

-- the number is that of a set
in_sets : (c : After-index) → GameOpened c.args.game.now c.in_ok-counts.counts c.load.new.numbers → c.index.result < (game_of c.args.game.now).sets
in_sets c o =
    let n = c.args.number in
    let k = c.in_ok-counts.counts.sets in
    omega (arith, in_game n k c.in_game.ensures c.in_ok-in_game.was, c.index.ensures, sets_counted _ o.counts_are)

pub own_sequence-sequence-requires : goal.own_sequence-sequence-requires
own_sequence-sequence-requires c =
    let o = was_loaded (goal.at.own_sequence-sequence-requires c).In_ok-counts in
    (_, _, in_sets c o, o.in_numbers)

pub returns : goal.returns
unfolding call
returns c =
    let o = was_loaded (goal.at.returns c).In_ok-counts in
    ap given (sequence_is_read _ (c.own_sequence-sequence.ensures _ _ (in_sets (goal.at.returns c).After-index o) o.in_numbers) c.index.ensures)
    ∙ number_found _ _ _ _ o.none (sets_counted _ o.counts_are) c.in_game.ensures c.in_ok-in_game.was
