-- Player 1's sets first; both together are all sets.
use mathlib.Core.Path.{sym, ap, ◌∙◌}
use native.Mathlib.Omega.{arith}
use native.Mathlib.Nat.{le_refl}
use Rattle.model.specs.Game.{one, two}
use Rattle.model.specs.Limits.{count_limit}
use Rattle.checks.specs.declared.Refusal.TheVariants.{NoOdds}
use Rattle.checks.specs.Answers.{checked_of}
use Rattle.checks.proofs.AnswerLaws.{passed_on}
use Rattle.checks.proofs.Chains.{first_broken, then_second}
use Rattle.plan.proofs.Refusals.{counted}
use Rattle.odds.specs.Marks.{player_given_of}
use Rattle.odds.proofs.Marks.{given_both, all_asked}
use Rattle.odds.proofs.given.Goals as goal

pub returns-in_err-player_given : goal.returns-in_err-player_given
returns-in_err-player_given c g odds L X Y =
    let e = (counted L.counts_are).sets_are in
    let was = c.in_err-player_given.was in
    passed_on c.from_residual.ensures.1
    ∙ sym was
    ∙ first_broken NoOdds (player_given_of g odds one) (player_given_of g odds two) (c.player_given.ensures g _ odds L e X) was
    ∙ ap (checked_of NoOdds) (given_both g odds)

pub returns : goal.returns
returns c g odds L X Y =
    let e = (counted L.counts_are).sets_are in
    then_second NoOdds (player_given_of g odds one) (player_given_of g odds two) (c.player_given.ensures g _ odds L e X) c.in_ok-player_given.was (c.player_given-2.ensures g _ odds L e Y)
    ∙ ap (checked_of NoOdds) (given_both g odds)

pub player_given-requires : goal.player_given-requires
player_given-requires c = all_asked c.requires.0 c.requires.1 (le_refl count_limit)

pub player_given-requires-2 : goal.player_given-requires-2
player_given-requires-2 c = all_asked c.requires.0 c.requires.2 (omega (arith, c.player_given.auto.marks, le_refl count_limit))
