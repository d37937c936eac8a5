-- What a look-up in a game answers: the game's refusal, 17, or what it gives of a number in the game.
use Prim.Native.Nat.{ℕ, ◌≤◌, ◌<◌}
use mathlib.Core.Path.{◌≡◌, refl, ◌∙◌}
use mathlib.Core.List.{List, [], ◌∷◌, ◌++◌}
use lib.Dec.{ltb, ltb→lt}
use Rattle.model.specs.Game.{Game, game_of}
use Rattle.model.specs.Checks.{game_refusal, game_rows}
use Rattle.model.specs.Rows.{Rows, row, of}
use Rattle.model.specs.Call.{Call, given, refused, run}
use Rattle.model.specs.Calls.Asked.{Asked, asked, asked_rows}
use Rattle.model.proofs.Calls.Asked.{asked_decided}
use Rattle.std.specs.Prelude.{Ok, Err}
use Rattle.checks.specs.declared.Refusal.{Refusal}
use Rattle.checks.specs.declared.Refusal.TheVariants.{Number}
use Rattle.checks.specs.Answers.{refusal_number, checked_of}
use Rattle.checks.proofs.NoBuffer.{answer_refused, answer_given}
use Rattle.checks.proofs.Chains.{Checked, Left, begin, passes, stops, ends, fine_test}
use Rattle.checks.proofs.Files.{game_stops, game_passes}
use Rattle.game.proofs.Refusals.{RefusedWith}

-- a number below the count that check 17 was given
pub in_game : (number k : ℕ) {r : Checked} {u : Unit {0}} → r ≡ checked_of Number (ltb number k) → r ≡ Ok u → number < k
in_game number k e f = ltb→lt number k (fine_test Number (ltb number k) e f)

-- A look-up of a number among so many.
module _ {R : Type 0} (count : Game → ℕ) (result : Asked → R) (game : List ℕ) (number : ℕ) where
  abbrev pub lookup : Call Asked [] R
  lookup = record { rows = asked_rows count; result = result; written = λ a. tt }

  abbrev last : Rows Asked
  last = row 17 (λ a. ltb a.number (count (game_of a.game))) (λ a. count (game_of a.game) ≤ a.number) ∷ []

  begun : Left (asked_rows count) (of (λ a. a.game) game_rows ++ last) (asked game number)
  unfolding asked_rows
  begun = begin _ (asked game number)

  -- the game's refusal
  pub game_refused : {n : ℕ} → RefusedWith game n → refused n ≡ (run lookup (asked game number) tt).answer
  game_refused s = answer_refused lookup (asked_decided count).numbered (asked game number) (game_stops last (λ a. a.game) begun s.number s.some)

  -- Check 17, of a game that is accepted and has k of them.
  module _ (none : game_refusal game ≡ 0) {k : ℕ} (many : k ≡ count (game_of game)) {r : Checked} (made : r ≡ checked_of Number (ltb number k)) where
    -- the number is not in the game
    pub number_missing : {d : Refusal} → r ≡ Err d → refused (refusal_number d) ≡ (run lookup (asked game number) tt).answer
    number_missing f = answer_refused lookup (asked_decided count).numbered (asked game number) (stops Number (game_passes last (λ a. a.game) begun none) refl (made ∙ rw many) f)

    -- it is
    pub number_found : {u : Unit {0}} → r ≡ Ok u → given (result (asked game number)) ≡ (run lookup (asked game number) tt).answer
    number_found f = answer_given lookup (asked_decided count).numbered (asked game number) (ends (passes Number (game_passes last (λ a. a.game) begun none) (made ∙ rw many) f))
