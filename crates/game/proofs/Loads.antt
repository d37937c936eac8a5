-- What the answer to a file that is loaded says: accepted, with its counts, or refused, with its number.
use Prim.Native.Nat.{ℕ}
use mathlib.Core.Path.{◌≡◌, sym, subst}
use mathlib.Core.List.{List}
use lib.IntN.{ℤ}
use Rattle.std.specs.Prelude.{Result, Ok, Err}
use Rattle.model.specs.Game.{game_of}
use Rattle.model.specs.Call.{answer_of}
use Rattle.model.specs.Exported.{same}
use Rattle.model.specs.Checks.{game_refusal}
use Rattle.checks.specs.declared.Refusal.{Refusal}
use Rattle.checks.specs.Answers.{refusal_number, answered}
use Rattle.checks.proofs.Chains.{number_some}
use Rattle.checks.proofs.AnswerLaws.{gives, refuses}
use Rattle.loaded.specs.Counts.{counts_of}
use Rattle.loaded.specs.declared.Counts.{Counts}
use Rattle.loaded.specs.Loaded.{NumbersLoaded}
use Rattle.game.specs.Load.{LoadedBy}

-- a game that was accepted has these counts
pub load_accepted : (bytes : List ℕ) {a : Result Counts Refusal} {c : Counts} → answered same a ≡ answer_of (game_refusal bytes) (counts_of (game_of bytes)) → a ≡ Ok c → (game_refusal bytes ≡ 0) × (c ≡ counts_of (game_of bytes))
load_accepted bytes e f = gives same (game_refusal bytes) (counts_of (game_of bytes)) e f

-- the number of a game's refusal
pub load_refused : (bytes : List ℕ) {a : Result Counts Refusal} {d : Refusal} → answered same a ≡ answer_of (game_refusal bytes) (counts_of (game_of bytes)) → a ≡ Err d → (refusal_number d ≡ game_refusal bytes) × (¬ (refusal_number d ≡ 0))
load_refused bytes {d = d} e f = (sym (refuses same (game_refusal bytes) (counts_of (game_of bytes)) e f), number_some d)

-- A file that was loaded: it is accepted, these are its counts, and its numbers are in the sections.
pub record GameOpened (game : List ℕ) (c : Counts) (numbers : List ℕ) : Type 0 where
  pub none : game_refusal game ≡ 0
  pub counts_are : c ≡ counts_of (game_of game)
  pub in_numbers : NumbersLoaded (game_of game) c numbers

pub game_opened : (game : List ℕ) {a : Result Counts Refusal} {c : Counts} {numbers : List ℕ} {payoffs : List ℤ} → LoadedBy game a numbers payoffs → a ≡ Ok c → GameOpened game c numbers
game_opened game {c = c} {numbers = numbers} L e =
    let (none, is) = load_accepted game L.answer e in
    record { none = none; counts_are = is; in_numbers = subst (λ (k : Counts). NumbersLoaded (game_of game) k numbers) (sym is) (L.loaded none).in_numbers }
