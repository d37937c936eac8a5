-- What a checked game's answer says: accepted, with its header, or refused, with its number.
use Prim.Native.Nat.{ℕ}
use mathlib.Core.Path.{◌≡◌, sym}
use mathlib.Core.List.{List}
use Rattle.std.specs.Prelude.{Result, Ok, Err}
use Rattle.model.specs.Call.{answer_of}
use Rattle.model.specs.Exported.{same}
use Rattle.model.specs.Checks.{game_refusal}
use Rattle.checks.specs.declared.Refusal.{Refusal}
use Rattle.checks.specs.Answers.{refusal_number, answered}
use Rattle.checks.proofs.Chains.{number_some}
use Rattle.checks.proofs.AnswerLaws.{gives, refuses}
use Rattle.records.specs.declared.game_file.Header.{Header}
use Rattle.records.specs.Records.{header_of}

-- a game that was accepted has this header
pub record Opened (bytes : List ℕ) (h : Header) : Type 0 where
  pub none : game_refusal bytes ≡ 0
  pub header : h ≡ header_of bytes

pub opened : (bytes : List ℕ) {a : Result Header Refusal} {h : Header} → answered same a ≡ answer_of (game_refusal bytes) (header_of bytes) → a ≡ Ok h → Opened bytes h
opened bytes e f = let (none, is) = gives same (game_refusal bytes) (header_of bytes) e f in record { none = none; header = is }

-- the number of a game's refusal
pub record RefusedWith (bytes : List ℕ) (r : ℕ) : Type 0 where
  pub number : r ≡ game_refusal bytes
  pub some : ¬ (r ≡ 0)

pub refused_with : (bytes : List ℕ) {a : Result Header Refusal} {d : Refusal} → answered same a ≡ answer_of (game_refusal bytes) (header_of bytes) → a ≡ Err d → RefusedWith bytes (refusal_number d)
refused_with bytes {d = d} e f = record { number = sym (refuses same (game_refusal bytes) (header_of bytes) e f); some = number_some d }
