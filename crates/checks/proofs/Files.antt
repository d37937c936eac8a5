-- The checks of a game file, and of a game file with a plan file, as calls below make them: alone, and in a chain.
use Prim.Native.Nat.{ℕ}
use mathlib.Core.Path.{◌≡◌, sym, ◌∙◌}
use mathlib.Core.List.{List, ◌++◌}
use Rattle.model.specs.Checks.{game_refusal, game_rows, pair_rows, pair_refusal}
use Rattle.model.specs.Rows.{Rows, of, refusal}
use Rattle.model.proofs.Rows.{named_of, refusal_of_lem}
use Rattle.model.proofs.Checks.{game_refusal_lem, game_named, pair_refusal_lem}
use Rattle.checks.proofs.Chains.{Left, Refuses, passes_all, stops_in, refuses_of}

-- a game file's refusal
pub game_refuses : {game : List ℕ} {n : ℕ} → n ≡ game_refusal game → ¬ (n ≡ 0) → Refuses game_rows game n
game_refuses {game} e s = record { is = sym (game_refusal_lem game) ∙ sym e; some = s }

pub game_fine : (game : List ℕ) → game_refusal game ≡ 0 → refusal game_rows game ≡ 0
game_fine game e = sym (game_refusal_lem game) ∙ e

-- a pair's refusal
pub pair_refuses : {game plan : List ℕ} {n : ℕ} → n ≡ pair_refusal game plan → ¬ (n ≡ 0) → Refuses pair_rows (record { game = game; plan = plan }) n
pair_refuses {game} {plan} e s = record { is = sym (pair_refusal_lem game plan) ∙ sym e; some = s }

pub pair_fine : (game plan : List ℕ) → pair_refusal game plan ≡ 0 → refusal pair_rows (record { game = game; plan = plan }) ≡ 0
pair_fine game plan e = sym (pair_refusal_lem game plan) ∙ e

-- The game's checks first, of a part of the input, and then the rest.
module _ {A : Type 0} {whole : Rows A} (rest : Rows A) (part : A → List ℕ) {a : A} (l : Left whole (of part game_rows ++ rest) a) where
  pub game_stops : {n : ℕ} → n ≡ game_refusal (part a) → ¬ (n ≡ 0) → Refuses whole a n
  game_stops e s = stops_in (of part game_rows) rest (named_of part game_rows game_named) l (refuses_of part game_rows (game_refuses e s))

  pub game_passes : game_refusal (part a) ≡ 0 → Left whole rest a
  game_passes e = passes_all (of part game_rows) rest (named_of part game_rows game_named) l (refusal_of_lem part game_rows a ∙ game_fine (part a) e)
