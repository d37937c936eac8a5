-- Writes a game file: `write_game`, `desk_write_game`.
use Rattle.std.specs.Prelude.{ℕ, List, [], ◌∷◌, length}
use Rattle.model.specs.Writing.{GameFields, game_bytes, game_fields_fit}
use Rattle.model.specs.Rules.{FieldsFit}
use Rattle.model.specs.Rows.{Rows, row}
use Rattle.model.specs.Call.{Call, Outcome, run}

-- "Writers test 17 and 18 only."
unfoldable pub rows : Rows GameFields
rows = row 17 game_fields_fit (λ t. ¬ FieldsFit t) ∷ []

-- Of the fields of a game: it gives the file's length, and the one buffer takes the file.
unfoldable pub call : Call GameFields (ℕ ∷ []) ℕ
call = record { rows = rows; result = λ t. length (game_bytes t); written = λ t. (game_bytes t, tt) }

-- the call as a function
abbrev pub write_game_of : GameFields → (out : List ℕ) → Outcome (ℕ ∷ []) ℕ
write_game_of t out = run call t (out, tt)
