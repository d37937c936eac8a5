-- The line that names a refusal: `refusal_line`, `desk_refusal_line`.
use Rattle.std.specs.Prelude.{ℕ, List, [], ◌∷◌, length}
use Rattle.model.specs.Report as Text
use Rattle.model.specs.Call.{Call, Outcome, run}

-- Of any number: only 18, for the one buffer, which takes the line. It gives the line's length.
unfoldable pub call : Call ℕ (ℕ ∷ []) ℕ
call = record { rows = []; result = λ number. length (Text.refusal_line_of number); written = λ number. (Text.refusal_line_of number, tt) }

-- the call as a function
abbrev pub refusal_line_of : (number : ℕ) → (out : List ℕ) → Outcome (ℕ ∷ []) ℕ
refusal_line_of number out = run call number (out, tt)
