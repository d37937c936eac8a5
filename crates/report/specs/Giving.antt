-- What `give` does of a text.
use Rattle.std.specs.Prelude.{ℕ, List, [], ◌∷◌, length}
use Rattle.model.specs.Call.{Call}

-- A text is given as it is: only 18, for the one buffer, which takes it. It gives the text's length.
unfoldable pub giving : Call (List ℕ) (ℕ ∷ []) ℕ
giving = record { rows = []; result = λ text. length text; written = λ text. (text, tt) }
