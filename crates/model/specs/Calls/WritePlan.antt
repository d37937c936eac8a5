-- Writes a plan file: `write_plan`, `desk_write_plan`.
use Rattle.std.specs.Prelude.{ℕ, List, [], ◌∷◌, length}
use Rattle.model.specs.Writing.{PlanFields, plan_fields_of, plan_bytes, plan_fields_fit}
use Rattle.model.specs.Rules.{PlanFieldsFit}
use Rattle.model.specs.Rows.{Rows, row}
use Rattle.model.specs.Call.{Call, Outcome, run}

-- "Writers test 17 and 18 only."
unfoldable pub rows : Rows PlanFields
rows = row 17 (λ t. plan_fields_fit t.d1 t.d2 t.weights) (λ t. ¬ PlanFieldsFit t) ∷ []

-- the file
abbrev pub bytes_of : PlanFields → List ℕ
bytes_of t = plan_bytes t.d1 t.d2 t.weights

-- Of D1, D2 and all weights in file order: it gives the file's length, and the one buffer takes the file.
unfoldable pub call : Call PlanFields (ℕ ∷ []) ℕ
call = record { rows = rows; result = λ t. length (bytes_of t); written = λ t. (bytes_of t, tt) }

-- the call as a function
abbrev pub write_plan_of : (d1 d2 : ℕ) → (weights out : List ℕ) → Outcome (ℕ ∷ []) ℕ
write_plan_of d1 d2 weights out = run call (plan_fields_of d1 d2 weights) (out, tt)
