-- The answer exported, with what it means.
use Prim.Native.Nat.{ℕ}
use mathlib.Core.Path.{◌≡◌, refl}
use mathlib.Core.List.{List}
use Rattle.model.specs.Exported.{same, refusal_of, numbers_after, exported, leaves}
use Rattle.model.specs.Calls.Tolerance.{tolerates, ToleranceMet, passes_number, answer_in}
use Rattle.model.proofs.Call.{meant}
use Rattle.model.proofs.Exported.{exports_answer}
use Rattle.model.proofs.Calls.Tolerance.{met_in}
use Rattle.std.specs.Prelude.{Bool, true, false, Result}
use Rattle.std.specs.Int.{from_bool}
use Rattle.checks.specs.declared.Refusal.{Refusal}
use Rattle.checks.specs.Answers.{answered}

-- a yes or no as the number that is lent for it
pub passes_from : (b : Bool) → from_bool b ≡ passes_number b
passes_from true = refl
passes_from false = refl

pub exports_tolerance : (t : ℕ) (game plan : List ℕ) (before : ℕ) {v w : Result Bool Refusal} {r n : ℕ} → v ≡ w → answered same v ≡ (tolerates t game plan).answer → r ≡ refusal_of (answered same w) → n ≡ numbers_after passes_number before (answered same w) → (leaves r n tt ≡ exported passes_number before (tolerates t game plan)) × ToleranceMet t game plan (answer_in (leaves r n tt))
exports_tolerance t game plan before f e is lent = meant (λ x. ToleranceMet t game plan (answer_in x)) (exports_answer (answered same) passes_number before e f is lent) (met_in game plan t before)
