-- What is exported is the call's outcome, so it means what that does.
use Prim.Native.Nat.{ℕ, ◌^◌, ◌≤◌, ◌<◌}
use mathlib.Core.Path.{◌≡◌}
use mathlib.Core.List.{List, [], ◌∷◌}
use Rattle.model.specs.Plan.{largest_denominator}
use Rattle.model.specs.PlanChecks.{Files}
use Rattle.model.specs.Call.{Buffers, outcome, run}
use Rattle.model.specs.Exported.{refusal_of, numbers_after, leaves, exported, same}
use Rattle.model.specs.Calls.PlanFromSheet as Plan
use Rattle.model.specs.Calls.SheetFromPlan as Sheet
use Rattle.model.proofs.Call.{meant}
use Rattle.model.proofs.Exported.{exports}
use Rattle.model.proofs.Calls.PlanFromSheet.{makes_in}
use Rattle.model.proofs.Calls.SheetFromPlan.{returns_in}
use Rattle.std.specs.Prelude.{Result}
use Rattle.checks.specs.declared.Refusal.{Refusal}
use Rattle.checks.specs.Answers.{answered}

-- An answer that is the call's, and what is returned and lent of it.
module _ (width limit before : ℕ) (out : List ℕ) {answer known : Result ℕ Refusal} {after : Buffers (ℕ ∷ [])} {r n : ℕ} where
  -- a plan made of a sheet
  pub made : limit ≤ largest_denominator → (f : Plan.SheetFiles) → let o = run (Plan.call width limit) f (out, tt) in answer ≡ known → outcome (answered same answer) after ≡ o → r ≡ refusal_of (answered same known) → n ≡ numbers_after same before (answered same known) → (leaves r n after ≡ exported same before o) × Plan.MakesIn width limit f out (leaves r n after)
  made most f k e number lent = meant (Plan.MakesIn width limit f out) (exports (answered same) same before e k number lent) (makes_in width limit most f before out)

  -- a sheet made of a plan
  pub returned : largest_denominator < 2 ^ width → largest_denominator ≤ limit → (f : Files) → let o = run (Sheet.call width) f (out, tt) in answer ≡ known → outcome (answered same answer) after ≡ o → r ≡ refusal_of (answered same known) → n ≡ numbers_after same before (answered same known) → (leaves r n after ≡ exported same before o) × Sheet.ReturnsIn width limit f out (leaves r n after)
  returned wide most f k e number lent = meant (Sheet.ReturnsIn width limit f out) (exports (answered same) same before e k number lent) (returns_in width limit wide most f before out)
