-- The verdict exported, with demand 3; and values that were read back.
use Prim.Native.Nat.{ℕ}
use mathlib.Core.Path.{◌≡◌, sym, subst}
use mathlib.Core.List.{List}
use lib.IntN.{ℤ}
use Rattle.model.specs.Call.{outcome}
use Rattle.model.specs.Exported.{refusal_of, numbers_after, leaves}
use Rattle.model.specs.Calls.Values.{pair_values}
use Rattle.model.specs.Calls.Verdict.{Numbers, numbers_of, verdict_call, verdict_numbers}
use Rattle.model.specs.Demand3.{Demand3MetIn}
use Rattle.model.proofs.Exported.{exports}
use Rattle.model.proofs.Calls.Verdict.{demand3_numbers}
use Rattle.std.specs.Prelude.{Result}
use Rattle.checks.specs.declared.Refusal.{Refusal}
use Rattle.checks.specs.Answers.{answered}
use Rattle.verdict.specs.declared.PairVerdict.{PairVerdict}
use Rattle.verdict.specs.Answers.{verdict_seen}

-- the verdict, and demand 3 for what is exported
pub exports_verdict : (game plan moves : List ℕ) (before : Numbers) {v w : Result PairVerdict Refusal} {r : ℕ} {n : Numbers} {after : List ℕ} → outcome (answered verdict_seen v) (after, tt) ≡ verdict_call game plan moves → v ≡ w → r ≡ refusal_of (answered verdict_seen w) → n ≡ numbers_after numbers_of before (answered verdict_seen w) → (leaves r n (after, tt) ≡ verdict_numbers game plan before moves) × Demand3MetIn game plan moves (leaves r n (after, tt))
exports_verdict game plan moves before e f is lent =
    let all = exports (answered verdict_seen) numbers_of before e f is lent in
    (all, subst (Demand3MetIn game plan moves) (sym all) (demand3_numbers game plan before moves))

-- values and best values that were read back from an i64
pub values_same : {value1 value2 best1 best2 read1 read2 read3 read4 : ℤ} {d0 d1 d2 : ℕ} → read1 ≡ value1 → read2 ≡ value2 → read3 ≡ best1 → read4 ≡ best2 → pair_values read1 read2 read3 read4 d0 d1 d2 ≡ pair_values value1 value2 best1 best2 d0 d1 d2
values_same e f g h = rw (e, f, g, h)
