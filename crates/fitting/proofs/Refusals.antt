-- A writer tests 17, then 18: its outcome in each case.
use Prim.Native.Nat.{ℕ, ◌≤◌}
use mathlib.Core.Path.{◌≡◌, refl, sym, ◌∙◌}
use mathlib.Core.Bool.{Bool, and-true}
use mathlib.Core.List.{List, [], ◌∷◌}
use lib.ListN.{length}
use lib.Dec.{leb, leb→le}
use Rattle.algebra.specs.Arrays.{placed}
use Rattle.algebra.proofs.Arrays.{placed_first}
use Rattle.model.specs.Rows.{row, refusal}
use Rattle.model.specs.Call.{long_enough, after_call, Call, outcome, run}
use Rattle.std.specs.Prelude.{Result, Ok, Err}
use Rattle.model.specs.Exported.{same}
use Rattle.checks.specs.declared.Refusal.{Refusal}
use Rattle.checks.specs.declared.Refusal.TheVariants.{Number, Room}
use Rattle.checks.specs.Answers.{checked_of, answered}
use Rattle.checks.proofs.Chains.{Checked}
use Rattle.checks.proofs.Chains.{begin, passes, stops, ends, fine_holds, fine_test, call_refuses, call_short, call_gives}

-- a result that has room is no longer than its buffer
pub has_room : {n size room : ℕ} {a : Checked} {u : Unit {0}} → size ≡ n → a ≡ checked_of Room (leb size room) → a ≡ Ok u → n ≤ room
has_room {size} {room} is e f = rw (← is) (leb→le size room (fine_test Room (leb size room) e f))

-- A writer: it tests whether what is given fits, and puts the file's bytes.
module _ {A : Type 0} (fits : A → Bool) (Misfit : A → Type 0) (bytes : A → List ℕ) (t : A) (out : List ℕ) where
  abbrev pub writer : Call A (ℕ ∷ []) ℕ
  writer = record { rows = row 17 fits Misfit ∷ []; result = λ t. length (bytes t); written = λ t. (bytes t, tt) }

  -- the answer, and the lent bytes afterwards
  abbrev pub Leaves : Result ℕ Refusal → List ℕ → Type 0
  Leaves r after = outcome (answered same r) (after, tt) ≡ run writer t (out, tt)

  module _ {x : Bool} {a : Checked} (tested : x ≡ fits t) (checked : a ≡ checked_of Number x) where
    -- 17 as it is tested
    fit : a ≡ checked_of Number (fits t)
    fit = checked ∙ rw tested

    -- something does not fit
    pub misfit : {d : Refusal} → a ≡ Err d → Leaves (Err d) out
    misfit f = sym (call_refuses writer tt t (out, tt) (stops Number (begin _ t) refl fit f))

    module _ {b : Checked} {n : ℕ} {u : Unit {0}} (fine : a ≡ Ok u) (size : n ≡ length (bytes t)) (room : b ≡ checked_of Room (leb n (length out))) where
      none : refusal writer.rows t ≡ 0
      none = ends (passes _ (begin _ t) fit fine)

      -- 18 as it is tested: the size that is measured is the file's
      measured : b ≡ checked_of Room (long_enough (length (bytes t) ∷ []) (length out ∷ []))
      measured = room ∙ rw (size, and-true (leb (length (bytes t)) (length out)))

      -- a buffer too short
      pub short : {d : Refusal} → b ≡ Err d → Leaves (Err d) out
      short f = sym (call_short writer tt t (out, tt) none measured f)

      -- all bytes written
      pub written : {v : Unit {0}} → b ≡ Ok v → {after : List ℕ} → after ≡ placed 0 (bytes t) out → Leaves (Ok n) after
      unfolding after_call
      written f all = rw (size, all, placed_first (bytes t) out) (sym (call_gives writer tt t (out, tt) none (fine_holds Room _ measured f)))
