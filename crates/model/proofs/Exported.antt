-- An outcome, exported: from what a call ensures and the variant that its answer is, where the number of that variant is returned and its numbers are lent.
use Prim.Native.Nat.{ℕ, suc}
use mathlib.Core.Path.{◌≡◌, sym, ap, ◌∙◌, subst}
use mathlib.Core.Logic.{◌↔◌}
use mathlib.Core.List.{List, [], ◌∷◌}
use native.Mathlib.Omega.{arith}
use lib.ListN.{take}
use Rattle.model.specs.Call.{Answer, given, refused, Buffers, Outcome, outcome}
use Rattle.model.specs.Exported.{same, none, refusal_of, numbers_after, exported, leaves}

-- `answered` is what a call's answers are in the model, `numbers_of` which of the numbers that it gives are lent for.
module _ {A R N : Type 0} (answered : A → Answer R) (numbers_of : R → N) (before : N) where
  pub exports : {shape : List (Type 0)} {call : Outcome shape R} {v w : A} {r : ℕ} {n : N} {after : Buffers shape} → outcome (answered v) after ≡ call → v ≡ w → r ≡ refusal_of (answered w) → n ≡ numbers_after numbers_of before (answered w) → leaves r n after ≡ exported numbers_of before call
  exports {shape} {after = after} e f is lent =
      rw (is, lent) (ap (λ (u : A). exported numbers_of before (outcome {shape = shape} (answered u) after)) (sym f) ∙ ap (exported numbers_of before) e)

  -- the same, of a call to which no buffer is lent
  pub exports_answer : {call : Outcome [] R} {v w : A} {r : ℕ} {n : N} → answered v ≡ call.answer → v ≡ w → r ≡ refusal_of (answered w) → n ≡ numbers_after numbers_of before (answered w) → leaves r n tt ≡ exported numbers_of before call
  exports_answer e f is lent = exports (ap (λ (a : Answer R). outcome a tt) e) f is lent

-- the same, of a call that gives no number to lend, where its answer's number is returned
pub exports_number : {shape : List (Type 0)} {R : Type 0} {call : Outcome shape R} {a : Answer R} {r : ℕ} {after : Buffers shape} → outcome a after ≡ call → r ≡ refusal_of a → leaves r tt after ≡ exported none tt call
exports_number e is = rw is (ap (exported none tt) e)

-- What is exported of a call that gives the length of what it writes to its one buffer.
module _ (before : ℕ) where
  -- the result is given: no refusal, its length, and it stands at the buffer's front
  pub exported_gives : (P : List ℕ → Type 0) (o : Outcome (ℕ ∷ []) ℕ) {size : ℕ} → o.answer ≡ given size → P (take size o.buffers.0) → let x = exported same before o in (x.refusal ≡ 0) × P (take x.numbers x.buffers.0)
  exported_gives P o {size} e h = (ap refusal_of e, subst (λ (k : ℕ). P (take k o.buffers.0)) (sym (ap (numbers_after same before) e)) h)

  -- a refusal's number is returned exactly where the answer is that refusal
  pub exported_refuses : (o : Outcome (ℕ ∷ []) ℕ) (k : ℕ) → ((exported same before o).refusal ≡ suc k) ↔ (o.answer ≡ refused (suc k))
  exported_refuses o k = go o.answer
    where
      go : (a : Answer ℕ) → (refusal_of a ≡ suc k) ↔ (a ≡ refused (suc k))
      go (given r) = (λ e. absurd (omega arith), λ e. ap refusal_of e)
      go (refused n) = (λ e. ap refused e, λ e. ap refusal_of e)
