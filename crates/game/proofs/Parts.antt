-- Checks made in order with one answer.
use Prim.Native.Nat.{ℕ}
use mathlib.Core.Path.{◌≡◌, refl, sym, ap, ◌∙◌}
use mathlib.Core.Bool.{Bool, true, false, cond}
use mathlib.Core.List.{[], ◌∷◌}
use Rattle.std.specs.Prelude.{Ok, Err}
use Rattle.model.specs.Rows.{Rows, row, refusal}
use Rattle.checks.specs.declared.Refusal.{Refusal}
use Rattle.checks.specs.Answers.{refusal_number, checked_of, number_of}
use Rattle.checks.proofs.Chains.{Checked, Refuses, Left, stops, number_some}
use Rattle.checks.proofs.AnswerLaws.{number_ok, number_err}

module _ {A : Type 0} where
  -- a check is broken: its number is that of all
  pub stops_as : {whole rest : Rows A} {k : ℕ} {test : A → Bool} {P : A → Type 0} {a : A} (e : Refusal) {r : Checked} {d : Refusal} → Left whole (row k test P ∷ rest) a → refusal_number e ≡ k → r ≡ checked_of e (test a) → r ≡ Err d → refusal_number d ≡ refusal whole a
  stops_as e l n c f = sym (stops e l n c f).is

  -- so is the number of the last
  pub ends_as : {whole : Rows A} {k : ℕ} {test : A → Bool} {P : A → Type 0} {a : A} (e : Refusal) {r : Checked} → Left whole (row k test P ∷ []) a → refusal_number e ≡ k → r ≡ checked_of e (test a) → number_of r ≡ refusal whole a
  unfolding refusal
  ends_as {k = k} {test} {a = a} e l n c = ap number_of c ∙ go (test a) ∙ sym l.same
    where
      go : (b : Bool) → number_of (checked_of e b) ≡ cond b 0 k
      go true = refl
      go false = n

  -- what the number says of all: one is broken
  pub one_broken : (rows : Rows A) (a : A) {r : Checked} {d : Refusal} → number_of r ≡ refusal rows a → r ≡ Err d → Refuses rows a (refusal_number d)
  one_broken rows a {d = d} e f = record { is = number_err e f; some = number_some d }
