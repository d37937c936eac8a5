-- The answer of a call to which no buffer is lent.
use Prim.Native.Nat.{ℕ}
use mathlib.Core.Path.{◌≡◌, refl, sym, ap}
use mathlib.Core.List.{[]}
use lib.Dec.{T}
use Rattle.model.specs.Rows.{refusal}
use Rattle.model.specs.Call.{Call, Outcome, given, refused, run}
use Rattle.model.proofs.Rows.{named}
use Rattle.checks.proofs.Chains.{Refuses, call_refuses, call_gives}

module _ {I R : Type 0} (c : Call I [] R) (some : T (named c.rows)) (i : I) where
  -- a check refuses
  pub answer_refused : {n : ℕ} → Refuses c.rows i n → refused n ≡ (run c i tt).answer
  answer_refused s = ap (λ (o : Outcome [] R). o.answer) (sym (call_refuses c some i tt s))

  -- none does
  pub answer_given : refusal c.rows i ≡ 0 → given (c.result i) ≡ (run c i tt).answer
  answer_given e = ap (λ (o : Outcome [] R). o.answer) (sym (call_gives c some i tt e refl))
