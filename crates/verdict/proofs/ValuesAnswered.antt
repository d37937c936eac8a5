-- What the call for values answers.
use Prim.Native.Nat.{ℕ}
use mathlib.Core.Path.{◌≡◌, refl, sym, ap}
use mathlib.Core.List.{List, []}
use lib.IntN.{ℤ}
use Rattle.model.specs.Game.{game_of}
use Rattle.model.specs.PlanChecks.{files}
use Rattle.model.specs.Checks.{pair_refusal}
use Rattle.model.specs.Plan.{plan_pair_of}
use Rattle.model.specs.Call.{Outcome, Answer, given, refused}
use Rattle.model.specs.Calls.Values.{PairValues, call, values_call}
use Rattle.model.proofs.Checks.{pair_named}
use Rattle.checks.proofs.Chains.{call_refuses, call_gives}
use Rattle.checks.proofs.Files.{pair_refuses, pair_fine}
use Rattle.pair.specs.declared.PairHeader.{PairHeader}
use Rattle.pair.proofs.Pairs.{PairOpened}
use Rattle.form.specs.declared.Values.{Values}
use Rattle.form.specs.Values.{values_of}
use Rattle.pair.proofs.PairDenominators.{d1_is, d2_is}
use Rattle.evaluation.proofs.EvaluatedPairs.{weight_is}

module _ (game plan : List ℕ) where
  abbrev answer : Outcome [] PairValues → Answer PairValues
  answer o = o.answer

  -- the pair's refusal
  pub values_refused : {n : ℕ} → n ≡ pair_refusal game plan → ¬ (n ≡ 0) → refused n ≡ (values_call game plan).answer
  unfolding call
  values_refused e s = ap answer (sym (call_refuses call pair_named (files game plan) tt (pair_refuses e s)))

  -- what was evaluated
  pub values_given : (h : PairHeader) → PairOpened game plan h → {v : Values} → v ≡ values_of (game_of game) (plan_pair_of (game_of game) plan) → {a b c d : ℤ} → a ≡ v.value1 → b ≡ v.value2 → c ≡ v.best1 → d ≡ v.best2 → given (record { value1 = a; value2 = b; best1 = c; best2 = d; d0 = h.counts.root_weight; d1 = h.denominators.d1; d2 = h.denominators.d2 }) ≡ (values_call game plan).answer
  unfolding call values_of
  values_given h o v a b c d =
      rw (a, b, c, d, v, weight_is game plan h o, d1_is game plan h o, d2_is game plan h o)
      (ap answer (sym (call_gives call pair_named (files game plan) tt (pair_fine game plan o.none) refl)))
