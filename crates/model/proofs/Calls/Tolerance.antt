-- A pair at a house tolerance. Its clause of demand 1, and what W-203 says of its answers.
use Prim.Native.Nat.{ℕ, zero, suc}
use mathlib.Core.Path.{◌≡◌, refl, sym, ap, subst}
use mathlib.Core.Bool.{Bool, true, false, cond}
use mathlib.Core.List.{List, [], ◌∷◌}
use lib.ListN.{length}
use Rattle.model.specs.Game.{game_of}
use Rattle.model.specs.Plan.{plan_pair_of}
use Rattle.model.specs.PlanChecks.{files}
use Rattle.model.specs.Tolerance.{passes_at}
use Rattle.model.specs.Checks.{pair_rows}
use Rattle.model.specs.Rows.{refusal}
use Rattle.model.specs.Rules.{GoodFiles}
use Rattle.model.specs.Call.{given, refused, answer_of, long_enough, Outcome, call_refusal, run}
use Rattle.model.specs.Exported.{exported}
use Rattle.model.specs.Calls.Verdict as Verdict
use Rattle.model.specs.Calls.Verdict.{Stated, verdict_of, stated, moves_of, verdict_call}
use Rattle.model.specs.Calls.Tolerance.{call, tolerates, ToleranceJudged, says_yes, agreeing, ToleranceMet, passes_number, answer_in}
use Rattle.model.specs.Demand1.{Clause}
use Rattle.model.proofs.Checks.{game_file_iff, plan_file_iff, pair_decided, pair_named}
use Rattle.model.proofs.Call.{clause, or_else, call_refusal_lem}
use Rattle.model.proofs.Strategies.{strategies_exist}
use Rattle.model.proofs.Verdict.{files_mean}
use Rattle.model.proofs.Tolerance.{zero_passes, passes_exactly, gain_bases}

pub demand1 : (t : ℕ) → Clause (call t) GoodFiles
unfolding call
demand1 t = clause (call t) pair_decided

module _ (game plan : List ℕ) where
  abbrev passes : (t : ℕ) → Bool
  passes t = passes_at (game_of game) (plan_pair_of (game_of game) plan) t

  -- the answer, by the files' refusal
  answer_is : (t : ℕ) → (tolerates t game plan).answer ≡ answer_of (refusal pair_rows (files game plan)) (passes t)
  unfolding call run
  answer_is t = rw (call_refusal_lem (call t) pair_named (files game plan) tt) (go (refusal pair_rows (files game plan)))
    where
      go : (k : ℕ) → answer_of (or_else k 0) (passes t) ≡ answer_of k (passes t)
      go zero = refl
      go (suc k) = refl

  -- of good files it is right
  judged : (t : ℕ) → GoodFiles (files game plan) → (passes : Bool) × ((tolerates t game plan).answer ≡ given passes) × ToleranceJudged (game_of game) (plan_pair_of (game_of game) plan) t passes
  unfolding call
  judged t good =
      let g = game_of game in
      let q = plan_pair_of g plan in
      let R = good.0.rules in
      let B = (files_mean game plan ((game_file_iff game).0 good.0) ((plan_file_iff game plan).0 good.1)).bases in
      (passes t, ap (λ (o : Outcome [] Bool). o.answer) ((demand1 t).taken (files game plan) tt good tt), record { yes_exactly = passes_exactly g R q B t; bases = gain_bases g R q B; strategies = strategies_exist g R })

  -- at tolerance 0 it is the verdict's, but for 18
  zero_agrees_lem : (moves : List ℕ) → ¬ ((verdict_call game plan moves).answer ≡ refused 18) → (tolerates 0 game plan).answer ≡ agreeing (verdict_call game plan moves).answer
  unfolding Verdict.call run
  zero_agrees_lem moves =
      let f = files game plan in
      let says = stated (Verdict.base_of f) (verdict_of f) in
      rw (answer_is 0, call_refusal_lem Verdict.call pair_named f (moves, tt), zero_passes (game_of game) (plan_pair_of (game_of game) plan) (Verdict.base_of f))
      (go says (refusal pair_rows f) (long_enough (length (moves_of f) ∷ []) (length moves ∷ [])))
    where
      go : (s : Stated) (k : ℕ) (room : Bool) → let v = answer_of (or_else k (cond room 0 18)) s in ¬ (v ≡ refused 18) → answer_of k (says_yes s) ≡ agreeing v
      go s zero true n = refl
      go s zero false n = absurd (n refl)
      go s (suc k) room n = refl

  -- what the call's answer means
  pub met : (t : ℕ) → ToleranceMet t game plan (tolerates t game plan).answer
  met t = record { judged = judged t; zero_agrees = λ zero moves n. subst (λ (t : ℕ). (tolerates t game plan).answer ≡ agreeing (verdict_call game plan moves).answer) (sym zero) (zero_agrees_lem moves n) }

  -- and exported: the answer can be read back
  pub met_in : (t before : ℕ) → ToleranceMet t game plan (answer_in (exported passes_number before (tolerates t game plan)))
  unfolding run
  met_in t before = subst (ToleranceMet t game plan) (sym (go (call_refusal (call t) (files game plan) tt) ((call t).result (files game plan)))) (met t)
    where
      go : (k : ℕ) (b : Bool) → answer_in (exported passes_number before (record { answer = answer_of k b; buffers = tt })) ≡ answer_of k b
      go zero true = refl
      go zero false = refl
      go (suc k) b = refl
