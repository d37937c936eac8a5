-- What was judged is whether the model's pair passes; what the call answers of it, and what W-203 says of that.
use Prim.Native.Nat.{ℕ}
use mathlib.Core.Path.{◌≡◌, ◌∙◌}
use mathlib.Core.Bool.{Bool, true, false, ◌&&◌}
use mathlib.Core.List.{List}
use native.Mathlib.Omega.{arith}
use Rattle.model.specs.Game.{game_of, Player, one, two}
use Rattle.model.specs.Plan.{PlanPair, plan_pair_of}
use Rattle.model.specs.PlanChecks.{files}
use Rattle.model.specs.Checks.{pair_refusal}
use Rattle.model.specs.Earnings.{◌over◌, value_base}
use Rattle.model.specs.Verdict.{scaled_best, gain}
use Rattle.model.specs.Tolerance.{thousandths, at_most, gain_within, passes_at}
use Rattle.model.specs.Call.{Answer, given, refused}
use Rattle.model.specs.Calls.Tolerance.{call, tolerates, ToleranceMet}
use Rattle.model.specs.Calls.Verdict as Verdict
use Rattle.model.proofs.Budget.{game_limits, plan_limits, base_bound, gain_bound}
use Rattle.model.proofs.Call.{meant}
use Rattle.model.proofs.Checks.{game_rules, plan_rules, pair_parts, pair_named}
use Rattle.model.proofs.Verdict.{gain_not_negative, files_mean}
use Rattle.model.proofs.Calls.Tolerance.{met}
use Rattle.checks.proofs.Files.{pair_refuses, pair_fine}
use Rattle.checks.proofs.NoBuffer.{answer_refused, answer_given}
use Rattle.pair.specs.declared.PairHeader.{PairHeader}
use Rattle.pair.proofs.Pairs.{PairOpened}
use Rattle.pair.proofs.PairDenominators.{d1_is, d2_is}
use Rattle.form.specs.declared.Values.{Values}
use Rattle.form.specs.Values.{values_of}
use Rattle.judgement.specs.Judgement.{gain_of}
use Rattle.thousandths.specs.Rounding.{AmountFits}
use Rattle.tolerance.specs.Gains.{GainAsked}
use Rattle.verdict.proofs.VerdictAnswered.{judge_asks}

-- two tests, the second asked only where the first holds
pub both_hold : {a b first second : Bool} → first ≡ a → second ≡ b → first ≡ true → second ≡ (a && b)
both_hold e f t = rw (← e, ← f, t)

pub first_fails : {a first : Bool} (b : Bool) → first ≡ a → first ≡ false → first ≡ (a && b)
first_fails b e n = rw (← e, n)

module _ (game plan : List ℕ) (t : ℕ) where
  -- what the call ensures of an answer
  abbrev pub Tolerated : Answer Bool → Type 0
  Tolerated a = (a ≡ (tolerates t game plan).answer) × ToleranceMet t game plan a

  -- the pair's refusal
  pub pair_refused : {n : ℕ} → n ≡ pair_refusal game plan → ¬ (n ≡ 0) → Tolerated (refused n)
  unfolding call
  pair_refused e s = meant (ToleranceMet t game plan) (answer_refused (call t) pair_named (files game plan) (pair_refuses e s)) (met game plan t)

  -- a yes or a no
  pub passes_given : pair_refusal game plan ≡ 0 → {b : Bool} → b ≡ passes_at (game_of game) (plan_pair_of (game_of game) plan) t → Tolerated (given b)
  unfolding call
  passes_given e is = meant (ToleranceMet t game plan) (rw is (answer_given (call t) pair_named (files game plan) (pair_fine game plan e))) (met game plan t)

-- A pair that was read, and what was evaluated of it.
module _ (game plan : List ℕ) (h : PairHeader) (o : PairOpened game plan h) {v : Values} (values : v ≡ values_of (game_of game) (plan_pair_of (game_of game) plan)) {base : ℕ} (based : base ≡ Verdict.base_of (files game plan)) where
  abbrev pair_in : PlanPair
  pair_in = plan_pair_of (game_of game) plan

  -- a gain is not below 0, and at most 65,536 payoff points
  gain_amount : (p : Player) → AmountFits (gain (game_of game) pair_in p) (value_base (game_of game) pair_in)
  gain_amount p =
      let g = game_of game in
      let fits = ((pair_parts game plan).0 o.none).1 in
      let R = game_rules game o.game_none in
      let F = (plan_rules game plan fits).fit in
      record {
        not_negative = gain_not_negative g R pair_in F p;
        size = record {
          some = (files_mean game plan o.game_none fits).bases.values;
          base_fits = base_bound g R (game_limits game) pair_in F (plan_limits g plan);
          count_fits = omega (arith, gain_bound g R (game_limits game) pair_in F (plan_limits g plan) p);
        };
      }

  -- what judging the gains asks
  pub passes_asks : GainAsked h.denominators.d1 v.best1 v.value1 base × GainAsked h.denominators.d2 v.best2 v.value2 base
  unfolding values_of gain_of gain scaled_best
  passes_asks =
      let steps = judge_asks game plan h o values in (
        record { steps = steps.0; amount = rw (values, d1_is game plan h o, based) (gain_amount one) },
        record { steps = steps.1; amount = rw (values, d2_is game plan h o, based) (gain_amount two) },
      )

  -- with the model's values and best values it is whether the model's pair passes
  pub passes_is : (t : ℕ) {b : Bool} → b ≡ (at_most (gain_of h.denominators.d1 v.best1 v.value1 over base) (thousandths t) && at_most (gain_of h.denominators.d2 v.best2 v.value2 over base) (thousandths t)) → b ≡ passes_at (game_of game) pair_in t
  unfolding values_of gain_of passes_at gain_within gain scaled_best
  passes_is t e = e ∙ rw (values, d1_is game plan h o, d2_is game plan h o, based)
