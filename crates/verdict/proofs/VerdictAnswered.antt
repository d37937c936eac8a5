-- What was judged is the model's verdict; what the call answers of it and leaves in the buffer, and demand 3 for both.
use Prim.Native.Nat.{ℕ, ◌≤◌, ◌*◌}
use mathlib.Core.Path.{◌≡◌, refl, sym, ap, ◌∙◌, subst}
use mathlib.Core.Bool.{Bool, true, false, cond}
use mathlib.Core.List.{List, [], ◌∷◌, map}
use native.Mathlib.Omega.{arith}
use native.Mathlib.Nat as NatL
use borrow.Author.Tests.{le-leb}
use lib.IntN.{ℤ, pos}
use lib.Signed.{lt_z}
use lib.ListN.{length, length-map}
use mir.Syntax.{w64}
use mir.Val.{SFits, to_z, of_z}
use mir.Facts.{to_z-of_z}
use Rattle.algebra.specs.Arrays.{item, Holds}
use Rattle.algebra.specs.Sections.{Held}
use Rattle.model.specs.Limits.{count_limit}
use Rattle.model.specs.Game.{Game, Player, game_of, one, two, other, player_number}
use Rattle.model.specs.Sequences.{Move}
use Rattle.model.specs.Plan.{PlanPair, plan_pair_of}
use Rattle.model.specs.PlanChecks.{files}
use Rattle.model.specs.Checks.{pair_refusal}
use Rattle.model.specs.Earnings.{sets_of, value_base, value_count}
use Rattle.model.specs.BestResponse.{best_count, best_response}
use Rattle.model.specs.Verdict.{Verdict, equilibrium, deviation, gain, deviation_of, verdict, shown_moves}
use Rattle.model.specs.Writing.{player_field}
use Rattle.model.specs.Call.{given, refused, after_call, Outcome, outcome, run}
use Rattle.model.specs.Calls.Verdict as Call
use Rattle.model.specs.Calls.Verdict.{Stated}
use Rattle.model.specs.Demand3.{Demand3Met}
use Rattle.model.proofs.Budget.{Budget, budget, game_limits, plan_limits}
use Rattle.model.proofs.Call.{meant}
use Rattle.model.proofs.Checks.{game_rules, plan_rules, pair_parts, pair_named}
use Rattle.model.proofs.Calls.Verdict.{demand3}
use Rattle.checks.proofs.Chains.{begin, ends, call_refuses, call_gives, same_run}
use Rattle.checks.proofs.Files.{pair_refuses, pair_fine}
use Rattle.loaded.specs.Sections.{player_section}
use Rattle.pair.specs.declared.PairHeader.{PairHeader}
use Rattle.pair.proofs.Pairs.{PairOpened}
use Rattle.form.specs.declared.Values.{Values}
use Rattle.responses.specs.BestMoves.{own_best_move}
use Rattle.form.specs.Values.{values_of}
use Rattle.std.specs.Prelude.{Option, Some, None}
use Rattle.loaded.specs.Players.{as_player}
use Rattle.judgement.specs.declared.Deviation.{Deviation}
use Rattle.judgement.specs.Judgement.{judged, GainFits}
use Rattle.verdict.specs.Showing.{showing, ShowAsked}
use Rattle.judgement.proofs.Judgement.{without_moves, judged_is, gains_fit, says_deviation}
use Rattle.evaluation.proofs.EvaluatedPairs.{weight_is, sets_are}
use Rattle.verdict.proofs.Strategies.{strategy_is}
use Rattle.pair.proofs.PairDenominators.{d1_is, d2_is}

module _ (game plan buffer : List ℕ) where
  -- what the call ensures of an outcome
  abbrev pub Judgement : Outcome (ℕ ∷ []) Stated → Type 0
  Judgement o = (o ≡ Call.verdict_call game plan buffer) × Demand3Met game plan buffer o

  -- demand 3 follows from the equation
  judgement : {o : Outcome (ℕ ∷ []) Stated} → o ≡ Call.verdict_call game plan buffer → Judgement o
  judgement e = meant (Demand3Met game plan buffer) e (demand3 game plan buffer)

  -- the pair's refusal
  pub pair_refused : {n : ℕ} → n ≡ pair_refusal game plan → ¬ (n ≡ 0) → Judgement (outcome (refused n) (buffer, tt))
  unfolding Call.call
  pair_refused e s = judgement (sym (call_refuses Call.call pair_named (files game plan) (buffer, tt) (pair_refuses e s)))

  -- an accepted pair needs no room
  pub accepted_given : pair_refusal game plan ≡ 0 → Call.verdict_of (files game plan) ≡ equilibrium → {base : ℕ} → base ≡ Call.base_of (files game plan) → Judgement (outcome (given (Call.accepted base)) (buffer, tt))
  unfolding Call.call after_call shown_moves
  accepted_given e v based =
      judgement (rw (← based, v) at (sym (call_gives Call.call pair_named (files game plan) (buffer, tt) (pair_fine game plan e) (rw (v, le-leb 0 (length buffer) (omega arith))))))

  -- a deviation is given as it is shown
  pub deviation_given : pair_refusal game plan ≡ 0 → (p : Player) (z : ℤ) (l : List Move) → Call.verdict_of (files game plan) ≡ deviation p z l → (base : ℕ) (moves : List ℕ) → base ≡ Call.base_of (files game plan) → moves ≡ map (λ (x : Move). x.1) l → {o : Outcome (ℕ ∷ []) Stated} → o ≡ run (showing (player_number p) z base) moves (buffer, tt) → Judgement o
  unfolding Call.call showing shown_moves
  deviation_given e p z l v base moves based strategy is =
      judgement
      (is
      ∙ same_run (showing (player_number p) z base) Call.call tt pair_named moves (files game plan) (buffer, tt) (ends (begin [] moves) ∙ sym (pair_fine game plan e)) (λ none.
      (rw (v, based, strategy, length-map l (λ (x : Move). x.1)), rw (v, strategy))))

-- A pair that was read.
module _ (game plan : List ℕ) (h : PairHeader) (o : PairOpened game plan h) where
  -- D0 × D1 × D2
  pub base_is : {base : ℕ} → base ≡ h.counts.root_weight * (h.denominators.d1 * h.denominators.d2) → base ≡ Call.base_of (files game plan)
  unfolding value_base
  base_is e = e ∙ rw (weight_is game plan h o, d1_is game plan h o, d2_is game plan h o)

  -- what multiplying them asks
  pub base_asks : (h.counts.root_weight ≤ count_limit) × (h.denominators.d1 ≤ 65535) × (h.denominators.d2 ≤ 65535)
  base_asks =
      rw (weight_is game plan h o, d1_is game plan h o, d2_is game plan h o)
      ((game_limits game).root, (plan_limits (game_of game) plan one).denominator, (plan_limits (game_of game) plan two).denominator)

  file_budget : Budget (game_of game) (plan_pair_of (game_of game) plan)
  file_budget =
      let parts = (pair_parts game plan).0 o.none in
      budget (game_of game) (game_rules game o.game_none) (game_limits game) (plan_pair_of (game_of game) plan) (plan_rules game plan parts.1).fit (plan_limits (game_of game) plan)

  file_gain : (p : Player) → GainFits (plan_pair_of (game_of game) plan p).denominator (best_count (game_of game) p (plan_pair_of (game_of game) plan (other p))) (value_count (game_of game) (plan_pair_of (game_of game) plan) p)
  file_gain p = gains_fit (game_of game) (plan_pair_of (game_of game) plan) file_budget p (plan_limits (game_of game) plan p)

  -- What was evaluated of it.
  module _ {v : Values} (values : v ≡ values_of (game_of game) (plan_pair_of (game_of game) plan)) where
    -- both gains fit
    pub judge_asks : GainFits h.denominators.d1 v.best1 v.value1 × GainFits h.denominators.d2 v.best2 v.value2
    unfolding values_of
    judge_asks = rw (values, d1_is game plan h o, d2_is game plan h o) (file_gain one, file_gain two)

    -- the judgement d on it is the model's verdict, without the moves
    pub judged_as : {d : Option Deviation} → d ≡ judged v.value1 v.value2 v.best1 v.best2 h.denominators.d1 h.denominators.d2 → d ≡ without_moves (Call.verdict_of (files game plan))
    unfolding values_of
    judged_as e = e ∙ rw (values, d1_is game plan h o, d2_is game plan h o) (judged_is (game_of game) (plan_pair_of (game_of game) plan))

  -- what showing a deviation asks, with the players of the sets and a move for each
  pub show_asks : {numbers moves : List ℕ} → Held player_section (player_field (game_of game)) (game_of game).sets numbers → (game_of game).sets ≤ length moves → ShowAsked numbers h.counts.sets moves
  show_asks held l = let sets = sets_are game plan h o in record { game = game_of game; sets_are = sets; players = held; moves_long = omega (arith, sets) }

-- A deviation that was found, of either player, and what the model's verdict then is.
pub deviates : (game plan : List ℕ) (d : Deviation) → without_moves (Call.verdict_of (files game plan)) ≡ Some d → (p : Player) → as_player d.player ≡ p → Call.verdict_of (files game plan) ≡ deviation p d.gain (best_response (game_of game) p (plan_pair_of (game_of game) plan (other p)))
deviates game plan d e p is = rw is at (says_deviation (game_of game) (plan_pair_of (game_of game) plan) d e)

-- The deviation of p with the best moves that were evaluated for him, as it is shown.
module _ (game plan buffer : List ℕ) (h : PairHeader) (o : PairOpened game plan h) (p : Player) (z : ℤ) (base : ℕ) where
  pub strategy_given : Call.verdict_of (files game plan) ≡ deviation p z (best_response (game_of game) p (plan_pair_of (game_of game) plan (other p))) → base ≡ Call.base_of (files game plan) → {moves : List ℕ} → Holds (own_best_move (game_of game) p (plan_pair_of (game_of game) plan (other p))) (game_of game).sets moves → {r : Outcome (ℕ ∷ []) Stated} → r ≡ run (showing (player_number p) z base) (map (item moves) (sets_of (game_of game) p)) (buffer, tt) → Judgement game plan buffer r
  strategy_given v based {moves} best is =
      let g = game_of game in
      let y = plan_pair_of g plan (other p) in
      deviation_given game plan buffer o.none p z (best_response g p y) v base (map (item moves) (sets_of g p)) based (strategy_is g p y moves best) is

-- D1 × D2 and D0 × D1 × D2 are far below 2 ^ 64
pub base_small : (a b c : ℕ) → a ≤ count_limit → b ≤ 65535 → c ≤ 65535 → (b * c ≤ 65535 * 65535) × (a * (b * c) ≤ count_limit * (65535 * 65535))
base_small a b c l m n = let k = NatL.mul-le-mul m n in (k, NatL.mul-le-mul l k)
