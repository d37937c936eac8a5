-- The verdict on a plan pair. Its clauses of demand 1 and of demand 3, for what the call gives and leaves in the buffer.
use Prim.Native.Nat.{ℕ, ◌<◌}
use mathlib.Core.Path.{◌≡◌, refl, sym, ap, ◌∙◌, subst}
use mathlib.Core.Logic.{◌↔◌}
use mathlib.Core.List.{List, [], ◌∷◌, ◌++◌, map}
use native.Mathlib.Omega.{arith}
use lib.IntN.{ℤ}
use lib.ListN.{length, length-append, length-map, get_or-append, get_or-map, drop}
use Rattle.algebra.proofs.Lists.{list_to_is}
use Rattle.model.specs.Game.{Game, game_of, Player, one, two, player_of, player_number}
use Rattle.model.specs.Sequences.{Move}
use Rattle.model.specs.Plan.{PlanPair, plan_pair_of}
use Rattle.model.specs.PlanChecks.{files}
use Rattle.model.specs.Earnings.{sets_of, value_base}
use Rattle.model.specs.Verdict as Pair
use Rattle.model.specs.Verdict.{shown_moves}
use Rattle.model.specs.Rules.{GoodFiles}
use Rattle.model.specs.Call.{Outcome, after_call}
use Rattle.model.specs.Exported.{exported}
use Rattle.model.specs.Calls.Verdict.{Stated, verdict_of, stated, call, verdict_call, Numbers, numbers_of, verdict_numbers}
use Rattle.model.specs.Demand1.{Clause}
use Rattle.model.specs.Demand3.{Deviates, strategy_in, IsAccepted, stated_base, StrategiesExist, Shows, Means, Judged, Demand3Met, stated_by, Demand3MetIn}
use Rattle.model.proofs.Checks.{game_file_iff, plan_file_iff, pair_decided}
use Rattle.model.proofs.Call.{clause}
use Rattle.model.proofs.Strategies.{strategies_exist}
use Rattle.model.proofs.Verdict.{VerdictMeans, files_mean}

pub demand1 : Clause call GoodFiles
unfolding call
demand1 = clause call pair_decided

-- Where a buffer begins with the moves of a list of p's sets, that list is what it has for him.
strategy_in_lem : (g : Game) (p : Player) (moves : List Move) (rest : List ℕ) → map (λ (x : Move). x.0) moves ≡ sets_of g p → strategy_in g p (map (λ (x : Move). x.1) moves ++ rest) ≡ moves
unfolding strategy_in
strategy_in_lem g p moves rest e =
    let size : length (sets_of g p) ≡ length moves = ap length (sym e) ∙ length-map moves (λ (x : Move). x.0) in
    list_to_is (0, 0) _ moves size refl (λ i l.
    rw (← e, get_or-append (map (λ (x : Move). x.1) moves) rest 0 i (omega (arith, length-map moves (λ (x : Move). x.1))), get_or-map (λ (x : Move). x.0) moves i (0, 0), get_or-map (λ (x : Move). x.1) moves i (0, 0)))

-- the player that his number names
numbered_back : (p : Player) → player_of (Prim.Native.Nat.pred (player_number p)) ≡ p
numbered_back one = refl
numbered_back two = refl

module _ (g : Game) (q : PlanPair) where
  shows : (p : Player) (z : ℤ) (l : List Move) → Deviates g q p z (value_base g q) l → (rest : List ℕ) → Shows g q (player_number p) z (value_base g q) (length l) p (map (λ (x : Move). x.1) l ++ rest)
  shows p z l D rest =
      let moves = map (λ (x : Move). x.1) l in
      let same = sym (strategy_in_lem g p l rest D.every_set) in
      record {
        named = refl;
        counted = sym (length-map l (λ (x : Move). x.0)) ∙ ap length D.every_set;
        in_buffer = omega (arith, length-append moves rest, length-map l (λ (x : Move). x.1));
        deviation = subst (Deviates g q p z (value_base g q)) same D;
      }

  means : (v : Pair.Verdict) → ((p : Player) (z : ℤ) (l : List Move) → v ≡ Pair.deviation p z l → Deviates g q p z (value_base g q) l) → (rest : List ℕ) → Means g q (stated (value_base g q) v) (map (λ (x : Move). x.1) (shown_moves v) ++ rest)
  unfolding shown_moves
  means Pair.equilibrium D rest = tt
  means (Pair.deviation p z l) D rest =
      subst (λ (r : Player). Shows g q (player_number p) z (value_base g q) (length l) r (map (λ (x : Move). x.1) l ++ rest)) (sym (numbered_back p)) (shows p z l (D p z l refl) rest)

  accepted_iff : (base : ℕ) (v : Pair.Verdict) → IsAccepted (stated base v) ↔ (v ≡ Pair.equilibrium)
  accepted_iff base Pair.equilibrium = (λ t. refl, λ e. tt)
  accepted_iff base (Pair.deviation p z l) = (λ t. absurd t, λ e. let n : ◌≡◌ {A = ℕ} 0 1 = ap code e in omega arith)
    where
      code : Pair.Verdict → ℕ
      code Pair.equilibrium = 1
      code (Pair.deviation p z l) = 0

  base_is : (base : ℕ) (v : Pair.Verdict) → stated_base (stated base v) ≡ base
  base_is base Pair.equilibrium = refl
  base_is base (Pair.deviation p z l) = refl

  met : VerdictMeans g q → StrategiesExist g → (rest : List ℕ) → Judged g q (stated (value_base g q) (Pair.verdict g q)) (map (λ (x : Move). x.1) (shown_moves (Pair.verdict g q)) ++ rest)
  met J S rest = let is = accepted_iff (value_base g q) (Pair.verdict g q) in record {
    accepted_exactly = (λ t. J.accepts.0 (is.0 t), λ n. is.1 (J.accepts.1 n));
    shown = means (Pair.verdict g q) J.shows rest;
    positive = subst (λ (n : ℕ). 0 < n) (sym (base_is (value_base g q) (Pair.verdict g q))) J.bases.values;
    bases = J.bases;
    strategies = S;
  }

-- the verdict is as demanded
pub demand3 : (game plan moves : List ℕ) → Demand3Met game plan moves (verdict_call game plan moves)
unfolding call after_call
demand3 game plan moves good long =
    let g = game_of game in
    let q = plan_pair_of g plan in
    let f = files game plan in
    let shown = map (λ (x : Move). x.1) (shown_moves (verdict_of f)) in
    let e = demand1.taken f (moves, tt) good (long, tt) in
    let J = files_mean game plan ((game_file_iff game).0 good.0) ((plan_file_iff game plan).0 good.1) in
    let S = strategies_exist g good.0.rules in
    (stated (value_base g q) (verdict_of f), ap (λ (o : Outcome (ℕ ∷ []) Stated). o.answer) e, subst (λ (o : Outcome (ℕ ∷ []) Stated). Judged g q (stated (value_base g q) (verdict_of f)) o.buffers.0) (sym e) (met g q J S (drop (length shown) moves)))

-- the numbers say what the model's verdict says
said_back : (base : ℕ) (v : Pair.Verdict) → let n = numbers_of (stated base v) in stated_by n.number n.gain n.base n.count ≡ stated base v
said_back base Pair.equilibrium = refl
said_back base (Pair.deviation one z l) = refl
said_back base (Pair.deviation two z l) = refl

pub demand3_numbers : (game plan : List ℕ) (before : Numbers) (moves : List ℕ) → Demand3MetIn game plan moves (verdict_numbers game plan before moves)
unfolding call after_call
demand3_numbers game plan before moves good long =
    let g = game_of game in
    let q = plan_pair_of g plan in
    let f = files game plan in
    let shown = map (λ (x : Move). x.1) (shown_moves (verdict_of f)) in
    let e = demand1.taken f (moves, tt) good (long, tt) in
    let J = files_mean game plan ((game_file_iff game).0 good.0) ((plan_file_iff game plan).0 good.1) in
    let S = strategies_exist g good.0.rules in
    subst (λ (o : Outcome (ℕ ∷ []) Stated). let x = exported numbers_of before o in let n = x.numbers in (x.refusal ≡ 0) × Judged g q (stated_by n.number n.gain n.base n.count) x.buffers.0) (sym e)
    (refl, subst (λ (j : Stated). Judged g q j (shown ++ drop (length shown) moves)) (sym (said_back (value_base g q) (verdict_of f))) (met g q J S (drop (length shown) moves)))
