-- The sequences of each player as they are counted, and what the arrays hold after each refusal.
use Prim.Native.Nat.{ℕ, ◌-◌, ◌≤◌}
use mathlib.Core.Path.{◌≡◌, refl, ap, ◌∙◌}
use mathlib.Core.Bool.{true, false, ◌||◌}
use mathlib.Core.List.{List}
use native.Mathlib.Omega.{arith}
use lib.Dec.{eqb}
use lib.ListN.{length}
use Rattle.algebra.specs.Arrays.{over}
use Rattle.model.specs.Limits.{count_limit, GameLimits}
use Rattle.model.specs.Game.{Game, Player, one, two, game_of, moves_before}
use Rattle.model.specs.Sequences.{sequence_count}
use Rattle.model.specs.Plan.{weights_before, plan_moves}
use Rattle.model.specs.Rules.{GameRules}
use Rattle.model.proofs.Numbers.{plan_moves_few, sequences_few}
use Rattle.loaded.specs.declared.Counts.{Counts}
use Rattle.loaded.specs.Counts.{counts_of}
use Rattle.plan.specs.Loaded.{SequencesCounted}
use Rattle.plan.specs.declared.move_run.MoveRun.{MoveRun}
use Rattle.plan.specs.Weights.{weights_of, weight_by_number, run_of}
use Rattle.model.specs.Call.{answer_of}
use Rattle.model.specs.Exported.{same}
use Rattle.std.specs.Prelude.{Result, Ok, Err}
use Rattle.checks.specs.declared.Refusal.{Refusal}
use Rattle.checks.specs.Answers.{refusal_number, answered}
use Rattle.checks.proofs.AnswerLaws.{given_is, refused_is}
use Rattle.records.specs.declared.plan_file.Denominators.{Denominators}
use Rattle.records.specs.PlanRecords.{denominators_of}
use Rattle.plan.specs.Refusals.{plan_refusal, weights_after, PlanChecked}

-- The counts of a game, and each player's moves by them.
pub record Counted (g : Game) (c : Counts) : Type 0 where
  pub sets_are : c.sets ≡ g.sets
  pub first : c.sequences1 ≡ sequence_count g one
  pub second : c.sequences2 ≡ sequence_count g two
  pub moves1 : c.sequences1 - 1 ≡ moves_before g one g.sets
  pub moves2 : c.sequences2 - 1 ≡ moves_before g two g.sets
  pub before : c.sequences1 - 1 ≡ weights_before g two
  pub all : weights_of c ≡ plan_moves g

pub counted : {g : Game} {c : Counts} → c ≡ counts_of g → Counted g c
unfolding counts_of sequence_count plan_moves weights_before
counted {g} e =
    let first = ap (λ (c : Counts). c.sequences1) e in
    let second = ap (λ (c : Counts). c.sequences2) e in
    record {
      sets_are = ap (λ (c : Counts). c.sets) e;
      first = first;
      second = second;
      moves1 = omega arith;
      moves2 = omega arith;
      before = omega arith;
      all = omega arith;
    }

-- a player's moves stand where his weights do
pub run_is : (g : Game) {c : Counts} → c ≡ counts_of g → (p : Player) {r : MoveRun} → r ≡ run_of c p → (r.before ≡ weights_before g p) × (r.count ≡ moves_before g p g.sets)
unfolding weights_before
run_is g e one i = rw i (refl, (counted e).moves1)
run_is g e two i = rw i ((counted e).before, (counted e).moves2)

-- they are few, and so are those before them
pub run_few : {c : Counts} → SequencesCounted c → (p : Player) {r : MoveRun} → r ≡ run_of c p → (r.before ≤ 4094) × (r.count ≤ 4094)
run_few n one i = rw i (omega arith, omega (arith, n.some2, n.few))
run_few n two i = rw i (omega (arith, n.some2, n.few), omega (arith, n.some1, n.few))

module _ {g : Game} (rules : GameRules g) (limits : GameLimits g) where
  -- they are no more than a game can have
  pub few_sequences : {c : Counts} → c ≡ counts_of g → SequencesCounted c
  unfolding sequence_count plan_moves
  few_sequences e =
      let c = counted e in
      record { some1 = omega (arith, c.first); some2 = omega (arith, c.second); few = omega (arith, c.first, c.second, plan_moves_few g rules, limits.nodes) }

  -- so an array of 4,095 has a place for each
  pub room : (p : Player) (l : List ℕ) → count_limit ≤ length l → sequence_count g p ≤ length l
  room p l b = omega (arith, sequences_few g rules p, limits.nodes)

module _ (game plan : List ℕ) (p : Player) (k : ℕ) (l : List ℕ) where
  -- refused before check 16: as it was
  pub after_early : {r : ℕ} → r ≡ k → (eqb k 0 || eqb k 16) ≡ false → l ≡ weights_after r game plan p l
  after_early e t = rw (e, t)

  -- by 16 or not at all: the weights
  after_late : {x : List ℕ} {r : ℕ} → r ≡ k → (eqb k 0 || eqb k 16) ≡ true → x ≡ over (weight_by_number (game_of game) plan p) (sequence_count (game_of game) p) l → x ≡ weights_after r game plan p l
  after_late e t h = rw (e, t) h

-- The answer to two files that is a refusal.
module _ (game plan : List ℕ) (e : Refusal) {d : Refusal} (is : plan_refusal game plan ≡ refusal_number d) (named : d ≡ e) {r : Result Denominators Refusal} (answer : r ≡ Err d) where
  number : plan_refusal game plan ≡ refusal_number e
  number = is ∙ ap refusal_number named

  answers : answered same r ≡ answer_of (plan_refusal game plan) (denominators_of plan)
  answers = ap (answered same) answer ∙ refused_is same _ _ d is

  -- before check 16: both arrays are as they were
  pub refused_early : (eqb (refusal_number e) 0 || eqb (refusal_number e) 16) ≡ false → (x y : List ℕ) → PlanChecked game plan r x x y y
  refused_early t x y = record { answer = answers; first = after_early game plan one (refusal_number e) x number t; second = after_early game plan two (refusal_number e) y number t }

  -- by check 16: both are filled
  pub refused_late : (eqb (refusal_number e) 0 || eqb (refusal_number e) 16) ≡ true → {x x' y y' : List ℕ} → x' ≡ over (weight_by_number (game_of game) plan one) (sequence_count (game_of game) one) x → y' ≡ over (weight_by_number (game_of game) plan two) (sequence_count (game_of game) two) y → PlanChecked game plan r x x' y y'
  refused_late t first second = record { answer = answers; first = after_late game plan one (refusal_number e) _ number t first; second = after_late game plan two (refusal_number e) _ number t second }

-- the answer where no check refuses
pub plan_given : (game plan : List ℕ) {d : Denominators} → plan_refusal game plan ≡ 0 → d ≡ denominators_of plan → {x x' y y' : List ℕ} → x' ≡ over (weight_by_number (game_of game) plan one) (sequence_count (game_of game) one) x → y' ≡ over (weight_by_number (game_of game) plan two) (sequence_count (game_of game) two) y → PlanChecked game plan (Ok d) x x' y y'
plan_given game plan n e first second = record { answer = given_is same _ _ _ n e; first = after_late game plan one 0 _ n refl first; second = after_late game plan two 0 _ n refl second }
