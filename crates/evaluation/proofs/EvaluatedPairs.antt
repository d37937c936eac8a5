-- A pair that is read from two files and evaluated: what the evaluation asks, what the call gives by the files, and what its callers take from that.
use Prim.Native.Nat.{ℕ, zero, suc, ◌≤◌}
use mathlib.Core.Path.{◌≡◌, refl, sym, ap, ◌∙◌}
use mathlib.Core.Bool.{cond}
use mathlib.Core.List.{List}
use native.Mathlib.Omega.{arith}
use lib.IntN.{ℤ}
use lib.ListN.{length, replicate, length-replicate}
use Rattle.algebra.specs.Arrays.{item, Holds, over}
use Rattle.algebra.specs.Sections.{Held}
use Rattle.algebra.proofs.Fillings.{filled}
use Rattle.model.specs.Limits.{count_limit}
use Rattle.model.specs.Game.{Game, Player, game_of, one, two, other, owns}
use Rattle.model.specs.Sequences.{sequence_count}
use Rattle.model.specs.Plan.{plan_pair_of}
use Rattle.std.specs.Prelude.{Result, Ok, Err}
use Rattle.model.specs.Exported.{same}
use Rattle.model.specs.Checks.{game_refusal, pair_refusal}
use Rattle.checks.specs.declared.Refusal.{Refusal}
use Rattle.checks.specs.Answers.{refusal_number}
use Rattle.checks.proofs.Chains.{number_some}
use Rattle.checks.proofs.AnswerLaws.{gives, refuses, given_is, refused_is}
use Rattle.model.specs.Rules.{GameRules}
use Rattle.model.specs.Writing.{player_field}
use Rattle.model.proofs.Checks.{game_rules}
use Rattle.records.specs.PlanRecords.{denominators_of}
use Rattle.records.proofs.Widths.{few_sets}
use Rattle.loaded.specs.Sections.{player_section}
use Rattle.loaded.specs.Counts.{counts_of}
use Rattle.loaded.specs.Loaded.{Loaded}
use Rattle.loaded.specs.declared.LoadedGame.{LoadedGame}
use Rattle.loaded.specs.Weights.{plan_by_number, Weights}
use Rattle.pair.specs.declared.PairHeader.{PairHeader}
use Rattle.pair.specs.Refusals.{pair_header, PairRead}
use Rattle.plan.specs.Weights.{weight_by_number}
use Rattle.plan.proofs.ByNumber.{small_number}
use Rattle.pair.proofs.Pairs.{PairOpened, pair_opened, opened_of, pair_holds}
use Rattle.plan.proofs.StoredWeights.{stored_value, stored_best, stored_best_move, stored_fits}
use Rattle.responses.specs.BestMoves.{own_best_move}
use Rattle.form.specs.declared.Values.{Values}
use Rattle.form.specs.Values.{values_of, Evaluated, PairWeights, PairAsked}
use Rattle.evaluation.specs.declared.Evaluated as Pair
use Rattle.evaluation.specs.Pairs.{pair_evaluated, moves_after, PairLeft}

-- the arrays that are lent, as they are made
abbrev pub zeros : List ℕ
zeros = replicate count_limit 0

zeros_long : count_limit ≤ length zeros
zeros_long = omega (arith, length-replicate {A = ℕ} count_limit 0)

-- The counts of a pair that was read are those of its game.
module _ (game plan : List ℕ) (h : PairHeader) (o : PairOpened game plan h) where
  -- D0
  pub weight_is : h.counts.root_weight ≡ (game_of game).root_weight
  unfolding counts_of
  weight_is = rw o.counts

  -- how many sets there are
  pub sets_are : h.counts.sets ≡ (game_of game).sets
  unfolding counts_of
  sets_are = rw o.counts

module _ (game plan : List ℕ) where
  -- A pair that was read and fits: the game is loaded, and both arrays hold its weights by number.
  record PairHeld (h : PairHeader) (numbers : List ℕ) (payoffs : List ℤ) (x y : List ℕ) : Type 0 where
    opened : PairOpened game plan h
    loaded : Loaded (game_of game) (counts_of (game_of game)) numbers payoffs
    held1 : Holds (weight_by_number (game_of game) plan one) (sequence_count (game_of game) one) x
    held2 : Holds (weight_by_number (game_of game) plan two) (sequence_count (game_of game) two) y

  -- an array that holds a player's weights has one for each of his sequences
  held_weights : (p : Player) {l : List ℕ} → Holds (weight_by_number (game_of game) plan p) (sequence_count (game_of game) p) l → Weights (game_of game) p l
  held_weights p held = record { long = held.long; small = λ i v. omega (arith, held.at i v, small_number (game_of game) plan p i) }

  -- best moves against stored weights are those against the file's plan
  best_read : GameRules (game_of game) → (p : Player) (before : List ℕ) {l moves : List ℕ} → Holds (weight_by_number (game_of game) plan (other p)) (sequence_count (game_of game) (other p)) l → moves ≡ over (own_best_move (game_of game) p (plan_by_number (game_of game) (other p) (item l))) (game_of game).sets before → moves ≡ over (own_best_move (game_of game) p (plan_pair_of (game_of game) plan (other p))) (game_of game).sets before
  unfolding own_best_move
  best_read rules p before held m =
      let g = game_of game in
      m ∙ (λ i. over (λ k. cond (owns g p k) (stored_best_move g rules plan p held k i) 0) g.sets before)

  module _ {a : Result PairHeader Refusal} {h : PairHeader} {numbers : List ℕ} {payoffs : List ℤ} {x y : List ℕ} (e : PairRead game plan a numbers payoffs zeros x zeros y) (f : a ≡ Ok h) where
    pair_held : PairHeld h numbers payoffs x y
    pair_held =
        let o = pair_opened game plan e.answer f in
        record {
          opened = o;
          loaded = e.loaded o.game_none;
          held1 = pair_holds game plan o one zeros e.first zeros_long;
          held2 = pair_holds game plan o two zeros e.second zeros_long;
        }

    pair_weights_lem : PairWeights (game_of game) x y
    pair_weights_lem =
        let r = pair_held in
        record { weights1 = held_weights one r.held1; weights2 = held_weights two r.held2; fit = stored_fits game plan r.opened.none r.held1 r.held2 }

    -- what the evaluation asks
    pub evaluate_asks : {l : LoadedGame} → l.counts ≡ h.counts → l.numbers.now ≡ numbers → l.payoffs.now ≡ payoffs → PairAsked l x y
    evaluate_asks c n p = let r = pair_held in record { game = game_of game; loaded = rw (c, n, p, r.opened.counts) r.loaded; weights = pair_weights_lem }

    -- a pair that was read and fits
    pub pair_evaluated_lem : (before1 before2 : List ℕ) {v : Values} {moves1 moves2 : List ℕ} → ((g : Game) → Loaded g h.counts numbers payoffs → PairWeights g x y → Evaluated g x y before1 before2 moves1 moves2 v) → PairLeft game plan before1 before2 (Ok (record { pair = h; values = v })) numbers payoffs moves1 moves2
    unfolding values_of
    pair_evaluated_lem before1 before2 {v} given =
        let g = game_of game in
        let r = pair_held in
        let o = r.opened in
        let rules = game_rules game o.game_none in
        let t = given g (rw o.counts r.loaded) pair_weights_lem in
        let values : v ≡ values_of g (plan_pair_of g plan) = t.0 ∙ rw (stored_value g rules plan r.held1 r.held2 one, stored_value g rules plan r.held1 r.held2 two, stored_best g rules plan r.held1 r.held2 one, stored_best g rules plan r.held1 r.held2 two) in
        let read : h ≡ pair_header game plan = λ i. record { counts = o.counts i; denominators = o.denominators i } in
        record {
          answer = given_is same (pair_refusal game plan) (pair_evaluated game plan) (record { pair = h; values = v }) o.none (λ i. record { pair = read i; values = values i });
          loaded = e.loaded;
          first = rw o.none (best_read rules one before1 r.held2 t.1);
          second = rw o.none (best_read rules two before2 r.held1 t.2);
        }

  -- one that is refused
  pub pair_refused : {before1 before2 numbers : List ℕ} {payoffs : List ℤ} {d : Refusal} → refusal_number d ≡ pair_refusal game plan → (game_refusal game ≡ 0 → Loaded (game_of game) (counts_of (game_of game)) numbers payoffs) → PairLeft game plan before1 before2 (Err d) numbers payoffs before1 before2
  pair_refused {before1} {before2} {d = d} e loaded =
      let s = go (refusal_number d) (number_some d) in
      record { answer = refused_is same (pair_refusal game plan) (pair_evaluated game plan) d (sym e); loaded = loaded; first = rw (← e) s.0; second = rw (← e) s.1 }
    where
      go : (k : ℕ) → ¬ (k ≡ 0) → (before1 ≡ moves_after k game plan one before1) × (before2 ≡ moves_after k game plan two before2)
      go zero n = absurd (n refl)
      go (suc k) n = (refl, refl)

  -- What is known of a pair that was evaluated: the values are those of the files, and so are, by set, each player's best moves against the other's plan;
  -- the players of the sets stand in the numbers.
  pub record EvaluationOpened (h : PairHeader) (v : Values) (numbers moves1 moves2 : List ℕ) : Type 0 where
    pub opened : PairOpened game plan h
    pub values : v ≡ values_of (game_of game) (plan_pair_of (game_of game) plan)
    pub players : Held player_section (player_field (game_of game)) (game_of game).sets numbers
    pub best1 : Holds (own_best_move (game_of game) one (plan_pair_of (game_of game) plan two)) (game_of game).sets moves1
    pub best2 : Holds (own_best_move (game_of game) two (plan_pair_of (game_of game) plan one)) (game_of game).sets moves2

  module _ {r : Result Pair.Evaluated Refusal} {numbers : List ℕ} {payoffs : List ℤ} {moves1 moves2 : List ℕ} (e : PairLeft game plan zeros zeros r numbers payoffs moves1 moves2) where
    pub evaluation_opened : {x : Pair.Evaluated} → r ≡ Ok x → EvaluationOpened x.pair x.values numbers moves1 moves2
    evaluation_opened {x} f =
        let (none, is) = gives same (pair_refusal game plan) (pair_evaluated game plan) e.answer f in
        let o = opened_of game plan none (ap (λ (x : Pair.Evaluated). x.pair) is) in
        let first : moves1 ≡ moves_after 0 game plan one zeros = rw none at e.first in
        let second : moves2 ≡ moves_after 0 game plan two zeros = rw none at e.second in
        let room : (game_of game).sets ≤ length zeros = omega (arith, few_sets game, zeros_long) in
        record { opened = o; values = ap (λ (x : Pair.Evaluated). x.values) is; players = (e.loaded o.game_none).in_numbers.decoded.sets_decoded.players; best1 = filled zeros first room; best2 = filled zeros second room }

    -- the number of its refusal
    pub evaluation_refused_with : {d : Refusal} → r ≡ Err d → (refusal_number d ≡ pair_refusal game plan) × ¬ (refusal_number d ≡ 0)
    evaluation_refused_with {d} f = (sym (refuses same (pair_refusal game plan) (pair_evaluated game plan) e.answer f), number_some d)
