-- Both files: which refusal a pair gets, and what its answer says.
use Prim.Native.Nat.{ℕ, zero, suc, ◌≤◌, ◌<◌}
use mathlib.Core.Path.{◌≡◌, refl, sym, ap, ◌∙◌}
use mathlib.Core.Bool.{false, cond, ◌||◌}
use mathlib.Core.List.{List}
use native.Mathlib.Omega.{arith}
use borrow.Author.Tests.{ne_eqb}
use lib.Dec.{eqb}
use lib.ListN.{length}
use Rattle.algebra.specs.Arrays.{Holds, over}
use Rattle.algebra.proofs.Fillings.{filled}
use Rattle.model.specs.Limits.{count_limit}
use Rattle.model.specs.Game.{Player, game_of}
use Rattle.model.specs.Sequences.{sequence_count}
use Rattle.model.specs.Checks.{header_rows, record_rows, tree_rows, game_rows, plan_rows, pair_rows, game_refusal, pair_refusal}
use Rattle.model.specs.PlanChecks.{Files, files}
use Rattle.model.specs.Rows.{of, refusal}
use Rattle.model.proofs.Rows.{named_of, refusal_of_lem, refusal_append, refusal_below}
use Rattle.loaded.specs.declared.Counts.{Counts}
use Rattle.loaded.specs.Counts.{counts_of}
use Rattle.model.proofs.Checks.{game_named, game_rules}
use Rattle.model.proofs.Budget.{game_limits}
use Rattle.records.specs.declared.plan_file.Denominators.{Denominators}
use Rattle.pair.specs.declared.PairHeader.{PairHeader}
use Rattle.std.specs.Prelude.{Result, Ok, Err}
use Rattle.model.specs.Call.{answer_of}
use Rattle.model.specs.Exported.{same}
use Rattle.checks.specs.declared.Refusal.{Refusal}
use Rattle.checks.specs.Answers.{refusal_number, answered}
use Rattle.checks.proofs.Chains.{number_some}
use Rattle.checks.proofs.AnswerLaws.{gives, refuses, given_is, refused_is}
use Rattle.records.specs.PlanRecords.{denominators_of}
use Rattle.plan.specs.Loaded.{SequencesCounted}
use Rattle.plan.specs.Weights.{weight_by_number}
use Rattle.plan.specs.Refusals.{plan_refusal, weights_after}
use Rattle.pair.specs.Refusals.{pair_header}
use Rattle.plan.proofs.Refusals.{Counted, counted, few_sequences, room}

module _ (game plan : List ℕ) where
  -- the game's refusal, and where it has none, the plan's
  joined : pair_refusal game plan ≡ cond (eqb (game_refusal game) 0) (plan_refusal game plan) (game_refusal game)
  unfolding pair_refusal pair_rows game_refusal
  joined =
      let part : Files → List ℕ = λ f. f.game in
      refusal_append (of part game_rows) plan_rows (files game plan) (named_of part game_rows game_named) (refusal game_rows game) (refusal_of_lem part game_rows (files game plan))

  -- a game that is refused
  pub game_refused : {r : ℕ} → r ≡ game_refusal game → ¬ (r ≡ 0) → pair_refusal game plan ≡ r
  game_refused e s = joined ∙ rw (ne_eqb (game_refusal game) 0 (λ z. s (e ∙ z))) (sym e)

  -- its number is none of a plan's, so the arrays are left
  pub game_early : {r : ℕ} → r ≡ game_refusal game → ¬ (r ≡ 0) → (eqb r 0 || eqb r 16) ≡ false
  unfolding game_refusal game_rows header_rows record_rows tree_rows
  game_early {r} e s =
      let low : r < 14 = omega (arith, e, refusal_below game_rows game 14 (omega arith) tt) in
      rw (ne_eqb r 0 s, ne_eqb r 16 (λ e. omega arith))

  -- one that is accepted
  pub plan_decides : game_refusal game ≡ 0 → pair_refusal game plan ≡ plan_refusal game plan
  plan_decides e = joined ∙ rw e

  -- a plan that fits an accepted game
  pub pair_fits_as : {a : Result Denominators Refusal} {c : Counts} {d : Denominators} → game_refusal game ≡ 0 → c ≡ counts_of (game_of game) → answered same a ≡ answer_of (plan_refusal game plan) (denominators_of plan) → a ≡ Ok d → answered same (Ok (record { counts = c; denominators = d })) ≡ answer_of (pair_refusal game plan) (pair_header game plan)
  pair_fits_as {c = c} {d} none are e f =
      let p = gives same (plan_refusal game plan) (denominators_of plan) e f in
      given_is same (pair_refusal game plan) (pair_header game plan) (record { counts = c; denominators = d }) (plan_decides none ∙ p.0) (λ i. record { counts = are i; denominators = p.1 i })

  -- one that does not, or a game that is refused
  pub plan_refused_with : {a : Result Denominators Refusal} {d : Refusal} → answered same a ≡ answer_of (plan_refusal game plan) (denominators_of plan) → a ≡ Err d → refusal_number d ≡ plan_refusal game plan
  plan_refused_with e f = sym (refuses same (plan_refusal game plan) (denominators_of plan) e f)

  pub pair_refused_as : (d : Refusal) → refusal_number d ≡ pair_refusal game plan → answered same (Err d) ≡ answer_of (pair_refusal game plan) (pair_header game plan)
  pair_refused_as d n = refused_is same (pair_refusal game plan) (pair_header game plan) d (sym n)

  -- what is known of a pair that fits
  pub record PairOpened (h : PairHeader) : Type 0 where
    pub none : pair_refusal game plan ≡ 0
    pub game_none : game_refusal game ≡ 0
    pub counts : h.counts ≡ counts_of (game_of game)
    pub denominators : h.denominators ≡ denominators_of plan

  pub opened_of : {h : PairHeader} → pair_refusal game plan ≡ 0 → h ≡ pair_header game plan → PairOpened h
  opened_of none is = record {
    none = none;
    game_none = game_too (game_refusal game) refl none;
    counts = ap (λ (x : PairHeader). x.counts) is;
    denominators = ap (λ (x : PairHeader). x.denominators) is;
  }
    where
      game_too : (k : ℕ) → k ≡ game_refusal game → pair_refusal game plan ≡ 0 → k ≡ 0
      game_too zero m e = refl
      game_too (suc k) m e = absurd (omega (arith, sym (game_refused m (λ z. omega arith)) ∙ e))

  pub pair_opened : {a : Result PairHeader Refusal} {h : PairHeader} → answered same a ≡ answer_of (pair_refusal game plan) (pair_header game plan) → a ≡ Ok h → PairOpened h
  pair_opened e f = let (none, is) = gives same (pair_refusal game plan) (pair_header game plan) e f in opened_of none is

  -- the number of a pair's refusal
  pub pair_refused_with : {a : Result PairHeader Refusal} {d : Refusal} → answered same a ≡ answer_of (pair_refusal game plan) (pair_header game plan) → a ≡ Err d → (refusal_number d ≡ pair_refusal game plan) × ¬ (refusal_number d ≡ 0)
  pair_refused_with {d = d} e f = (sym (refuses same (pair_refusal game plan) (pair_header game plan) e f), number_some d)

-- the arrays of a pair that fits are filled
pub pair_over : (game plan : List ℕ) {h : PairHeader} → PairOpened game plan h → (p : Player) {x : List ℕ} (l : List ℕ) → x ≡ weights_after (pair_refusal game plan) game plan p l → x ≡ over (weight_by_number (game_of game) plan p) (sequence_count (game_of game) p) l
pair_over game plan o p l e = rw o.none at e

-- and hold its weights
pub pair_holds : (game plan : List ℕ) {h : PairHeader} → PairOpened game plan h → (p : Player) {x : List ℕ} (l : List ℕ) → x ≡ weights_after (pair_refusal game plan) game plan p l → count_limit ≤ length l → Holds (weight_by_number (game_of game) plan p) (sequence_count (game_of game) p) x
pair_holds game plan o p l e b = filled l (pair_over game plan o p l e) (room (game_rules game o.game_none) (game_limits game) p l b)

-- how many sequences each player has
pub pair_counted : (game plan : List ℕ) {h : PairHeader} → PairOpened game plan h → Counted (game_of game) h.counts
pair_counted game plan o = counted o.counts

-- and that they are few
pub pair_few : (game plan : List ℕ) {h : PairHeader} → PairOpened game plan h → SequencesCounted h.counts
pair_few game plan o = few_sequences (game_rules game o.game_none) (game_limits game) o.counts
