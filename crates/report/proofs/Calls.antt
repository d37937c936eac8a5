-- What the calls give: a text or a refusal, and the report as the files have it.
use Prim.Native.Nat.{ℕ, zero, suc, ◌≤◌, ◌<◌, ◌^◌}
use mathlib.Core.Path.{◌≡◌, refl, sym, ◌∙◌}
use mathlib.Core.Bool.{cond}
use mathlib.Core.List.{List, []}
use native.Mathlib.Omega.{arith}
use borrow.Author.Tests.{le-leb, ne_eqb}
use lib.Dec.{eqb, leb}
use lib.ListN.{length}
use Rattle.model.specs.Game.{game_of, one, two}
use Rattle.model.specs.Plan.{plan_pair_of}
use Rattle.model.specs.PlanChecks.{files}
use Rattle.model.specs.Checks.{pair_refusal, header_rows, tree_rows, game_rows, plan_rows, pair_rows, record_rows}
use Rattle.model.specs.Rows.{of}
use Rattle.model.specs.Report as Text
use Rattle.model.specs.Call.{given, refused, answer_of, after_call, outcome, run}
use Rattle.model.specs.Calls.Report as Call
use Rattle.model.specs.Calls.RefusalLine as Line
use Rattle.model.proofs.Budget.{base_bound, budget, game_limits, plan_limits}
use Rattle.model.proofs.Checks.{game_rules, plan_rules, pair_parts, pair_refusal_lem, pair_named}
use Rattle.std.specs.Prelude.{Option, Ok, Err}
use Rattle.checks.specs.declared.Refusal.{Refusal}
use Rattle.checks.specs.declared.Refusal.TheVariants.{Room}
use Rattle.checks.specs.Answers.{refusal_number, checked_of}
use Rattle.checks.proofs.Chains.{Checked, begin, ends, call_refuses, call_gives, same_run}
use Rattle.checks.proofs.Files.{pair_refuses, pair_fine}
use Rattle.model.proofs.Rows.{refusal_below}
use Rattle.checks.proofs.OneBuffer.{one_short, one_given}
use Rattle.records.proofs.Widths.{few_sets}
use Rattle.pair.specs.declared.PairHeader.{PairHeader}
use Rattle.form.specs.declared.Values.{Values}
use Rattle.pair.proofs.PairDenominators.{d1_is, d2_is}
use Rattle.judgement.specs.declared.Deviation.{Deviation}
use Rattle.judgement.specs.Judgement.{judged}
use Rattle.evaluation.proofs.EvaluatedPairs.{EvaluationOpened, weight_is, sets_are}
use Rattle.verdict.proofs.VerdictAnswered.{judge_asks, judged_as}
use Rattle.text.specs.Text.{Put}
use Rattle.text.proofs.Lengths.{refusal_line_length}
use Rattle.report.specs.Giving.{giving}
use Rattle.report.specs.Whole.{most, pair_report, PairReady}
use Rattle.report.proofs.Strategies.{strategy_lines_lem}
use Rattle.report.proofs.Agreement.{report_is}
use Rattle.report.proofs.Longest.{report_most}

-- A text that is given, by check 18 of its length.
module _ (text buffer : List ℕ) {r : Checked} (checked : r ≡ checked_of Room (leb (length text) (length buffer))) where
  pub text_short : {d : Refusal} → r ≡ Err d → outcome (refused (refusal_number d)) (buffer, tt) ≡ run giving text (buffer, tt)
  unfolding giving
  text_short f = one_short giving tt text buffer (ends (begin [] text)) refl checked f

  pub text_given : {u : Unit {0}} → r ≡ Ok u → {after : List ℕ} {n : ℕ} → Put 0 text buffer after n → outcome (given (length text)) (after, tt) ≡ run giving text (buffer, tt)
  unfolding giving
  text_given f put = one_given giving tt text buffer (ends (begin [] text)) refl checked f put.buffer

-- the line of a refusal is given as a text
pub line_given : (number : ℕ) (buffer : List ℕ) → run giving (Text.refusal_line_of number) (buffer, tt) ≡ Line.refusal_line_of number buffer
unfolding giving Line.call
line_given number buffer = same_run giving Line.call tt tt (Text.refusal_line_of number) number (buffer, tt) (ends (begin [] (Text.refusal_line_of number)) ∙ sym (ends (begin [] number))) (λ none. (refl, refl))

-- Two files.
module _ (game plan : List ℕ) where
  -- a pair that is refused
  pub report_refused : (buffer : List ℕ) {n : ℕ} → n ≡ pair_refusal game plan → ¬ (n ≡ 0) → outcome (refused n) (buffer, tt) ≡ Call.report_call game plan buffer
  unfolding Call.call
  report_refused buffer e s = sym (call_refuses Call.call pair_named (files game plan) (buffer, tt) (pair_refuses e s))

  -- the report on one that is not is given as a text
  pub report_given : (buffer : List ℕ) → pair_refusal game plan ≡ 0 → run giving (Text.report_of game plan) (buffer, tt) ≡ Call.report_call game plan buffer
  unfolding giving Call.call
  report_given buffer e = same_run giving Call.call tt pair_named (Text.report_of game plan) (files game plan) (buffer, tt) (ends (begin [] (Text.report_of game plan)) ∙ sym (pair_fine game plan e)) (λ none. (refl, refl))

  -- the longest report
  pub file_most : pair_refusal game plan ≡ 0 → length (Text.report_of game plan) ≤ most
  unfolding Text.report_of
  file_most e =
      let g = game_of game in
      let q = plan_pair_of g plan in
      let parts = (pair_parts game plan).0 e in
      let rules = game_rules game parts.0 in
      let limits = game_limits game in
      let fit = (plan_rules game plan parts.1).fit in
      report_most g (few_sets game) rules q (omega (arith, base_bound g rules limits q fit (plan_limits g plan))) (budget g rules limits q fit (plan_limits g plan))

  refusal_few : pair_refusal game plan < 2 ^ 64
  unfolding pair_rows plan_rows game_rows header_rows record_rows tree_rows of
  refusal_few = omega (arith, pair_refusal_lem game plan, refusal_below pair_rows (files game plan) 17 (omega arith) tt)

  -- what the program prints for any two files
  pub printed_most : length (Text.printed game plan) ≤ most
  unfolding Text.printed
  printed_most = go (pair_refusal game plan) refl refusal_few
    where
      go : (k : ℕ) → pair_refusal game plan ≡ k → k < 2 ^ 64 → length (cond (eqb k 0) (Text.report_of game plan) (Text.refusal_line_of k)) ≤ most
      go zero e l = file_most e
      go (suc k) e l = rw (ne_eqb (suc k) 0 (λ z. omega arith)) (omega (arith, refusal_line_length (suc k) l))

  -- with so much room the report is refused only where its files are
  pub report_by_files : (buffer : List ℕ) → most ≤ length buffer → Call.report_call game plan buffer ≡ outcome (answer_of (pair_refusal game plan) (length (Text.report_of game plan))) (after_call (pair_refusal game plan) (Text.report_of game plan) buffer, tt)
  unfolding Call.call after_call
  report_by_files buffer l = go (pair_refusal game plan) refl
    where
      go : (k : ℕ) → pair_refusal game plan ≡ k → Call.report_call game plan buffer ≡ outcome (answer_of k (length (Text.report_of game plan))) (after_call k (Text.report_of game plan) buffer, tt)
      go zero e = call_gives Call.call pair_named (files game plan) (buffer, tt) (pair_fine game plan e) (rw (le-leb (length (Text.report_of game plan)) (length buffer) (omega (arith, file_most e))))
      go (suc k) e = sym (report_refused buffer (sym e) (λ z. omega arith))

-- What was evaluated of a pair is ready to be reported.
pub pair_ready : (game plan : List ℕ) (h : PairHeader) {v : Values} {numbers moves1 moves2 : List ℕ} → EvaluationOpened game plan h v numbers moves1 moves2 → PairReady numbers h v moves1 moves2
pair_ready game plan h e =
    let o = e.opened in
    let same = sets_are game plan h o in
    let gains = judge_asks game plan h o e.values in
    record {
      long = omega (arith, same, e.players.long);
      long1 = omega (arith, same, e.best1.long);
      long2 = omega (arith, same, e.best2.long);
      root_few = rw (weight_is game plan h o) (game_limits game).root;
      gain1 = gains.0;
      gain2 = gains.1;
    }

-- The report on what was evaluated and judged is the files'.
pub report_agrees : (game plan : List ℕ) (h : PairHeader) {v : Values} {numbers moves1 moves2 : List ℕ} → EvaluationOpened game plan h v numbers moves1 moves2 → {d : Option Deviation} → d ≡ judged v.value1 v.value2 v.best1 v.best2 h.denominators.d1 h.denominators.d2 → pair_report numbers h v d moves1 moves2 ≡ Text.report_of game plan
unfolding Text.report_of
report_agrees game plan h {v} {numbers} {moves1} {moves2} e j =
    let g = game_of game in
    let q = plan_pair_of g plan in
    let o = e.opened in
    rw (judged_as game plan h o e.values j, e.values, sets_are game plan h o, weight_is game plan h o, d1_is game plan h o, d2_is game plan h o)
    (report_is g q numbers moves1 moves2 (strategy_lines_lem g e.players one (q two) e.best1) (strategy_lines_lem g e.players two (q one) e.best2))
