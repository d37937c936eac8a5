-- The report by its numbers is the model's.
use Prim.Native.Nat.{ℕ}
use mathlib.Core.Path.{◌≡◌, refl, sym}
use mathlib.Core.Bool.{Bool, true, false, cond}
use mathlib.Core.List.{List, ◌++◌, flat_map, append_assoc}
use lib.IntN.{pos}
use lib.Signed.{lt_z}
use Rattle.model.specs.Game.{Game, one, two}
use Rattle.model.specs.Plan.{PlanPair}
use Rattle.model.specs.Earnings.{value_base, value}
use Rattle.model.specs.BestResponse.{best_response}
use Rattle.model.specs.Verdict.{scaled_best, verdict, gain, deviation_of, equilibrium}
use Rattle.model.specs.Report.{move_line, value_line, best_line, verdict_lines, report}
use Rattle.form.specs.Values.{values_of}
use Rattle.judgement.proofs.Judgement.{without_moves}
use Rattle.text.specs.Lines.{amount_line}
use Rattle.report.specs.Whole.{both_lines, values_text, strategy_lines, deviation_text, verdict_text, report_text}

module _ (g : Game) (q : PlanPair) where
  values_are : values_text (values_of g q) (q one).denominator (q two).denominator (value_base g q) ≡ value_line g q one ++ value_line g q two ++ best_line g q one ++ best_line g q two
  unfolding values_text both_lines amount_line values_of value_line best_line value scaled_best
  values_are = sym (append_assoc (value_line g q one ++ value_line g q two) (best_line g q one) (best_line g q two))

  -- Players and moves by set whose lines are those of the best responses.
  module _ (numbers moves1 moves2 : List ℕ) (first : strategy_lines numbers g.sets one moves1 ≡ flat_map move_line (best_response g one (q two))) (second : strategy_lines numbers g.sets two moves2 ≡ flat_map move_line (best_response g two (q one))) where
    verdict_is : verdict_text numbers g.sets (value_base g q) (without_moves (verdict g q)) moves1 moves2 ≡ verdict_lines g q (verdict g q)
    unfolding verdict deviation_of verdict_text deviation_text amount_line verdict_lines
    verdict_is = go (lt_z (pos 0) (gain g q one)) (lt_z (pos 0) (gain g q two))
      where
        go : (a b : Bool) → verdict_text numbers g.sets (value_base g q) (without_moves (cond a (deviation_of g q one) (cond b (deviation_of g q two) equilibrium))) moves1 moves2 ≡ verdict_lines g q (cond a (deviation_of g q one) (cond b (deviation_of g q two) equilibrium))
        go true b = rw first
        go false true = rw second
        go false false = refl

    pub report_is : report_text numbers g.sets g.root_weight (q one).denominator (q two).denominator (values_of g q) (without_moves (verdict g q)) moves1 moves2 ≡ report g q
    unfolding report_text report value_base
    report_is = rw (values_are, verdict_is)
