-- The longest that a report can be.
use Prim.Native.Nat.{ℕ, ◌+◌, ◌*◌, ◌^◌, ◌≤◌, ◌<◌}
use mathlib.Core.Path.{ap}
use mathlib.Core.Bool.{Bool, true, false, cond}
use mathlib.Core.List.{◌++◌, flat_map}
use native.Mathlib.Omega.{arith}
use lib.Dec.{T}
use lib.ListN.{length, length-append}
use lib.IntN.{pos}
use lib.Signed.{lt_z}
use Rattle.algebra.proofs.Searches.{first_to_bound}
use Rattle.algebra.proofs.Tests.{dec}
use Rattle.model.specs.Limits.{count_limit}
use Rattle.model.specs.Game.{Game, Player, one, two, other, owns, player_number}
use Rattle.model.specs.Plan.{PlanPair, RealizationPlan}
use Rattle.model.specs.Earnings.{◌over◌, value_base, value_count, value}
use Rattle.model.specs.BestResponse.{best_move, best_response}
use Rattle.model.specs.Verdict.{scaled_best, verdict, gain, deviation_of, equilibrium}
use Rattle.model.specs.Report.{ascii, line, move_line, value_line, best_line, verdict_lines, report}
use Rattle.model.specs.Rules.{GameRules}
use Rattle.model.proofs.Budget.{Budget}
use Rattle.text.specs.Lines.{amount_line}
use Rattle.report.specs.Whole.{most}
use Rattle.text.proofs.Lengths.{amount_line_length, move_line_length}
use Rattle.report.proofs.Strategies.{joined_most, response_line, response_own, response_other, response_lines}

number_few : (p : Player) → player_number p < 10
number_few one = omega arith
number_few two = omega arith

best_few : (g : Game) (p : Player) (y : RealizationPlan) (h : ℕ) → best_move g p y h ≤ g.set_moves h
unfolding best_move
best_few g p y h = first_to_bound (g.set_moves h) _

module _ (g : Game) (few : g.sets ≤ count_limit) (R : GameRules g) where
  -- a strategy: at most 4,095 lines of at most 17 bytes
  strategy_most : (p : Player) (y : RealizationPlan) → length (flat_map move_line (best_response g p y)) ≤ 17 * count_limit
  strategy_most p y = omega (arith, ap length (response_lines g p y), joined_most 17 g.sets (response_line g p y) (λ h l. at_set h l (dec (owns g p h))))
    where
      at_set : (h : ℕ) → h < g.sets → Dec (T (owns g p h)) → length (response_line g p y h) ≤ 17
      at_set h l (yes o) = omega (arith, ap length (response_own g p y h o), move_line_length h (best_move g p y h) (omega arith) (omega (arith, (R.set_moves h l).1, best_few g p y h)))
      at_set h l (no o) = omega (arith, ap length (response_other g p y h o))

  module _ (q : PlanPair) (base : value_base g q < 10 ^ 14) (B : Budget g q) where
    value_most : (p : Player) → length (value_line g q p) ≤ 47
    unfolding value_line value amount_line value_count ascii
    value_most p = amount_line_length (ascii "value ") (player_number p) (ascii " ") (value_count g q p) (value_base g q) (number_few p) base (B.value p g.nodes (omega arith))

    best_most : (p : Player) → length (best_line g q p) ≤ 46
    unfolding best_line amount_line ascii
    best_most p = amount_line_length (ascii "best ") (player_number p) (ascii " ") (scaled_best g q p) (value_base g q) (number_few p) base (B.scaled p)

    deviation_most : (p : Player) → length (verdict_lines g q (deviation_of g q p)) ≤ 63 + 17 * count_limit
    unfolding verdict_lines deviation_of amount_line ascii
    deviation_most p =
        let y = q (other p) in
        omega (
          arith,
          length-append (amount_line (ascii "deviation player ") (player_number p) (ascii " gain ") (gain g q p over value_base g q)) (flat_map move_line (best_response g p y)),
          amount_line_length (ascii "deviation player ") (player_number p) (ascii " gain ") (gain g q p) (value_base g q) (number_few p) base (B.gains p),
          strategy_most p y,
        )

    accepted_most : length (verdict_lines g q equilibrium) ≤ 63 + 17 * count_limit
    unfolding verdict_lines line ascii
    accepted_most = omega arith

    verdict_most : length (verdict_lines g q (verdict g q)) ≤ 63 + 17 * count_limit
    unfolding verdict
    verdict_most = go (lt_z (pos 0) (gain g q one)) (lt_z (pos 0) (gain g q two))
      where
        go : (a b : Bool) → length (verdict_lines g q (cond a (deviation_of g q one) (cond b (deviation_of g q two) equilibrium))) ≤ 63 + 17 * count_limit
        go true b = deviation_most one
        go false true = deviation_most two
        go false false = accepted_most

    pub report_most : length (report g q) ≤ most
    unfolding report
    report_most =
        let v1 = value_line g q one in
        let v2 = value_line g q two in
        let b1 = best_line g q one in
        let b2 = best_line g q two in
        let v = verdict_lines g q (verdict g q) in
        omega (
          arith,
          length-append (v1 ++ v2 ++ b1 ++ b2) v,
          length-append (v1 ++ v2 ++ b1) b2,
          length-append (v1 ++ v2) b1,
          length-append v1 v2,
          value_most one,
          value_most two,
          best_most one,
          best_most two,
          verdict_most,
        )
