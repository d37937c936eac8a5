-- Player 1's line, and then player 2's.
use Prim.Native.Nat.{ℕ}
use mathlib.Core.List.{List, [], ◌∷◌}
use mir.Facts.{to_z-of_z}
use Rattle.model.specs.Earnings.{◌over◌}
use Rattle.model.specs.Report.{ascii}
use Rattle.text.specs.Lines.{amount_line}
use Rattle.report.specs.Whole.{both_lines}
use Rattle.text.proofs.Puts.{room_first, room_then, put_then}
use Rattle.report.proofs.whole.put_both.Goals as goal
use Rattle.report.proofs.whole.put_both.Goals.{Start}

abbrev line_1 : Start → List ℕ
line_1 s = amount_line s.args.label.now 1 (32 ∷ []) (s.args.count1 over s.args.base)

abbrev line_2 : Start → List ℕ
line_2 s = amount_line s.args.label.now 2 (32 ∷ []) (s.args.count2 over s.args.base)

pub put_amount_line-past_first-requires : goal.put_amount_line-past_first-requires
unfolding both_lines ascii
put_amount_line-past_first-requires c =
    rw (to_z-of_z c.ranges.count1) (room_first (line_1 (goal.at.put_amount_line-past_first-requires c).Start) (line_2 (goal.at.put_amount_line-past_first-requires c).Start) c.requires)

pub put_amount_line-requires : goal.put_amount_line-requires
unfolding both_lines ascii
put_amount_line-requires c =
    rw (to_z-of_z c.ranges.count2) (room_then (rw (to_z-of_z c.ranges.count1) at c.put_amount_line-past_first.ensures) (line_2 (goal.at.put_amount_line-requires c).Start) c.requires)

pub returns : goal.returns
unfolding both_lines ascii
returns c =
    put_then (rw (to_z-of_z c.ranges.count1) at c.put_amount_line-past_first.ensures) c.requires (rw (to_z-of_z c.ranges.count2) at c.put_amount_line.ensures)
