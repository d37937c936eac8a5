-- Both values, and then both best values. The answer stands before what the calls ask.
use Prim.Native.Nat.{ℕ}
use mathlib.Core.Path.{◌≡◌, ◌∙◌}
use mathlib.Core.List.{List}
use borrow.Author.Rules.{rules}
use lib.IntN.{pos, ◌*ℤ◌}
use mir.Syntax.{w64}
use mir.Val.{SFits, to_z, of_z}
use mir.Facts.{to_z-of_z}
use Rattle.model.specs.Report.{ascii}
use Rattle.text.specs.Text.{Put}
use Rattle.report.specs.Whole.{both_lines, values_text}
use Rattle.text.proofs.Puts.{room_first, room_then, put_then}
use Rattle.report.proofs.whole.put_values.Goals as goal
use Rattle.report.proofs.whole.put_values.Goals.{After-put_both-past_values, After-scaled_best-best1, After-scaled_best-best2, Start}

abbrev value_lines : Start → List ℕ
value_lines s = both_lines (ascii "value ") s.args.values.value1 s.args.values.value2 s.args.base

abbrev best_lines : Start → List ℕ
best_lines s = both_lines (ascii "best ") (pos s.args.denominators.d1 *ℤ s.args.values.best1) (pos s.args.denominators.d2 *ℤ s.args.values.best2) s.args.base

-- the values are put
values_put : (c : After-put_both-past_values) → Put c.args.at (both_lines (ascii "value ") c.args.values.value1 c.args.values.value2 c.args.base) c.args.out.now c.put_both-past_values.new.out c.put_both-past_values.result
unfolding ascii
values_put c =
    let value1_fits : SFits w64 c.args.values.value1 = search rules in
    let value2_fits : SFits w64 c.args.values.value2 = search rules in
    rw (to_z-of_z value1_fits, to_z-of_z value2_fits) at c.put_both-past_values.ensures

-- each best value is brought to the base by the player's own denominator
best1_is : (c : After-scaled_best-best1) → to_z w64 (of_z w64 c.scaled_best-best1.result) ≡ pos c.args.denominators.d1 *ℤ c.args.values.best1
best1_is c =
    let best1_fits : SFits w64 c.args.values.best1 = search rules in
    to_z-of_z {w = w64} {z = c.scaled_best-best1.result} (record { sfits = c.scaled_best-best1.type_inv }) ∙ rw (to_z-of_z best1_fits) at c.scaled_best-best1.ensures

best2_is : (c : After-scaled_best-best2) → to_z w64 (of_z w64 c.scaled_best-best2.result) ≡ pos c.args.denominators.d2 *ℤ c.args.values.best2
best2_is c =
    let best2_fits : SFits w64 c.args.values.best2 = search rules in
    to_z-of_z {w = w64} {z = c.scaled_best-best2.result} (record { sfits = c.scaled_best-best2.type_inv }) ∙ rw (to_z-of_z best2_fits) at c.scaled_best-best2.ensures

pub returns : goal.returns
unfolding values_text ascii
returns c =
    put_then (values_put (goal.at.returns c).After-put_both-past_values) c.requires.text_fits (rw (best1_is (goal.at.returns c).After-scaled_best-best1, best2_is (goal.at.returns c).After-scaled_best-best2) at c.put_both.ensures)

pub scaled_best-best1-requires : goal.scaled_best-best1-requires
scaled_best-best1-requires c =
    let best1_fits : SFits w64 c.args.values.best1 = search rules in
    let g = c.requires.gain_fits.0 in
    (g.denominator_fits, rw (to_z-of_z best1_fits) g.scaled)

pub scaled_best-best2-requires : goal.scaled_best-best2-requires
scaled_best-best2-requires c =
    let best2_fits : SFits w64 c.args.values.best2 = search rules in
    let g = c.requires.gain_fits.1 in
    (g.denominator_fits, rw (to_z-of_z best2_fits) g.scaled)

pub put_both-past_values-requires : goal.put_both-past_values-requires
unfolding values_text ascii
put_both-past_values-requires c =
    let value1_fits : SFits w64 c.args.values.value1 = search rules in
    let value2_fits : SFits w64 c.args.values.value2 = search rules in
    rw (to_z-of_z value1_fits, to_z-of_z value2_fits) (room_first (value_lines (goal.at.put_both-past_values-requires c).Start) (best_lines (goal.at.put_both-past_values-requires c).Start) c.requires.text_fits)

pub put_both-requires : goal.put_both-requires
unfolding values_text ascii
put_both-requires c =
    rw (best1_is (goal.at.put_both-requires c).After-scaled_best-best1, best2_is (goal.at.put_both-requires c).After-scaled_best-best2) (room_then (values_put (goal.at.put_both-requires c).After-put_both-past_values) (best_lines (goal.at.put_both-requires c).Start) c.requires.text_fits)
