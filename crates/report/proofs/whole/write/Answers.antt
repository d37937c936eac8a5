-- The values, and then the verdict.
use Prim.Native.Nat.{ℕ}
use mathlib.Core.Path.{sym, subst}
use mathlib.Core.List.{List, ◌++◌}
use Rattle.text.specs.Text.{TextFits}
use Rattle.report.specs.Whole.{values_text, verdict_text, report_text}
use Rattle.text.proofs.Puts.{room_first, room_then, put_then}
use Rattle.report.proofs.whole.write.Goals as goal
use Rattle.report.proofs.whole.write.Goals.{After-base-base, Start}

abbrev values_part : Start → (base : ℕ) → List ℕ
values_part s base = values_text s.args.values s.args.pair.denominators.d1 s.args.pair.denominators.d2 base

abbrev verdict_part : Start → (base : ℕ) → List ℕ
verdict_part s base = verdict_text s.args.numbers.now s.args.pair.counts.sets base s.args.verdict s.args.moves1.now s.args.moves2.now

room : (c : After-base-base) → TextFits 0 ((values_text c.args.values c.args.pair.denominators.d1 c.args.pair.denominators.d2 c.base-base.result) ++ (verdict_text c.args.numbers.now c.args.pair.counts.sets c.base-base.result c.args.verdict c.args.moves1.now c.args.moves2.now)) c.args.out.now
unfolding report_text
room c = subst (λ (base : ℕ). TextFits 0 ((values_text c.args.values c.args.pair.denominators.d1 c.args.pair.denominators.d2 base) ++ (verdict_text c.args.numbers.now c.args.pair.counts.sets base c.args.verdict c.args.moves1.now c.args.moves2.now)) c.args.out.now) (sym c.base-base.ensures) c.requires.1

pub base-base-requires : goal.base-base-requires
base-base-requires c = let r = c.requires.0 in (r.root_few, r.gain1.denominator_fits, r.gain2.denominator_fits)

pub put_values-past_values-requires : goal.put_values-past_values-requires
put_values-past_values-requires c =
    let r = c.requires.0 in
    record { gain_fits = (r.gain1, r.gain2); text_fits = room_first (values_part (goal.at.put_values-past_values-requires c).Start c.base-base.result) (verdict_part (goal.at.put_values-past_values-requires c).Start c.base-base.result) (room (goal.at.put_values-past_values-requires c).After-base-base) }

pub put_verdict-requires : goal.put_verdict-requires
put_verdict-requires c =
    let r = c.requires.0 in
    (r.long, r.long1, r.long2, room_then c.put_values-past_values.ensures (verdict_part (goal.at.put_verdict-requires c).Start c.base-base.result) (room (goal.at.put_verdict-requires c).After-base-base))

pub returns : goal.returns
unfolding report_text
returns c =
    rw (← c.base-base.ensures) (put_then c.put_values-past_values.ensures (room (goal.at.returns c).After-base-base) c.put_verdict.ensures)
