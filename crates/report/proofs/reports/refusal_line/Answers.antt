-- The line is put into a buffer that is long enough, and given from there. The answer stands before what the calls ask.
use Prim.Native.Nat.{◌≤◌}
use mathlib.Core.Path.{sym, ◌∙◌}
use native.Mathlib.Omega.{arith}
use lib.ListN.{length}
use lib.Seq.{length-take-le}
use Rattle.text.proofs.Puts.{put_read}
use Rattle.text.proofs.Lengths.{refusal_line_length}
use Rattle.report.proofs.Calls.{line_given}
use Rattle.report.proofs.reports.refusal_line.Goals as goal
use Rattle.report.proofs.reports.refusal_line.Goals.{After-put_refusal-size}

pub returns : goal.returns
returns c =
    let a = c.args in
    (rw (put_read c.put_refusal-size.ensures) at c.give.ensures) ∙ line_given a.number a.out.now

pub put_refusal-size-requires : goal.put_refusal-size-requires
put_refusal-size-requires c = record { fits = omega (arith, refusal_line_length c.args.number c.ranges.number.fits) }

-- the line's end is in the buffer
within : (c : After-put_refusal-size) → c.put_refusal-size.result ≤ length c.put_refusal-size.new.out
within c =
    omega (arith, c.put_refusal-size.auto, c.put_refusal-size.ensures.place, refusal_line_length c.args.number c.ranges.number.fits)

pub slice_bounds-text-end : goal.slice_bounds-text-end
slice_bounds-text-end c = within (goal.at.slice_bounds-text-end c).After-put_refusal-size

pub slice_bounds-give-end : goal.slice_bounds-give-end
slice_bounds-give-end c = sym (length-take-le _ _ (within (goal.at.slice_bounds-give-end c).After-put_refusal-size))
