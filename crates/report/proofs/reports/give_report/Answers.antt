-- The report is put into a buffer that is long enough, and given from there.
use Prim.Native.Nat.{ℕ, ◌+◌, ◌≤◌}
use mathlib.Core.Path.{◌≡◌}
use native.Mathlib.Omega.{arith}
use lib.ListN.{length}
use Rattle.text.proofs.Puts.{put_read}
use Rattle.report.proofs.reports.give_report.Goals as goal
use Rattle.report.proofs.reports.give_report.Goals.{After-write-size}

-- a text that is no longer than the buffer begins and ends in it
begins : {n most : ℕ} → n ≤ most → 0 + n ≤ most
begins b = omega arith

ends : {end n most room : ℕ} → end ≡ 0 + n → n ≤ most → room ≡ most → end ≤ room
ends e b k = omega arith

pub write-size-requires : goal.write-size-requires
write-size-requires c = let p = c.requires in (p.0, record { fits = begins p.1 })

-- the report's end is in the buffer
within : (c : After-write-size) → c.write-size.result ≤ length c.write-size.new.out
within c = ends c.write-size.ensures.place c.requires.1 c.write-size.auto.out

pub returns : goal.returns
returns c = rw (put_read c.write-size.ensures) at c.give.ensures

pub slice_bounds-text-end : goal.slice_bounds-text-end
slice_bounds-text-end c = within (goal.at.slice_bounds-text-end c).After-write-size
