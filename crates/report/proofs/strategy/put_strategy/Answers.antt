use Prim.Native.Nat.{ℕ}
use mathlib.Core.Path.{◌≡◌}
use mathlib.Core.List.{List}
use native.Mathlib.Omega.{arith}
use Rattle.algebra.specs.Bounded.{join_to}
use Rattle.loaded.specs.Players.{as_player}
use Rattle.text.specs.Text.{TextFits, Put}
use Rattle.report.specs.Whole.{set_line, strategy_lines}
use Rattle.text.proofs.Puts.{put_long}
use Rattle.report.proofs.Strategies.{joined_none, joined_room, joined_more}
use Rattle.report.proofs.strategy.put_strategy.Goals as goal
use Rattle.report.proofs.strategy.put_strategy.Goals.{After-loop-h, Start}

abbrev line_of : Start → ℕ → List ℕ
line_of s = set_line s.args.numbers.now (as_player s.args.player) s.args.moves.now

-- room for all lines
room : (s : Start) → TextFits s.args.at (join_to s.args.sets (line_of s)) s.args.out.now
unfolding strategy_lines
room s = s.requires.2

pub put_set-next-requires : goal.put_set-next-requires
put_set-next-requires c =
    (omega (arith, c.requires.0), omega (arith, c.requires.1), joined_room (line_of (goal.at.put_set-next-requires c).Start) (omega arith) (room (goal.at.put_set-next-requires c).Start) c.loop-h.invariant)

pub loop-h-preserved : goal.loop-h-preserved
loop-h-preserved c =
    joined_more (line_of (goal.at.loop-h-preserved c).Start) (omega arith) (room (goal.at.loop-h-preserved c).Start) c.loop-h.invariant c.put_set-next.ensures

-- all sets are passed
all : (c : After-loop-h) → Put c.args.at (join_to c.args.sets (set_line c.args.numbers.now (as_player c.args.player) c.args.moves.now)) c.args.out.now c.loop-h.out c.loop-h.next
all c =
    let e : c.loop-h.h ≡ c.args.sets = omega arith in
    rw e at c.loop-h.invariant

pub returns : goal.returns
unfolding strategy_lines
returns c = all c

pub loop-h-init : goal.loop-h-init
loop-h-init c = joined_none (line_of (goal.at.loop-h-init c).Start)

pub shape_of-out : goal.shape_of-out
shape_of-out c = put_long (all c) (room (goal.at.shape_of-out c).Start)
