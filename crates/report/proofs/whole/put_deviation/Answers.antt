-- The line of the gain, and then the strategy.
use Prim.Native.Nat.{ℕ}
use mathlib.Core.List.{List}
use Rattle.std.proofs.Common.{rules}
use mir.Syntax.{w64}
use mir.Val.{SFits}
use mir.Facts.{to_z-of_z}
use Rattle.model.specs.Game.{player_number}
use Rattle.model.specs.Earnings.{◌over◌}
use Rattle.model.specs.Report.{ascii}
use Rattle.loaded.specs.Players.{as_player}
use Rattle.text.specs.Lines.{amount_line}
use Rattle.report.specs.Whole.{deviation_text, strategy_lines}
use Rattle.text.proofs.Puts.{room_first, room_then, put_then}
use Rattle.report.proofs.whole.put_deviation.Goals as goal
use Rattle.report.proofs.whole.put_deviation.Goals.{Start}

abbrev gain_line : Start → List ℕ
gain_line s = amount_line (ascii "deviation player ") (player_number (as_player s.args.found.player)) (ascii " gain ") (s.args.found.gain over s.args.base)

abbrev lines_of : Start → List ℕ
lines_of s = strategy_lines s.args.numbers.now s.args.sets (as_player s.args.found.player) s.args.moves.now

pub put_amount_line-past_gain-requires : goal.put_amount_line-past_gain-requires
unfolding deviation_text ascii
put_amount_line-past_gain-requires c =
    let fits : SFits w64 c.args.found.gain = search rules in
    rw (to_z-of_z fits, c.number.ensures) (room_first (gain_line (goal.at.put_amount_line-past_gain-requires c).Start) (lines_of (goal.at.put_amount_line-past_gain-requires c).Start) c.requires.2)

pub put_strategy-requires : goal.put_strategy-requires
unfolding deviation_text ascii
put_strategy-requires c =
    let fits : SFits w64 c.args.found.gain = search rules in
    (c.requires.0, c.requires.1, room_then (rw (to_z-of_z fits, c.number.ensures) at c.put_amount_line-past_gain.ensures) (lines_of (goal.at.put_strategy-requires c).Start) c.requires.2)

pub returns : goal.returns
unfolding deviation_text ascii
returns c =
    let fits : SFits w64 c.args.found.gain = search rules in
    put_then (rw (to_z-of_z fits, c.number.ensures) at c.put_amount_line-past_gain.ensures) c.requires.2 c.put_strategy.ensures
