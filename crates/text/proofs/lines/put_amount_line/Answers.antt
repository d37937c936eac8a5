-- The label with the player, what stands between, the amount, and then the line's end.
use Prim.Native.Nat.{ℕ}
use mathlib.Core.List.{List, [], ◌∷◌, ◌++◌}
use mir.Facts.{to_z-of_z}
use Rattle.model.specs.Earnings.{◌over◌}
use Rattle.model.specs.Report.{ascii, decimal, amount, line}
use Rattle.text.specs.Text.{TextFits, Put}
use Rattle.text.specs.Lines.{amount_line}
use Rattle.text.proofs.Puts.{room_first, room_then, put_then}
use Rattle.text.proofs.lines.put_amount_line.Goals as goal
use Rattle.text.proofs.lines.put_amount_line.Goals.{After-put_amount-past_amount, After-put_text-past_between, Start}

abbrev player_part : Start → List ℕ
player_part s = s.args.label.now ++ decimal s.args.player_number

abbrev between_part : Start → List ℕ
between_part s = player_part s ++ s.args.between.now

abbrev amount_part : Start → List ℕ
amount_part s = between_part s ++ amount (s.args.count over s.args.base)

-- room for the first parts, up to the whole line
room_4 : (s : Start) → TextFits s.args.at (amount_part s ++ (10 ∷ [])) s.args.out.now
unfolding amount_line line ascii
room_4 s = s.requires

room_3 : (s : Start) → TextFits s.args.at (amount_part s) s.args.out.now
room_3 s = room_first (amount_part s) (10 ∷ []) (room_4 s)

room_2 : (s : Start) → TextFits s.args.at (between_part s) s.args.out.now
room_2 s = room_first (between_part s) (amount (s.args.count over s.args.base)) (room_3 s)

pub put_numbered-past_number-requires : goal.put_numbered-past_number-requires
put_numbered-past_number-requires c = room_first (player_part (goal.at.put_numbered-past_number-requires c).Start) c.args.between.now (room_2 (goal.at.put_numbered-past_number-requires c).Start)

pub put_text-past_between-requires : goal.put_text-past_between-requires
put_text-past_between-requires c = room_then c.put_numbered-past_number.ensures c.args.between.now (room_2 (goal.at.put_text-past_between-requires c).Start)

-- what is put before the amount
before_amount : (c : After-put_text-past_between) → Put c.args.at ((c.args.label.now ++ decimal c.args.player_number) ++ c.args.between.now) c.args.out.now c.put_text-past_between.new.out c.put_text-past_between.result
unfolding amount_line line ascii
before_amount c =
    let room_4 : TextFits c.args.at ((((c.args.label.now ++ decimal c.args.player_number) ++ c.args.between.now) ++ amount (c.args.count over c.args.base)) ++ (10 ∷ [])) c.args.out.now = c.requires in
    let room_3 : TextFits c.args.at (((c.args.label.now ++ decimal c.args.player_number) ++ c.args.between.now) ++ amount (c.args.count over c.args.base)) c.args.out.now = room_first (((c.args.label.now ++ decimal c.args.player_number) ++ c.args.between.now) ++ amount (c.args.count over c.args.base)) (10 ∷ []) (room_4) in
    let room_2 : TextFits c.args.at ((c.args.label.now ++ decimal c.args.player_number) ++ c.args.between.now) c.args.out.now = room_first ((c.args.label.now ++ decimal c.args.player_number) ++ c.args.between.now) (amount (c.args.count over c.args.base)) (room_3) in
    put_then c.put_numbered-past_number.ensures (room_2) c.put_text-past_between.ensures

pub put_amount-past_amount-requires : goal.put_amount-past_amount-requires
put_amount-past_amount-requires c =
    rw (to_z-of_z c.ranges.count) (room_then (before_amount (goal.at.put_amount-past_amount-requires c).After-put_text-past_between) (amount (c.args.count over c.args.base)) (room_3 (goal.at.put_amount-past_amount-requires c).Start))

-- and with it
with_amount : (c : After-put_amount-past_amount) → Put c.args.at (((c.args.label.now ++ decimal c.args.player_number) ++ c.args.between.now) ++ amount (c.args.count over c.args.base)) c.args.out.now c.put_amount-past_amount.new.out c.put_amount-past_amount.result
unfolding amount_line line ascii
with_amount c =
    let room_4 : TextFits c.args.at ((((c.args.label.now ++ decimal c.args.player_number) ++ c.args.between.now) ++ amount (c.args.count over c.args.base)) ++ (10 ∷ [])) c.args.out.now = c.requires in
    let room_3 : TextFits c.args.at (((c.args.label.now ++ decimal c.args.player_number) ++ c.args.between.now) ++ amount (c.args.count over c.args.base)) c.args.out.now = room_first (((c.args.label.now ++ decimal c.args.player_number) ++ c.args.between.now) ++ amount (c.args.count over c.args.base)) (10 ∷ []) (room_4) in
    let room_2 : TextFits c.args.at ((c.args.label.now ++ decimal c.args.player_number) ++ c.args.between.now) c.args.out.now = room_first ((c.args.label.now ++ decimal c.args.player_number) ++ c.args.between.now) (amount (c.args.count over c.args.base)) (room_3) in
    let before_amount : Put c.args.at ((c.args.label.now ++ decimal c.args.player_number) ++ c.args.between.now) c.args.out.now c.put_text-past_between.new.out c.put_text-past_between.result = put_then c.put_numbered-past_number.ensures (room_2) c.put_text-past_between.ensures in
    put_then (before_amount) (room_3) (rw (to_z-of_z c.ranges.count) at c.put_amount-past_amount.ensures)

pub put_text-requires : goal.put_text-requires
put_text-requires c = room_then (with_amount (goal.at.put_text-requires c).After-put_amount-past_amount) (10 ∷ []) (room_4 (goal.at.put_text-requires c).Start)

pub returns : goal.returns
unfolding amount_line line ascii
returns c = put_then (with_amount (goal.at.returns c).After-put_amount-past_amount) (room_4 (goal.at.returns c).Start) c.put_text.ensures
