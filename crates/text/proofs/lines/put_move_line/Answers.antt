-- The set, the move, and then the line's end.
use Prim.Native.Nat.{ℕ}
use mathlib.Core.Path.{◌≡◌, ap}
use mathlib.Core.List.{List, [], ◌∷◌, ◌++◌, append_assoc}
use Rattle.model.specs.Report.{ascii, decimal, line, move_line}
use Rattle.text.specs.Text.{TextFits}
use Rattle.text.proofs.Puts.{room_first, room_then, put_then}
use Rattle.text.proofs.lines.put_move_line.Goals as goal
use Rattle.text.proofs.lines.put_move_line.Goals.{Start}

abbrev set_part_lem : Start → List ℕ
set_part_lem s = ascii "set " ++ decimal s.args.set

abbrev move_part : Start → List ℕ
move_part s = ascii " move " ++ decimal s.args.place

-- the line by its parts
parts : (s : Start) → move_line (s.args.set, s.args.place) ≡ set_part_lem s ++ move_part s ++ (10 ∷ [])
unfolding move_line line ascii
parts s = ap (λ (l : List ℕ). l ++ (10 ∷ [])) (append_assoc (set_part_lem s) (ascii " move ") (decimal s.args.place))

room_3 : (s : Start) → TextFits s.args.at (set_part_lem s ++ move_part s ++ (10 ∷ [])) s.args.out.now
room_3 s = rw (parts s) at s.requires

room_2 : (s : Start) → TextFits s.args.at (set_part_lem s ++ move_part s) s.args.out.now
room_2 s = room_first (set_part_lem s ++ move_part s) (10 ∷ []) (room_3 s)

pub put_numbered-past_set-requires : goal.put_numbered-past_set-requires
unfolding ascii
put_numbered-past_set-requires c = room_first (set_part_lem (goal.at.put_numbered-past_set-requires c).Start) (move_part (goal.at.put_numbered-past_set-requires c).Start) (room_2 (goal.at.put_numbered-past_set-requires c).Start)

pub put_numbered-past_move-requires : goal.put_numbered-past_move-requires
unfolding ascii
put_numbered-past_move-requires c = room_then c.put_numbered-past_set.ensures (move_part (goal.at.put_numbered-past_move-requires c).Start) (room_2 (goal.at.put_numbered-past_move-requires c).Start)

pub put_text-requires : goal.put_text-requires
unfolding ascii
put_text-requires c =
    let two = put_then c.put_numbered-past_set.ensures (room_2 (goal.at.put_text-requires c).Start) c.put_numbered-past_move.ensures in
    room_then two (10 ∷ []) (room_3 (goal.at.put_text-requires c).Start)

pub returns : goal.returns
unfolding ascii
returns c =
    let two = put_then c.put_numbered-past_set.ensures (room_2 (goal.at.returns c).Start) c.put_numbered-past_move.ensures in
    rw (parts (goal.at.returns c).Start) (put_then two (room_3 (goal.at.returns c).Start) c.put_text.ensures)
