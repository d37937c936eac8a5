-- The count, " of ", and then the base.
use Prim.Native.Nat.{ℕ}
use mathlib.Core.List.{List, [], ◌∷◌, ◌++◌}
use mir.Facts.{to_z-of_z}
use Rattle.model.specs.Report.{ascii, decimal, signed_decimal, amount}
use Rattle.text.specs.Text.{TextFits, Put}
use Rattle.text.proofs.Puts.{room_first, room_then, put_then}
use Rattle.text.proofs.amount.put_amount.Goals as goal
use Rattle.text.proofs.amount.put_amount.Goals.{After-put_decimal, After-put_signed-past_count, Start}

-- " of "
abbrev of : List ℕ
of = 32 ∷ 111 ∷ 102 ∷ 32 ∷ []

abbrev count_part : Start → List ℕ
count_part s = signed_decimal s.args.count

abbrev base_part : Start → List ℕ
base_part s = decimal s.args.base

room_3 : (s : Start) → TextFits s.args.at (count_part s ++ of ++ base_part s) s.args.out.now
unfolding amount ascii
room_3 s = s.requires

room_2 : (s : Start) → TextFits s.args.at (count_part s ++ of) s.args.out.now
room_2 s = room_first (count_part s ++ of) (base_part s) (room_3 s)

-- the count is put
counted : (c : After-put_signed-past_count) → Put c.args.at (signed_decimal c.args.count) c.args.out.now c.put_signed-past_count.new.out c.put_signed-past_count.result
counted c = rw (to_z-of_z c.ranges.count) at c.put_signed-past_count.ensures

-- and the base
based : (c : After-put_decimal) → Put c.put_text-past_of.result (decimal c.args.base) c.put_text-past_of.new.out c.put_decimal.new.out c.put_decimal.result
based c = c.put_decimal.ensures

pub put_signed-past_count-requires : goal.put_signed-past_count-requires
put_signed-past_count-requires c = rw (to_z-of_z c.ranges.count) (room_first (count_part (goal.at.put_signed-past_count-requires c).Start) of (room_2 (goal.at.put_signed-past_count-requires c).Start))

pub put_text-past_of-requires : goal.put_text-past_of-requires
put_text-past_of-requires c = room_then (counted (goal.at.put_text-past_of-requires c).After-put_signed-past_count) of (room_2 (goal.at.put_text-past_of-requires c).Start)

pub put_decimal-requires : goal.put_decimal-requires
put_decimal-requires c =
    room_then (put_then (counted (goal.at.put_decimal-requires c).After-put_signed-past_count) (room_2 (goal.at.put_decimal-requires c).Start) c.put_text-past_of.ensures) (base_part (goal.at.put_decimal-requires c).Start) (room_3 (goal.at.put_decimal-requires c).Start)

pub returns : goal.returns
unfolding amount ascii
returns c =
    put_then (put_then (counted (goal.at.returns c).After-put_signed-past_count) (room_2 (goal.at.returns c).Start) c.put_text-past_of.ensures) (room_3 (goal.at.returns c).Start) (based (goal.at.returns c).After-put_decimal)
