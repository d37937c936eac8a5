-- The label with the number, and then the line's end.
use mathlib.Core.List.{[], ◌∷◌, ◌++◌}
use Rattle.model.specs.Report.{ascii, decimal, line, refusal_line_of}
use Rattle.text.proofs.Puts.{room_first, room_then, put_then}
use Rattle.text.proofs.lines.put_refusal.Goals as goal

pub put_numbered-past_number-requires : goal.put_numbered-past_number-requires
unfolding refusal_line_of line ascii
put_numbered-past_number-requires c =
    room_first (ascii "refusal " ++ decimal c.args.number) (10 ∷ []) c.requires

pub put_text-requires : goal.put_text-requires
unfolding refusal_line_of line ascii
put_text-requires c = room_then c.put_numbered-past_number.ensures (10 ∷ []) c.requires

pub returns : goal.returns
unfolding refusal_line_of line ascii
returns c =
    put_then c.put_numbered-past_number.ensures c.requires c.put_text.ensures
