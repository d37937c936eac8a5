-- 18 is the test of the sets' buffers and of the nodes'.
use mathlib.Core.Path.{◌≡◌, sym, ap, ◌∙◌}
use Rattle.checks.specs.declared.Refusal.TheVariants.{Room}
use Rattle.checks.specs.Answers.{checked_of}
use Rattle.columns.specs.Buffers.{held}
use Rattle.fields.specs.Rooms.{roomy}
use Rattle.fields.proofs.has_room.Goals as goal
use Rattle.fields.proofs.has_room.Goals.{After-check, then-each_has_room, else-each_has_room}

both : (c : After-check) → c.if-each_has_room.ok ≡ roomy c.args.h c.args.n (held c.args.buffers.now)
both c = elim c.if-each_has_room.branch [
  | then-each_has_room w ↦ rw (sym c.each_has_room.ensures ∙ w.if-each_has_room.true) (w.ok-is ∙ w.each_has_room-ok.ensures)
  | else-each_has_room w ↦ rw (sym c.each_has_room.ensures ∙ w.if-each_has_room.false) (w.ok-is ∙ w.if-each_has_room.false)
]

pub returns : goal.returns
returns c = c.check.ensures ∙ ap (checked_of Room) (both c)
