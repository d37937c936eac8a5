-- The payload of each kind is what the model reads in those 32 bits.
use mir.Syntax.{w16}
use mir.Facts.{to_z-of_z}
use Rattle.bits.proofs.Cuts.{cut_first, cut_field}
use Rattle.records.specs.Records.{payload_by}
use Rattle.records.proofs.game_file.Payload.read.Goals as goal

pub returns-in-Leaf : goal.returns-in-Leaf
unfolding payload_by
returns-in-Leaf c = λ bytes at word.
    let one = c.signed16 in
    let two = c.signed16-in-Leaf in
    rw (
      c.in-Leaf.is,
      to_z-of_z {w = w16} {z = one.result} (record { sfits = one.type_inv }),
      to_z-of_z {w = w16} {z = two.result} (record { sfits = two.type_inv }),
      one.ensures,
      two.ensures,
      cut_first bytes at 16 16 word c.cut-first.ensures.0,
      cut_field bytes at 16 16 0 word c.cut-second.ensures.0,
    )

pub returns-in-Decision : goal.returns-in-Decision
unfolding payload_by
returns-in-Decision c = λ bytes at word.
    rw (c.in-Decision.is, cut_first bytes at 12 20 word c.cut-set.ensures.0, cut_field bytes at 12 20 0 word c.cut-padding.ensures.0)

pub returns-in-Chance : goal.returns-in-Chance
unfolding payload_by
returns-in-Chance c = λ bytes at word.
    rw (c.in-Chance.is, cut_first bytes at 7 25 word c.cut-moves.ensures.0, cut_field bytes at 7 25 0 word c.cut-padding-in-Chance.ensures.0)

pub returns-in-Unknown : goal.returns-in-Unknown
unfolding payload_by
returns-in-Unknown c = λ bytes at word. rw (c.in-Unknown.is, c.number.ensures, c.in-Unknown.is)
