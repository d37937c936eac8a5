-- Two fields, by the node's kind.
use borrow.Author.Rules.{rules}
use mir.Syntax.{w16}
use mir.Val.{SFits}
use mir.Facts.{to_z-of_z}
use Rattle.records.specs.Records.{payload_bits}
use Rattle.records.proofs.game_file.Payload.put.Goals as goal

pub returns-in-Leaf : goal.returns-in-Leaf
unfolding payload_bits
returns-in-Leaf c =
    let one : SFits w16 c.in-Leaf.payoff1 = search rules in
    let two : SFits w16 c.in-Leaf.payoff2 = search rules in
    rw (c.in-Leaf.is, c.put_fields.ensures, c.unsigned16-first.ensures.0, c.unsigned16-second.ensures.0, to_z-of_z one, to_z-of_z two)

pub returns-in-Decision : goal.returns-in-Decision
unfolding payload_bits
returns-in-Decision c = rw c.in-Decision.is c.put_fields-in-Decision.ensures

pub returns-in-Chance : goal.returns-in-Chance
unfolding payload_bits
returns-in-Chance c = rw c.in-Chance.is c.put_moves.ensures

pub returns-in-Unknown : goal.returns-in-Unknown
unfolding payload_bits
returns-in-Unknown c = rw c.in-Unknown.is c.put_moves-in-Unknown.ensures
