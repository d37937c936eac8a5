-- Payoffs that fit are given as they were read.
use native.Mathlib.Omega.{arith}
use mathlib.Core.Path.{◌≡◌, ◌∙◌}
use mir.Syntax.{w16}
use mir.Facts.{to_z-of_z}
use Rattle.model.specs.Calls.NodeRecord.{leaf}
use Rattle.records.specs.Records.{kind_number, kind_in, payoff1_in, payoff2_in}
use Rattle.lookups.specs.Answers.{place_seen}
use Rattle.lookups.specs.Records.{record_read}
use Rattle.lookups.proofs.Answers.{leaf_given}
use Rattle.lookups.proofs.node_by_kind.Goals as goal

pub returns-in-Leaf : goal.returns-in-Leaf
unfolding kind_number kind_in payoff1_in payoff2_in
returns-in-Leaf c =
    let n = c.args.node in
    let l = c.in-Leaf in
    let at = place_seen (record { parent = n.parent; place = n.place; weight = n.weight }) in
    let read : leaf at l.payoff1 l.payoff2 ≡ record_read n = rw l.is in
    leaf_given at (to_z-of_z {w = w16} {z = l.payoff1} (record { sfits = omega arith })) (to_z-of_z {w = w16} {z = l.payoff2} (record { sfits = omega arith })) ∙ read
