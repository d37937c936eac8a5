-- The kind that is read is the node's.
use mathlib.Core.Path.{◌≡◌, sym, ap, ◌∙◌}
use native.Mathlib.Omega.{arith}
use Rattle.std.proofs.Common.{rules}
use Rattle.algebra.proofs.Sections.{apart_none}
use Rattle.records.specs.Records.{kind_of}
use Rattle.records.specs.declared.game_file.Kind.{Kind}
use Rattle.records.proofs.KindNumbers.{leaf_number}
use Rattle.loaded.proofs.NodeReads.{kind_read}
use Rattle.gather.proofs.LeafLaws.{leaf_none}
use Rattle.gather.proofs.leaves.add_node.Goals as goal

pub returns-then-eq : goal.returns-then-eq
returns-then-eq c =
    let put = c.put_leaf.ensures in
    let leaf : c.number.result ≡ 0 = leaf_number _ (sym c.from.ensures ∙ search (rules, c.if-eq.ensures)) in
    record { once = omega arith; apart = put.0; held = λ g v N L. put.1 g v (omega (arith, leaf, c.number.ensures.0, kind_read N.decoded v)) N L }

pub returns : goal.returns
unfolding kind_of
returns c =
    let other : ¬ (c.from.result ≡ Kind.Leaf) = search (rules, c.if-eq.ensures) in
    record { once = omega arith; apart = apart_none; held = λ g v N L. leaf_none g _ _ (λ leaf. other (c.from.ensures ∙ ap kind_of (c.number.ensures.0 ∙ kind_read N.decoded v ∙ leaf))) L }
