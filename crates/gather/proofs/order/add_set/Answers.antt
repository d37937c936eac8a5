-- What is read is node n's kind, its set and the set's first node.
use Prim.Native.Nat.{ℕ, ◌+◌, ◌<◌}
use mathlib.Core.Path.{◌≡◌, sym, ap, ◌∙◌}
use mathlib.Core.List.{List}
use native.Mathlib.Omega.{arith}
use Rattle.std.proofs.Common.{rules}
use Rattle.algebra.specs.Arrays.{item}
use Rattle.algebra.proofs.Sections.{apart_none, apart_set}
use Rattle.model.specs.Game.{Game}
use Rattle.records.specs.Records.{kind_of}
use Rattle.records.specs.declared.game_file.Kind.{Kind}
use Rattle.records.proofs.KindNumbers.{decision_number}
use Rattle.loaded.specs.Sections.{kind_section}
use Rattle.loaded.proofs.NodeReads.{kind_read}
use Rattle.gather.specs.Numbered.{Numbered}
use Rattle.gather.proofs.OrderLaws.{set_is, first_is, set_none, set_put}
use Rattle.gather.proofs.order.add_set.Goals as goal

-- the node is a decision where the kind that is read is
kind_is : {g : Game} {l : List ℕ} (N : Numbered g l) {n number : ℕ} (v : n < g.nodes) {kind : Kind} → number ≡ item l (kind_section + n) → kind ≡ kind_of number → kind ≡ Kind.Decision → g.kind n ≡ 1
kind_is N v read is decision = sym (read ∙ kind_read N.decoded v) ∙ decision_number _ (sym is ∙ decision)

pub number-requires-then-eq : goal.number-requires-then-eq
number-requires-then-eq c =
    let some = c.requires.1 in
    let N = some.numbered in
    let v = some.has in
    let s = set_is N v (kind_is N v c.number.ensures.0 c.from.ensures (search (rules, c.if-eq.ensures))) c.number-set.ensures.0 in
    omega (arith, s.0, s.1, N.decoded.few_sets, N.decoded.room)

pub returns-then-number-n : goal.returns-then-number-n
returns-then-number-n c =
    let some = c.requires.1 in
    let put = c.put.ensures in
    let set = c.number-set.ensures.0 in
    record {
      once = omega arith;
      apart = apart_set _ _ apart_none put (omega arith) (omega (arith, some.numbered.decoded.few_nodes, some.has, c.requires.0));
      held = λ g v N O.
          let kind = kind_is N v c.number.ensures.0 c.from.ensures (search (rules, c.if-eq.ensures)) in
          set_put g _ _ _ v kind (omega (arith, first_is N v kind set c.number-then-eq.ensures.0, c.if-number-n.true)) (set_is N v kind set).0 put (omega (arith, some.numbered.decoded.few_nodes, some.has, c.requires.0)) N O;
    }

pub returns-else-number-n : goal.returns-else-number-n
returns-else-number-n c = record {
  once = omega arith;
  apart = apart_none;
  held = λ g v N O. set_none g _ _ (λ kind first. omega (arith, first_is N v kind c.number-set.ensures.0 c.number-then-eq.ensures.0, c.if-number-n.false)) O;
}

pub returns-else-eq : goal.returns-else-eq
unfolding kind_of
returns-else-eq c =
    let other : ¬ (c.from.result ≡ Kind.Decision) = search (rules, c.if-eq.ensures) in
    record {
      once = omega arith;
      apart = apart_none;
      held = λ g v N O. set_none g _ _ (λ kind first. other (c.from.ensures ∙ ap kind_of (c.number.ensures.0 ∙ kind_read N.decoded v ∙ kind))) O;
    }
