use mathlib.Core.Path.{refl}
use native.Mathlib.Omega.{arith}
use Rattle.algebra.proofs.Sections.{apart_none, apart_set, apart_twice}
use Rattle.loaded.specs.Sections.{first_node_section, start_section}
use Rattle.loaded.specs.Loaded.{RootedIn}
use Rattle.loaded.proofs.Decoded.{decoded_apart, rooted_apart}
use Rattle.sequences.proofs.Nodes.{decision_of, no_set}
use Rattle.sequences.proofs.FirstNodes.{firsts_none, firsts_own, firsts_other, firsts_all}
use Rattle.sequences.proofs.sets.first_nodes.Goals as goal
use Rattle.sequences.proofs.sets.first_nodes.Goals.{At-loop-n}

-- the game that the caller has shown is still there
there : (c : At-loop-n) → RootedIn c.args.nodes c.args.sets c.loop-n.numbers
there c = rooted_apart (rooted_apart c.requires c.fill.ensures.1 (omega arith)) c.loop-n.invariant.apart (omega arith)

pub loop-n-init : goal.loop-n-init
loop-n-init c =
    let held = c.fill.ensures.0 in
    record { apart = apart_none; held = λ g d e D R. firsts_none g _ _ (rw e at held) d d }

pub put-requires : goal.put-requires
put-requires c =
    let R = there (goal.at.put-requires c).At-loop-n in
    let D = decision_of (c.set_of.ensures R.game (omega (arith, R.nodes_are)) R.decoded) R.rooted (omega (arith, R.nodes_are)) c.in-Some.is in
    (omega (arith, D.below, R.decoded.room, R.decoded.few_sets), omega (arith, R.nodes_are, R.decoded.few_nodes))

pub loop-n-preserved-in-Some : goal.loop-n-preserved-in-Some
loop-n-preserved-in-Some c =
    let inv = c.loop-n.invariant in
    let put = c.put.ensures in
    let T = there (goal.at.loop-n-preserved-in-Some c).At-loop-n in
    let here = decision_of (c.set_of.ensures T.game (omega (arith, T.nodes_are)) T.decoded) T.rooted (omega (arith, T.nodes_are)) c.in-Some.is in
    record {
      apart = apart_set _ _ inv.apart put (omega arith) (omega (arith, here.below, T.decoded.few_sets));
      held = λ g a b D R.
          let own = decision_of (c.set_of.ensures g (omega (arith, a)) (decoded_apart D inv.apart (omega arith))) R (omega (arith, a)) c.in-Some.is in
          firsts_own g _ _ _ _ own (inv.held g a b D R) put own.below (omega arith) (omega (arith, a)) refl;
    }

pub loop-n-preserved : goal.loop-n-preserved
loop-n-preserved c =
    let inv = c.loop-n.invariant in
    record {
      apart = inv.apart;
      held = λ g a b D R. firsts_other g _ _ (no_set g _ (c.set_of.ensures g (omega (arith, a)) (decoded_apart D inv.apart (omega arith))) c.in_default.is) (inv.held g a b D R) (omega arith) (omega (arith, a));
    }

pub returns : goal.returns
returns c =
    let inv = c.loop-n.invariant in
    let fill = c.fill.ensures.1 in
    let P = c.requires in (
      λ g a b D R. firsts_all g _ (inv.held g a b (decoded_apart D fill (omega arith)) R) (omega arith),
      apart_twice first_node_section start_section fill inv.apart (omega arith) (omega (arith, P.sets_are, P.decoded.few_sets)) (omega arith) (omega arith),
    )
