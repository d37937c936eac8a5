use Prim.Native.Nat.{◌<◌}
use mathlib.Core.Path.{◌≡◌, sym, ◌∙◌}
use native.Mathlib.Omega.{arith}
use Rattle.algebra.proofs.Tests.{false→not}
use Rattle.model.specs.Game.{game_of}
use Rattle.model.specs.GameChecks.{records_well_formed}
use Rattle.model.proofs.Budget.{game_limits}
use Rattle.checks.proofs.Passes.{passed_none, passed_more, passed_false, passed_true}
use Rattle.records.proofs.Headers.{header_nodes, header_records}
use Rattle.loaded.proofs.Gathered.{count_all}
use Rattle.decoding.proofs.Filled.{filled_none}
use Rattle.decoding.proofs.Nodes.{well_formed_at, well_formed_is, payload_fits, nodes_more, nodes_decoded, payoffs_none, payoffs_few, payoffs_more, payoffs_loaded, nodes_refused, nodes_counted}
use Rattle.decoding.proofs.load_nodes.Goals as goal
use Rattle.decoding.proofs.load_nodes.Goals.{After-well_formed-in-loop-n, In-loop-n}

-- the loop's node is one of the game's
turn : (c : In-loop-n) → c.loop-n.n < (game_of c.args.bytes.now).nodes
turn c = omega (arith, header_nodes _ _ c.requires.0)

small : (c : In-loop-n) → c.loop-n.n < 4095
small c = omega (arith, turn c, (game_limits c.args.bytes.now).nodes)

-- the test that is made is the model's
made : (c : After-well_formed-in-loop-n) → c.well_formed-in-loop-n.result ≡ well_formed_at c.args.bytes.now c.loop-n.n
made c = c.well_formed-in-loop-n.ensures ∙ well_formed_is _ _ _ c.read-node.ensures

pub put_node-requires : goal.put_node-requires
put_node-requires c =
    let R = c.read-node.ensures in (
      omega (arith, R.kind_fits),
      omega (arith, R.parent_fits),
      omega (arith, R.place_fits),
      omega (arith, R.weight_fits),
      payload_fits _ _ _ R,
      omega (arith, small (goal.at.put_node-requires c).In-loop-n),
      omega (arith, c.loop-n.invariant.1.apart.long, c.requires.1),
    )

pub put_leaf-leaves-requires : goal.put_leaf-leaves-requires
put_leaf-leaves-requires c =
    let P = c.loop-n.invariant.2 in
    (omega (arith, small (goal.at.put_leaf-leaves-requires c).In-loop-n, payoffs_few P), omega (arith, P.long, c.requires.2))

pub loop-n-preserved : goal.loop-n-preserved
loop-n-preserved c =
    let i = c.loop-n.invariant in
    let R = c.read-node.ensures in
    let v = turn (goal.at.loop-n-preserved c).In-loop-n in
    let w = small (goal.at.loop-n-preserved c).In-loop-n in
    let p = c.put_leaf-leaves.ensures in (
      passed_more _ _ _ _ i.0 v (made (goal.at.loop-n-preserved c).After-well_formed-in-loop-n) c.if-not-well_formed.false,
      nodes_more _ _ _ R i.1 (omega (arith, w)) c.put_node.ensures,
      payoffs_more _ _ _ R i.2 v (omega (arith, w)) p.0 p.1,
    )

pub returns-then-not-well_formed : goal.returns-then-not-well_formed
unfolding records_well_formed
returns-then-not-well_formed c =
    let f = passed_false _ _ _ _ (turn (goal.at.returns-then-not-well_formed c).In-loop-n) (made (goal.at.returns-then-not-well_formed c).After-well_formed-in-loop-n) c.if-not-well_formed.true in
    record {
      answer = nodes_refused _ _ f;
      apart = c.loop-n.invariant.1.apart;
      decoded = λ t. absurd (false→not _ (sym f) t);
      by_leaf = λ t. absurd (false→not _ (sym f) t);
    }

pub returns : goal.returns
unfolding records_well_formed
returns c =
    let i = c.loop-n.invariant in
    let e : c.loop-n.n ≡ (game_of c.args.bytes.now).nodes = omega (arith, i.0.0, header_nodes _ _ c.requires.0) in
    record {
      answer = nodes_counted _ (passed_true _ _ _ i.0 (omega (arith, e))) (count_all _ _ _ i.2.counted e);
      apart = i.1.apart;
      decoded = λ t. nodes_decoded i.1 e (omega (arith, e, (game_limits c.args.bytes.now).nodes));
      by_leaf = λ t. payoffs_loaded i.2 e (omega (arith, e, (game_limits c.args.bytes.now).nodes));
    }

pub loop-n-init : goal.loop-n-init
loop-n-init c = (passed_none _ _, filled_none (omega (arith, c.requires.1)), payoffs_none c.requires.2)

pub read-node-requires : goal.read-node-requires
read-node-requires c = (header_records _ _ c.requires.0, omega (arith, small c))
