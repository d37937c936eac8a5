use Prim.Native.Nat.{◌<◌}
use mathlib.Core.Path.{◌≡◌, ap, ◌∙◌}
use native.Mathlib.Omega.{arith}
use Rattle.model.specs.Game.{Game}
use Rattle.model.specs.GameChecks.{payload_in_range, payloads_in_range_of}
use Rattle.checks.proofs.Passes.{passed_none, passed_more, passed_not, passed_all}
use Rattle.records.specs.Records.{kind_of}
use Rattle.loaded.specs.Loaded.{Decoded}
use Rattle.loaded.proofs.NodeReads.{kind_read, payload_read}
use Rattle.tree.proofs.NodeTests.{in_range_is}
use Rattle.tree.proofs.each_node.payloads_in_range.Goals as goal
use Rattle.tree.proofs.each_node.payloads_in_range.Goals.{After-in_range}

-- the test that is made is the model's
made : (c : After-in_range) (g : Game) → c.args.nodes ≡ g.nodes → c.args.sets ≡ g.sets → Decoded g c.args.numbers.now → c.in_range.result ≡ payload_in_range g c.loop-n.n
made c g e s D =
    let l : c.loop-n.n < g.nodes = omega arith in
    c.in_range.ensures ∙ in_range_is g _ (c.kind.ensures ∙ ap kind_of (kind_read D l)) (c.number-payload.ensures.0 ∙ payload_read D l) s

pub loop-n-preserved : goal.loop-n-preserved
loop-n-preserved c = λ g e s D. passed_more _ _ _ _ (c.loop-n.invariant g e s D) (omega arith) (made (goal.at.loop-n-preserved c).After-in_range g e s D) c.if-not-in_range.false

pub returns-then-not-in_range : goal.returns-then-not-in_range
unfolding payloads_in_range_of
returns-then-not-in_range c = λ g e s D. passed_not _ _ _ _ _ (omega arith) (made (goal.at.returns-then-not-in_range c).After-in_range g e s D) c.if-not-in_range.true

pub returns : goal.returns
unfolding payloads_in_range_of
returns c = λ g e s D. passed_all _ _ _ _ (c.loop-n.invariant g e s D) (omega arith)

pub loop-n-init : goal.loop-n-init
loop-n-init c g e s D = passed_none _ _
