use mathlib.Core.Path.{◌≡◌}
use native.Mathlib.Omega.{arith}
use Rattle.algebra.specs.Arrays.{Holds}
use Rattle.model.specs.Game.{Game}
use Rattle.model.specs.GameChecks.{children_weight, weights_obey_rules_of}
use Rattle.checks.proofs.Passes.{passed_none, passed_more, passed_not, passed_all}
use Rattle.tree.specs.Games.{TreeIn}
use Rattle.tree.specs.Children.{weight_test}
use Rattle.tree.proofs.children.all_weights_right.Goals as goal
use Rattle.tree.proofs.children.all_weights_right.Goals.{After-weight_right}

pub weight_right-requires : goal.weight_right-requires
weight_right-requires c = let pre = c.requires in (_, pre.0, pre.1, c.loop-n-test.true)

-- the test that is made is the model's
made : (c : After-weight_right) (g : Game) → TreeIn c.args.nodes c.args.numbers.now g → c.args.root_weight ≡ g.root_weight → Holds (children_weight g) g.nodes c.args.sums.now → c.weight_right.result ≡ weight_test g c.loop-n.n
made c g t e h = c.weight_right.ensures _ g t c.loop-n-test.true e (h.at _ (omega arith))

pub loop-n-preserved : goal.loop-n-preserved
loop-n-preserved c = λ g t e h. passed_more _ _ _ _ (c.loop-n.invariant g t e h) (omega arith) (made (goal.at.loop-n-preserved c).After-weight_right g t e h) c.if-not-weight_right.false

pub returns-then-not-weight_right : goal.returns-then-not-weight_right
unfolding weights_obey_rules_of weight_test
returns-then-not-weight_right c = λ g t e h. passed_not _ _ _ _ _ (omega arith) (made (goal.at.returns-then-not-weight_right c).After-weight_right g t e h) c.if-not-weight_right.true

pub returns : goal.returns
unfolding weights_obey_rules_of weight_test
returns c = λ g t e h. passed_all _ _ _ _ (c.loop-n.invariant g t e h) (omega arith)

pub loop-n-init : goal.loop-n-init
loop-n-init c g t e h = passed_none _ _
