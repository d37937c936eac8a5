use Prim.Native.Nat.{◌+◌}
use mathlib.Core.Path.{◌∙◌}
use native.Mathlib.Omega.{arith}
use Rattle.model.specs.Game.{Game}
use Rattle.loaded.specs.Sections.{weight_section}
use Rattle.tree.specs.Games.{TreeIn}
use Rattle.tree.proofs.Parents.{Hangs, weight_in, hangs}
use Rattle.tree.proofs.Weights.{sums_first, sums_more, sums_last, sum_small}
use Rattle.tree.proofs.children.add_weights.Goals as goal
use Rattle.tree.proofs.children.add_weights.Goals.{After-number-weight}

-- what is known of node n once it is read
at_node : (c : After-number-weight) (g : Game) → TreeIn c.args.nodes c.args.numbers.now g → Hangs g c.number-parent.result c.loop-n.n
at_node c g t = hangs t (omega arith) c.loop-n-test.true c.number-parent.ensures.0

-- of the game that is there
here : (c : After-number-weight) → Hangs c.requires.0 c.number-parent.result c.loop-n.n
here c = at_node c c.requires.0 c.requires.1

pub loop-n-init : goal.loop-n-init
loop-n-init c = let pre = c.requires in (omega (arith, pre.1.rooted.some_node), λ g t. sums_first g _ t.rooted.few_nodes pre.2)

pub overflow_add-sums : goal.overflow_add-sums
overflow_add-sums c =
    let pre = c.requires in
    let known = c.shared_slice_known-1.given in
    let n = c.loop-n.n in
    let p = c.number-parent.result in
    let small = sum_small pre.0 n p 65535 (λ w l. omega (arith, weight_in pre.1 {n = w} (omega arith), known (weight_section + w))) in
    omega (arith, small, (c.loop-n.invariant.1 pre.0 pre.1).at p (here (goal.at.overflow_add-sums c).After-number-weight).inside, c.number-weight.ensures.1)

pub loop-n-preserved : goal.loop-n-preserved
loop-n-preserved c = (omega arith, λ g t. sums_more (at_node (goal.at.loop-n-preserved c).After-number-weight g t) _ _ (c.loop-n.invariant.1 g t) (c.number-weight.ensures.0 ∙ weight_in t c.loop-n-test.true))

pub bounds-sums-parent : goal.bounds-sums-parent
bounds-sums-parent c = (here (goal.at.bounds-sums-parent c).After-number-weight).near

pub bounds-sums-parent-in-loop-n : goal.bounds-sums-parent-in-loop-n
bounds-sums-parent-in-loop-n c = (here (goal.at.bounds-sums-parent-in-loop-n c).After-number-weight).near

pub returns : goal.returns
returns c g t = sums_last g _ _ (omega arith) (c.loop-n.invariant.1 g t)
