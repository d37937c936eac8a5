use mathlib.Core.Path.{refl}
use native.Mathlib.Omega.{arith}
use Rattle.model.specs.Game.{Game}
use Rattle.tree.specs.Games.{TreeIn}
use Rattle.tree.proofs.Parents.{hangs}
use Rattle.tree.proofs.Depths.{Further, measured_root, further, measured_more, measured_not, measured_all}
use Rattle.tree.proofs.paths.paths_in_limit.Goals as goal
use Rattle.tree.proofs.paths.paths_in_limit.Goals.{After-number-parent}

-- what the parent's entry says of node `n`
above : (c : After-number-parent) (g : Game) → TreeIn c.args.nodes c.args.numbers.now g → Further g c.loop-n.n c.number-parent.result c.loop-n.depths
above c g t =
    let M = c.loop-n.invariant g t in
    further g _ _ _ t.rooted M (omega arith) (hangs t M.some c.loop-n-test.true c.number-parent.ensures.0).parent

-- and of the game that is there
here : (c : After-number-parent) → Further c.requires.0 c.loop-n.n c.number-parent.result c.loop-n.depths
here c = above c c.requires.0 c.requires.1

pub bounds-depths-parent : goal.bounds-depths-parent
bounds-depths-parent c = let a = here c in omega arith

pub overflow_add-depth : goal.overflow_add-depth
overflow_add-depth c = let a = here (goal.at.overflow_add-depth c).After-number-parent in omega arith

pub loop-n-preserved : goal.loop-n-preserved
loop-n-preserved c = λ g t. rw c.from-depth.ensures (measured_more g _ _ _ (above (goal.at.loop-n-preserved c).After-number-parent g t) (omega arith) t.rooted (c.loop-n.invariant g t) (rw c.from-depth.ensures at c.if-depth-gt-PATH.false))

pub loop-n-init : goal.loop-n-init
loop-n-init c g t = measured_root g _ t.rooted.some_node refl refl

pub returns-then-depth-gt-PATH : goal.returns-then-depth-gt-PATH
returns-then-depth-gt-PATH c g t = measured_not g _ _ _ (above (goal.at.returns-then-depth-gt-PATH c).After-number-parent g t) (omega arith) (rw c.from-depth.ensures at c.if-depth-gt-PATH.true)

pub returns : goal.returns
returns c g t = measured_all g _ _ (c.loop-n.invariant g t) (omega arith)
