use mathlib.Core.Path.{◌≡◌, sym}
use native.Mathlib.Omega.{arith}
use lib.Dec.{eqb}
use lib.ListN.{get_or}
use borrow.Author.Tests.{eq-eqb, ne_eqb}
use Rattle.model.specs.Game.{Game}
use Rattle.checks.proofs.Passes.{passed_none, passed_more, passed_not, passed_all}
use Rattle.tree.specs.Games.{TreeIn}
use Rattle.tree.specs.Children.{Marked, complete}
use Rattle.tree.proofs.Parents.{set_is_there}
use Rattle.tree.proofs.Moves.{complete_is}
use Rattle.tree.proofs.children.all_complete.Goals as goal
use Rattle.tree.proofs.children.all_complete.Goals.{After-ones}

pub move_count-moves-requires : goal.move_count-moves-requires
move_count-moves-requires c = let pre = c.requires in (pre.0, pre.1.decoded, set_is_there pre.1 c.loop-n-test.true)

pub ones-requires : goal.ones-requires
ones-requires c =
    let pre = c.requires in
    let there = set_is_there pre.1 c.loop-n-test.true in
    omega (arith, c.move_count-moves.ensures pre.0 pre.1.decoded there, pre.1.rooted.few_moves _ there.inside)

-- what the comparison tells
row : (c : After-ones) (g : Game) → TreeIn c.args.nodes c.args.numbers.now g → Marked g g.nodes c.args.seen.now → eqb (get_or c.args.seen.now c.loop-n.n 0) c.ones.result ≡ complete g c.loop-n.n
row c g t m =
    let there = set_is_there t c.loop-n-test.true in
    rw (c.ones.ensures, c.move_count-moves.ensures g t.decoded there, m.at _ there.inside) (sym (complete_is g t.rooted _ there.inside))

pub loop-n-preserved : goal.loop-n-preserved
loop-n-preserved c = λ g t m. passed_more _ _ _ _ (c.loop-n.invariant g t m) (omega arith) (row (goal.at.loop-n-preserved c).After-ones g t m) (eq-eqb _ _ c.if-seen-n.false)

pub loop-n-init : goal.loop-n-init
loop-n-init c g t m = passed_none _ _

pub returns-then-seen-n : goal.returns-then-seen-n
returns-then-seen-n c g t m = passed_not _ _ _ _ _ (omega arith) (row (goal.at.returns-then-seen-n c).After-ones g t m) (ne_eqb _ _ c.if-seen-n.true)

pub returns : goal.returns
returns c g t m = passed_all _ _ _ _ (c.loop-n.invariant g t m) (omega arith)
