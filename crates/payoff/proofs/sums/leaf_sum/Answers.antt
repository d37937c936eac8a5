use Prim.Native.Nat.{◌+◌, ◌-◌}
use mathlib.Core.Path.{◌≡◌, ◌∙◌, ap}
use native.Mathlib.Omega.{arith}
use lib.IntN.{◌+ℤ◌}
use mir.Syntax.{w64}
use mir.Val.{SFits, to_z, of_z}
use mir.Facts.{to_z-of_z}
use Rattle.algebra.specs.Sections.{section}
use Rattle.loaded.specs.Sections.{chance_section}
use Rattle.payoff.specs.Table.{weighed_at, leaf_sum_of}
use Rattle.payoff.proofs.RowSums.{sum_none, sum_more}
use Rattle.payoff.proofs.sums.leaf_sum.Goals as goal
use Rattle.payoff.proofs.sums.leaf_sum.Goals.{After-leaf_term}

-- the sum with the leaf
adds : (c : After-leaf_term) → let a = c.args in to_z w64 c.loop-i.sum-bits +ℤ to_z w64 (of_z w64 c.leaf_term.result) ≡ leaf_sum_of a.sorted.now (section chance_section a.numbers.now) (section a.from a.payoffs.now) a.start (c.loop-i.i + 1 - a.start)
adds c =
    let a = c.args in
    sum_more _ _ _ _ c.loop-i.i c.loop-i.auto.i c.loop-i.invariant.1 (to_z-of_z {w = w64} {z = c.leaf_term.result} (record { sfits = c.leaf_term.type_inv }) ∙ c.leaf_term.ensures ∙ ap (weighed_at (section chance_section a.numbers.now) (section a.from a.payoffs.now)) c.item-leaf.ensures.0)

fits : (c : After-leaf_term) → SFits w64 (to_z w64 c.loop-i.sum-bits +ℤ to_z w64 (of_z w64 c.leaf_term.result))
fits c = rw (adds c) (c.requires.fit (c.loop-i.i + 1 - c.args.start) (omega arith))

pub loop-i-init : goal.loop-i-init
loop-i-init c = (omega arith, sum_none _ _ _ _)

pub leaf_term-requires : goal.leaf_term-requires
leaf_term-requires c = (omega (arith, c.requires.chance_in c.loop-i.i (omega arith)), omega (arith, c.requires.payoffs_in c.loop-i.i (omega arith)))

pub added-sum-requires : goal.added-sum-requires
added-sum-requires c = fits c

pub loop-i-preserved : goal.loop-i-preserved
loop-i-preserved c = (omega arith, to_z-of_z {w = w64} {z = c.added-sum.result} (record { sfits = c.added-sum.type_inv }) ∙ c.added-sum.ensures ∙ adds (goal.at.loop-i-preserved c).After-leaf_term)

pub returns : goal.returns
returns c = let e : c.loop-i.i - c.args.start ≡ c.args.end - c.args.start = omega arith in rw e at c.loop-i.invariant.1
