-- The weights are put in file order, and so many of them written.
use mathlib.Core.Path.{sym, ◌∙◌}
use native.Mathlib.Omega.{arith}
use native.Mathlib.Nat.{le_refl}
use lib.Seq.{length-take-le}
use Rattle.model.specs.Limits.{count_limit}
use Rattle.model.specs.Calls.WritePlan.{write_plan_of}
use Rattle.from_sheet.proofs.SheetPlans.{front_weights}
use Rattle.from_sheet.proofs.write.Goals as goal
use Rattle.from_sheet.proofs.write.Goals.{After-item-d2}

pub slice_bounds-weights-end : goal.slice_bounds-weights-end
slice_bounds-weights-end c =
    let few = c.requires.0 in
    omega (arith, c.weight_count-count.ensures, few.some1, few.some2, few.few, c.put_weights.auto.out, le_refl count_limit)

pub returns : goal.returns
returns c =
    let a = c.args in
    let first = c.item-d1.ensures.0 in
    let second = c.item-d2.ensures.0 in
    let weights = front_weights a.counts a.x.now a.y.now _ c.put_weights.ensures c.weight_count-count.ensures in
    c.write.ensures ∙ (λ i. write_plan_of (first i) (second i) (weights i) a.out.now)

pub put_weights-requires : goal.put_weights-requires
put_weights-requires c = let s = c.requires in let few = s.0 in (few, omega (arith, s.1, few.some2, few.few), omega (arith, s.2, few.some1, few.few), omega (arith, few.some1, few.some2, few.few))

pub slice_bounds-write-end : goal.slice_bounds-write-end
slice_bounds-write-end c = sym (length-take-le _ _ (slice_bounds-weights-end (goal.at.slice_bounds-write-end c).After-item-d2))

pub write-requires : goal.write-requires
write-requires c = tt
