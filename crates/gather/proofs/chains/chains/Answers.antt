use Prim.Native.Nat.{ℕ, ◌+◌, ◌-◌}
use mathlib.Core.Path.{◌≡◌, subst}
use native.Mathlib.Omega.{arith}
use Rattle.algebra.proofs.Sections.{apart_none, apart_twice}
use Rattle.model.specs.Game.{one, two}
use Rattle.loaded.specs.Sections.{head_section_of, numbers_room}
use Rattle.gather.specs.Gathered.{ChainsFrom}
use Rattle.gather.proofs.Numbered.{numbered_apart}
use Rattle.gather.proofs.ChainLaws.{sequences_below, heads_filled, chains_none, chains_all}
use Rattle.gather.proofs.chains.chains.Goals as goal

pub fill-requires : goal.fill-requires
fill-requires c =
    let some = c.requires in
    let N = some.numbered in
    (omega (arith, some.has.1, sequences_below N one, N.decoded.room), omega (arith, some.has.0, N.decoded.few_sets))

pub fill-requires-2 : goal.fill-requires-2
fill-requires-2 c =
    let some = c.requires in
    let N = some.numbered in
    (omega (arith, some.has.2, sequences_below N two, N.decoded.room, c.fill.ensures.1.long), omega (arith, some.has.0, N.decoded.few_sets))

pub loop-h-init : goal.loop-h-init
loop-h-init c =
    let second = c.fill-2.ensures in
    (apart_none, λ g e a b N. chains_none g _ _ _ e a b c.fill.ensures.0 second.0 second.1 N)

pub link-requires : goal.link-requires
link-requires c =
    let some = c.requires in
    let inv = c.loop-h.invariant in
    let emptied = heads_filled some.numbered some.has.1 some.has.2 c.fill.ensures.1 c.fill-2.ensures.1 in
    record { game = some.game; has = omega (arith, some.has.0); numbered = numbered_apart (numbered_apart some.numbered emptied (omega arith)) inv.0 (omega arith) }

pub loop-h-preserved : goal.loop-h-preserved
loop-h-preserved c =
    let inv = c.loop-h.invariant in
    let made = c.link.ensures in
    let left = c.loop-h.h in
    let e : left ≡ left - 1 + 1 = omega arith in
    (apart_twice (head_section_of one) numbers_room inv.0 made.0 (omega arith) (omega arith) (omega arith) (omega arith), λ g s a b N. made.1 g (omega arith) (numbered_apart N inv.0 (omega arith)) (subst (λ (k : ℕ). ChainsFrom g k c.loop-h.numbers) e (inv.1 g s a b N)))

pub returns : goal.returns
returns c =
    let some = c.requires in
    let inv = c.loop-h.invariant in
    let emptied = heads_filled some.numbered some.has.1 some.has.2 c.fill.ensures.1 c.fill-2.ensures.1 in
    (apart_twice (head_section_of one) numbers_room emptied inv.0 (omega arith) (omega arith) (omega arith) (omega arith), λ g s a b N. let M = numbered_apart N emptied (omega arith) in chains_all g _ (inv.1 g s a b M) (omega arith) M inv.0.long)
