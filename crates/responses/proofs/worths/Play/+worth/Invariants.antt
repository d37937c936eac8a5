-- The three functions call each other. What falls: three times the nodes from the first on that a set led to begins at, and two for a move, one for a sequence.
-- The invariants: the sets before `at` that the sequence leads to are done; the moves before `m` are tried.
use Prim.Native.Nat.{◌+◌, ◌-◌, ◌*◌, ◌<◌}
use mathlib.Core.Path.{◌≡◌}
use lib.Dec.{T}
use lib.ListN.{length}
use Rattle.algebra.specs.Arrays.{item}
use Rattle.model.specs.Game.{Game, Player, owns}
use Rattle.model.specs.Sequences.{sequence_count}
use Rattle.model.specs.Plan.{RealizationPlan}
use Rattle.loaded.specs.Sections.{first_node_section}
use Rattle.responses.specs.Worths.{ReadyFor}
use Rattle.responses.proofs.Walks.{Walked, Tried}
use Rattle.responses.proofs.Measures.{lowest}
use Rattle.responses.proofs.worths.Play.+worth.Given as goal

abbrev pub decreases-move_worth : goal.decreases-move_worth
decreases-move_worth l = 3 * (4096 - lowest l.self.now.numbers.now l.self.now.heads l.self.now.sets l.s) + 2

abbrev pub decreases-sequence_worth : goal.decreases-sequence_worth
decreases-sequence_worth l = 3 * (4096 - lowest l.self.now.numbers.now l.self.now.heads l.self.now.sets l.s) + 1

abbrev pub decreases-set_worth : goal.decreases-set_worth
decreases-set_worth l = 3 * (4096 - item l.self.now.numbers.now (first_node_section + l.h))

abbrev pub invariant-sequence_worth-loop-at : goal.invariant-sequence_worth-loop-at
invariant-sequence_worth-loop-at l =
    (length l.worths ≡ length l.initial.worths)
    × ((g : Game) (p : Player) (y : RealizationPlan) → ReadyFor g p y l.self → l.s < sequence_count g p → Walked g p y l.s l.at l.initial.worths l.worths l.sum)

abbrev pub decreases-sequence_worth-loop-at : goal.decreases-sequence_worth-loop-at
decreases-sequence_worth-loop-at l = l.self.sets - l.at

abbrev pub invariant-set_worth-loop-m : goal.invariant-set_worth-loop-m
invariant-set_worth-loop-m l =
    (length l.worths ≡ length l.initial.worths)
    × ((g : Game) (p : Player) (y : RealizationPlan) → ReadyFor g p y l.self → l.h < g.sets → T (owns g p l.h) → Tried g p y l.h l.m l.initial.worths l.worths l.top)
