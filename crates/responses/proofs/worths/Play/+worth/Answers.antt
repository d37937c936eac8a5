use Prim.Native.Nat.{ℕ, ◌+◌, ◌-◌, ◌*◌, ◌<◌}
use mathlib.Core.Path.{◌≡◌, refl, ◌∙◌}
use native.Mathlib.Omega.{arith}
use mir.Syntax.{w64}
use mir.Facts.{to_z-of_z}
use Rattle.algebra.specs.Arrays.{item}
use Rattle.model.specs.Game.{Game, Player}
use Rattle.model.specs.Sequences.{sequence_count}
use Rattle.model.specs.Plan.{RealizationPlan}
use Rattle.loaded.specs.Sections.{first_node_section}
use Rattle.loaded.specs.Sets.{lead_by}
use Rattle.slices.proofs.Firsts.{FirstPassing}
use Rattle.responses.specs.Worths.{ReadyFor}
use Rattle.responses.proofs.SequencesAt.{led, move_below}
use Rattle.responses.proofs.Walks.{walk_start, walk_step, walk_fits, walk_end, try_start, try_step, try_end}
use Rattle.responses.proofs.SetReadings.{rules, limits, head_room, head_at, sum_at_lem, sum_fits, next_at, start_at, moves_at, some_move, move_stored}
use Rattle.responses.proofs.Measures.{lowest, set_falls, move_falls}
use Rattle.responses.proofs.worths.Play.+worth.Goals as goal
use Rattle.responses.proofs.worths.Play.+worth.Goals.{sequence_worth-After-number-at-in-loop-at}

pub move_worth-number-requires : goal.move_worth-number-requires
move_worth-number-requires t c = head_room c.requires.ready c.requires.is_sequence

pub move_worth-sequence_worth-requires : goal.move_worth-sequence_worth-requires
move_worth-sequence_worth-requires t c =
    let a = c.args in
    let e : 3 * (4096 - lowest a.self.now.numbers.now a.self.now.heads a.self.now.sets a.s) + 2 ≡ t = c.decreases in
    (omega arith, c.requires)

pub move_worth-returns : goal.move_worth-returns
move_worth-returns t c =
    let Q = c.requires in
    λ g p y W l. walk_end (rules W) l (omega (arith, W.sets_are, c.if-number-self.false)) (omega (arith, Q.room, Q.is_sequence)) (walk_start (head_at W l c.number.ensures.0) (to_z-of_z {w = w64} (sum_fits W l) ∙ sum_at_lem W l))

pub sequence_worth-loop-at-init : goal.sequence_worth-loop-at-init
sequence_worth-loop-at-init t c = (refl, λ g p y W l. walk_start (head_at W l c.number-at.ensures.0) (to_z-of_z {w = w64} (sum_fits W l) ∙ sum_at_lem W l))

pub sequence_worth-set_worth-sum-requires : goal.sequence_worth-set_worth-sum-requires
sequence_worth-set_worth-sum-requires t c =
    let a = c.args in
    let Q = c.requires in
    let p = c.loop-at in
    let in_sets : p.at < Q.game.sets = omega (arith, Q.ready.sets_are, c.loop-at-test.true) in
    let here = (p.invariant.1 Q.game Q.player Q.plan Q.ready Q.is_sequence).here in_sets in
    let e : 3 * (4096 - lowest a.self.now.numbers.now a.self.now.heads a.self.now.sets a.s) + 1 ≡ t = c.decreases in (
      omega (arith, set_falls Q.ready a.s p.at in_sets here),
      record { game = Q.game; player = Q.player; plan = Q.plan; ready = Q.ready; room = omega (arith, Q.room, p.invariant.0); is_set = in_sets; own = (led Q.game Q.player a.s p.at here).0 },
    )

pub sequence_worth-overflow_add-sum : goal.sequence_worth-overflow_add-sum
sequence_worth-overflow_add-sum t c =
    let Q = c.requires in
    let p = c.loop-at in
    let call = c.set_worth-sum in
    let in_sets : p.at < Q.game.sets = omega (arith, Q.ready.sets_are, c.loop-at-test.true) in
    let done = p.invariant.1 Q.game Q.player Q.plan Q.ready Q.is_sequence in
    rw (to_z-of_z {w = w64} {z = call.result} (record { sfits = call.type_inv }))
    (walk_fits (rules Q.ready) (limits Q.ready) Q.ready.sums_held.small Q.is_sequence in_sets done (call.ensures Q.game Q.player Q.plan Q.ready in_sets (led Q.game Q.player c.args.s p.at (done.here in_sets)).0))

-- the next of the chain, of any game there
next_set : (t : ℕ) (c : sequence_worth-After-number-at-in-loop-at t) (g : Game) (p : Player) (y : RealizationPlan) → ReadyFor g p y c.args.self.now → c.args.s < sequence_count g p → FirstPassing g.sets (lead_by g p c.args.s) (c.loop-at.at + 1) c.number-at-in-loop-at.result
next_set t c g p y W l =
    let q = c.loop-at in
    let in_sets : q.at < g.sets = omega (arith, W.sets_are, c.loop-at-test.true) in
    next_at W in_sets c.args.s ((q.invariant.1 g p y W l).here in_sets) c.number-at-in-loop-at.ensures.0

pub sequence_worth-loop-at-smaller : goal.sequence_worth-loop-at-smaller
sequence_worth-loop-at-smaller t c =
    let Q = c.requires in
    let F = next_set t c Q.game Q.player Q.plan Q.ready Q.is_sequence in
    omega (arith, F.low, F.high, Q.ready.sets_are, c.loop-at-test.true)

pub sequence_worth-loop-at-preserved : goal.sequence_worth-loop-at-preserved
sequence_worth-loop-at-preserved t c =
    let q = c.loop-at in
    let call = c.set_worth-sum in (
      call.auto.worths ∙ q.invariant.0,
      λ g p y W l.
          let in_sets : q.at < g.sets = omega (arith, W.sets_are, c.loop-at-test.true) in
          let done = q.invariant.1 g p y W l in
          let given = call.ensures g p y W in_sets (led g p c.args.s q.at (done.here in_sets)).0 in
          rw (to_z-of_z {w = w64} {z = call.result} (record { sfits = call.type_inv }), to_z-of_z {w = w64} (walk_fits (rules W) (limits W) W.sums_held.small l in_sets done given))
          (walk_step (next_set t c g p y W l) in_sets done given),
    )

pub sequence_worth-returns : goal.sequence_worth-returns
sequence_worth-returns t c =
    let Q = c.requires in
    let q = c.loop-at in
    λ g p y W l. walk_end (rules W) l (omega (arith, W.sets_are, c.loop-at-test.false)) (omega (arith, Q.room, Q.is_sequence, q.invariant.0)) (q.invariant.1 g p y W l)

pub set_worth-move_worth-first-requires : goal.set_worth-move_worth-first-requires
set_worth-move_worth-first-requires t c =
    let a = c.args in
    let Q = c.requires in
    let some = some_move Q.ready Q.is_set in
    let at = start_at Q.ready Q.is_set c.number-s.ensures.0 in
    let e : 3 * (4096 - item a.self.now.numbers.now (first_node_section + a.h)) ≡ t = c.decreases in (
      omega (arith, move_falls Q.ready a.h 0 c.number-s.result Q.is_set Q.own some (omega (arith, at))),
      record { game = Q.game; player = Q.player; plan = Q.plan; ready = Q.ready; room = Q.room; is_sequence = omega (arith, at, move_below Q.game Q.player a.h 0 Q.is_set Q.own some) },
    )

pub set_worth-loop-m-init : goal.set_worth-loop-m-init
set_worth-loop-m-init t c =
    let Q = c.requires in
    let call = c.move_worth-first in (
      refl,
      λ g p y W l o. try_start c.args.h (to_z-of_z {w = w64} {z = call.result} (record { sfits = call.type_inv })) (move_stored c.args.self.now W call.ensures c.args.h 0 l o (some_move W l) (omega (arith, start_at W l c.number-s.ensures.0))),
    )

pub set_worth-move_worth-other-requires : goal.set_worth-move_worth-other-requires
set_worth-move_worth-other-requires t c =
    let a = c.args in
    let Q = c.requires in
    let q = c.loop-m in
    let one_of : q.m < Q.game.set_moves a.h = omega (arith, moves_at Q.ready Q.is_set c.number-moves.ensures.0, c.loop-m-test.true) in
    let at = start_at Q.ready Q.is_set c.number-s.ensures.0 in
    let e : 3 * (4096 - item a.self.now.numbers.now (first_node_section + a.h)) ≡ t = c.decreases in (
      omega (arith, move_falls Q.ready a.h q.m (c.number-s.result + q.m) Q.is_set Q.own one_of (omega (arith, at))),
      record { game = Q.game; player = Q.player; plan = Q.plan; ready = Q.ready; room = omega (arith, Q.room, q.invariant.0, c.move_worth-first.auto.worths); is_sequence = omega (arith, at, move_below Q.game Q.player a.h q.m Q.is_set Q.own one_of) },
    )

pub set_worth-loop-m-preserved : goal.set_worth-loop-m-preserved
set_worth-loop-m-preserved t c =
    let a = c.args in
    let q = c.loop-m in
    let call = c.move_worth-other in (
      call.auto.worths ∙ q.invariant.0,
      λ g p y W l o.
          rw (to_z-of_z {w = w64} {z = c.max-top.result} (record { sfits = c.max-top.type_inv }), c.max-top.ensures.value, to_z-of_z {w = w64} {z = call.result} (record { sfits = call.type_inv }))
          (try_step (omega arith) (q.invariant.1 g p y W l o) (move_stored c.args.self.now W call.ensures a.h q.m l o (omega (arith, moves_at W l c.number-moves.ensures.0, c.loop-m-test.true)) (omega (arith, start_at W l c.number-s.ensures.0)))),
    )

pub set_worth-returns : goal.set_worth-returns
set_worth-returns t c =
    let a = c.args in
    let q = c.loop-m in
    let call = c.move_worth-first in
    λ g p y W l o. try_end (rules W) l o (omega (arith, c.loop-m-test.false, some_move W l, moves_at W l c.number-moves.ensures.0)) (move_stored c.args.self.now W call.ensures a.h 0 l o (some_move W l) (omega (arith, start_at W l c.number-s.ensures.0))) (q.invariant.1 g p y W l o)
