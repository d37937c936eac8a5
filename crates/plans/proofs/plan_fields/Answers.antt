-- The pair's refusal comes first, then 18; with room all weights are put.
use mathlib.Core.Path.{refl, sym}
use native.Mathlib.Omega.{arith}
use native.Mathlib.Nat.{le_refl}
use lib.Dec.{leb, leb→le}
use lib.ListN.{length}
use Rattle.model.specs.Game.{one, two}
use Rattle.model.specs.Limits.{count_limit}
use Rattle.loaded.specs.Sections.{numbers_room, payoffs_room}
use Rattle.pair.proofs.Pairs.{PairOpened, pair_opened, pair_refused_with, pair_holds, pair_counted, pair_few}
use Rattle.checks.specs.declared.Refusal.TheVariants.{Room}
use Rattle.checks.proofs.Chains.{fine_test}
use Rattle.checks.proofs.AnswerLaws.{passed_on}
use Rattle.plans.proofs.Answers.{weights_refused, weights_counted, weights_short, weights_given}
use Rattle.plans.proofs.plan_fields.Goals as goal
use Rattle.plans.proofs.plan_fields.Goals.{In_ok-pair}

opened : (c : In_ok-pair) → PairOpened c.args.game.now c.args.plan.now c.in_ok-pair.pair
opened c = pair_opened _ _ c.read.ensures.answer c.in_ok-pair.was

pub returns-in_err-pair : goal.returns-in_err-pair
returns-in_err-pair c =
    let s = pair_refused_with _ _ c.read.ensures.answer c.in_err-pair.was in
    rw (passed_on c.from_residual.ensures.1) (weights_refused _ _ _ s.0 s.1)

pub returns-in_err-has_room : goal.returns-in_err-has_room
returns-in_err-has_room c =
    let o = opened (goal.at.returns-in_err-has_room c).In_ok-pair in
    rw (passed_on c.from_residual-in_err-has_room.ensures.1) (weights_short _ _ _ o.none (weights_counted _ _ o c.weight_count-count.ensures) c.has_room.ensures c.in_err-has_room.was)

pub put_weights-requires : goal.put_weights-requires
put_weights-requires c =
    let o = opened (goal.at.put_weights-requires c).In_ok-pair in
    let n = pair_counted _ _ o in
    let e = c.read.ensures in
    let x = (pair_holds _ _ o one _ e.first (omega arith)).long in
    let y = (pair_holds _ _ o two _ e.second (omega arith)).long in
    let size = c.weight_count-count.result in
    let room = length c.args.weights.now in
    let l = leb→le size room (fine_test Room (leb size room) c.has_room.ensures c.in_ok-has_room.was) in
    (pair_few _ _ o, omega (arith, x, n.first), omega (arith, y, n.second), omega (arith, c.weight_count-count.ensures, l))

pub returns : goal.returns
returns c =
    let o = opened (goal.at.returns c).In_ok-pair in
    let e = c.read.ensures in
    weights_given _ _ _ o.none (weights_counted _ _ o c.weight_count-count.ensures) c.has_room.ensures c.in_ok-has_room.was _ o (pair_holds _ _ o one _ e.first (omega arith)) (pair_holds _ _ o two _ e.second (omega arith)) c.put_weights.ensures

pub slice_bounds-read-end : goal.slice_bounds-read-end
slice_bounds-read-end c = refl

pub slice_bounds-read-end-2 : goal.slice_bounds-read-end-2
slice_bounds-read-end-2 c = refl

pub slice_bounds-read-end-3 : goal.slice_bounds-read-end-3
slice_bounds-read-end-3 c = refl

pub slice_bounds-read-end-4 : goal.slice_bounds-read-end-4
slice_bounds-read-end-4 c = refl

pub read-requires : goal.read-requires
read-requires c = (le_refl numbers_room, le_refl payoffs_room, le_refl count_limit, le_refl count_limit)

pub weight_count-count-requires : goal.weight_count-count-requires
weight_count-count-requires c = pair_few _ _ (opened (goal.at.weight_count-count-requires c).In_ok-pair)

pub slice_bounds-put_weights-end : goal.slice_bounds-put_weights-end
slice_bounds-put_weights-end c = sym c.read.auto.x

pub slice_bounds-put_weights-end-2 : goal.slice_bounds-put_weights-end-2
slice_bounds-put_weights-end-2 c = sym c.read.auto.y

pub shape_of-weights : goal.shape_of-weights
shape_of-weights c = c.put_weights.auto.out
