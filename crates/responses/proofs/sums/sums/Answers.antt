use Prim.Native.Nat.{ℕ, ◌+◌, ◌≤◌, ◌<◌}
use mathlib.Core.Path.{◌≡◌, sym, ap, ◌∙◌}
use native.Mathlib.Omega.{arith}
use borrow.Author.Rules.{rules}
use lib.ListN.{length}
use lib.Seq.{length-take-le}
use lib.IntN.{pos, ◌+ℤ◌}
use mir.Syntax.{w64}
use mir.Val.{SFits, to_z, of_z}
use mir.Facts.{to_z-of_z}
use Rattle.algebra.specs.Arrays.{item, item_z}
use Rattle.model.specs.Game.{Game, other}
use Rattle.loaded.specs.Players.{as_player}
use Rattle.model.specs.Earnings.{leaf_term}
use Rattle.loaded.specs.Sections.{leaf_section}
use Rattle.loaded.specs.Leaves.{leaf_of}
use Rattle.responses.specs.Responses.{LoadedAs}
use Rattle.loaded.specs.Weights.{plan_by_number, Weights}
use Rattle.slices.proofs.Fills.{front_filled}
use Rattle.responses.proofs.LeafLaws.{sum_none, holds_zero}
use Rattle.responses.proofs.LeafReadings.{leaf_room, chance_room, payoff_room, weight_room, term_is, in_range_lem, turn_fits, turn_held, all_held}
use Rattle.loaded.proofs.Sides.{own_is, opponent_is, payoffs_is, sequences_is, few_sequences}
use Rattle.responses.proofs.sums.sums.Goals as goal
use Rattle.responses.proofs.sums.sums.Goals.{After-side-side, After-number-s, After-opponent_term-term}

-- each of his sequences has a place
room : (c : After-side-side) → c.side-side.result.sequences ≤ length c.args.out.now
room c =
    let Q = c.requires.0 in
    let L = Q.loaded.in_numbers in
    let p = as_player c.args.player in
    omega (arith, sequences_is c.args.game.now.counts p c.side-side.ensures Q.game L.counts_are, few_sequences Q.game L.rules L.limits p, c.requires.1)

pub slice_bounds-fill-end : goal.slice_bounds-fill-end
slice_bounds-fill-end c = room (goal.at.slice_bounds-fill-end c).After-side-side

pub slice_bounds-fill-end-2 : goal.slice_bounds-fill-end-2
slice_bounds-fill-end-2 c = sym (length-take-le c.side-side.result.sequences c.args.out.now (room (goal.at.slice_bounds-fill-end-2 c).After-side-side))

pub loop-k-init : goal.loop-k-init
loop-k-init c g L W =
    let p = as_player c.args.player in
    let r = room (goal.at.loop-k-init c).After-side-side in
    rw (← sequences_is c.args.game.now.counts p c.side-side.ensures g L.in_numbers.counts_are)
    (holds_zero c.args.out.now (front_filled (pos 0) c.side-side.result.sequences c.args.out.now r (c.fill.ensures.after (λ y e. e))) r (sum_none g p (plan_by_number g (other p) (item c.args.y.now))))

pub number-s-requires : goal.number-s-requires
number-s-requires c =
    let p = as_player c.args.player in
    omega (arith, own_is c.args.game.now.counts p c.side-side.ensures, leaf_room c.requires.0.loaded {k = c.loop-k.k} (omega arith) p)

-- the own sequence that is read, by its player's section
own_read : (c : After-number-s) → let a = c.args in c.number-s.result ≡ item a.game.now.numbers.now (leaf_section (as_player a.player) + c.loop-k.k)
own_read c =
    let a = c.args in
    c.number-s.ensures.0 ∙ ap (λ (o : ℕ). item a.game.now.numbers.now (o + c.loop-k.k)) (own_is a.game.now.counts (as_player a.player) c.side-side.ensures)

-- is a place of the array
in_out : (c : After-number-s) → c.number-s.result < length c.loop-k.out
in_out c =
    let Q = c.requires.0 in
    let p = as_player c.args.player in
    omega (arith, in_range_lem Q.loaded p Q.weights {k = c.loop-k.k} (omega arith) (own_read c), (c.loop-k.invariant Q.game Q.loaded Q.weights).long)

pub slice_copy_out-added : goal.slice_copy_out-added
slice_copy_out-added c = in_out (goal.at.slice_copy_out-added c).After-number-s

pub bounds-out-s : goal.bounds-out-s
bounds-out-s c = in_out (goal.at.bounds-out-s c).After-number-s

pub opponent_term-term-requires : goal.opponent_term-term-requires
opponent_term-term-requires c =
    let Q = c.requires.0 in
    let p = as_player c.args.player in
    let opponent = opponent_is c.args.game.now.counts p c.side-side.ensures in
    let l : c.loop-k.k < c.args.game.now.counts.leaves = omega arith in (
      omega (arith, opponent, leaf_room Q.loaded l (other p)),
      chance_room Q.loaded l,
      omega (arith, payoffs_is c.args.game.now.counts p c.side-side.ensures, payoff_room Q.loaded l p),
      rw opponent (weight_room Q.loaded l (other p) Q.weights),
    )

-- what is added is the leaf's term, of each game there
adds : (c : After-opponent_term-term) → SFits w64 (item_z c.loop-k.out c.number-s.result) → let a = c.args in let out = c.loop-k.out in let k = c.loop-k.k in (g : Game) → LoadedAs g a.game.now → Weights g (other (as_player a.player)) a.y.now → to_z w64 (of_z w64 (item_z out c.number-s.result)) +ℤ to_z w64 (of_z w64 c.opponent_term-term.result) ≡ item_z out c.number-s.result +ℤ leaf_term g (as_player a.player) (plan_by_number g (other (as_player a.player)) (item a.y.now)) (leaf_of g k)
adds c sum g L W =
    let a = c.args in
    let p = as_player a.player in
    let side = c.side-side.ensures in
    let term : SFits w64 c.opponent_term-term.result = search rules in
    rw (to_z-of_z sum, to_z-of_z term, term_is L p W (omega arith) c.opponent_term-term.ensures (opponent_is a.game.now.counts p side) (payoffs_is a.game.now.counts p side))

pub added-requires : goal.added-requires
added-requires c =
    let Q = c.requires.0 in
    rw (adds (goal.at.added-requires c).After-opponent_term-term (search rules) Q.game Q.loaded Q.weights)
    (turn_fits Q.loaded (as_player c.args.player) Q.weights (omega arith) (own_read (goal.at.added-requires c).After-number-s) (c.loop-k.invariant Q.game Q.loaded Q.weights))

pub loop-k-preserved : goal.loop-k-preserved
loop-k-preserved c g L W =
    let sum : SFits w64 c.added.result = search rules in
    turn_held L (as_player c.args.player) W (omega arith) (own_read (goal.at.loop-k-preserved c).After-number-s) (c.loop-k.invariant g L W)
    (to_z-of_z sum ∙ c.added.ensures ∙ adds (goal.at.loop-k-preserved c).After-opponent_term-term (search rules) g L W)

pub returns : goal.returns
returns c g L W = all_held L (as_player c.args.player) W (omega arith) (c.loop-k.invariant g L W)
