use Prim.Native.Nat.{◌+◌, ◌<◌}
use mathlib.Core.Path.{◌≡◌, ◌∙◌}
use native.Mathlib.Omega.{arith}
use lib.IntN.{◌+ℤ◌}
use mir.Syntax.{w64}
use mir.Val.{to_z, of_z}
use mir.Facts.{to_z-of_z}
use Rattle.model.specs.Game.{Game, one, two}
use Rattle.responses.specs.Responses.{LoadedAs}
use Rattle.loaded.specs.Players.{as_player}
use Rattle.responses.proofs.LeafReadings.{leaf_room, chance_room, payoff_room, weight_room}
use Rattle.loaded.proofs.Sides.{payoffs_is}
use Rattle.form.specs.Values.{PairWeights}
use Rattle.form.proofs.PairLaws.{pair_term_is, value_to, value_none, value_more, value_fits, value_all}
use Rattle.form.proofs.value.Goals as goal
use Rattle.form.proofs.value.Goals.{After-pair_term}

pub pair_term-requires : goal.pair_term-requires
pair_term-requires c =
    let Q = c.requires in
    let p = as_player c.args.player in
    let l : c.loop-k.k < c.args.game.now.counts.leaves = omega arith in (
      leaf_room Q.loaded l one,
      leaf_room Q.loaded l two,
      chance_room Q.loaded l,
      omega (arith, payoffs_is c.args.game.now.counts p c.side-from.ensures, payoff_room Q.loaded l p),
      weight_room Q.loaded l one Q.weights.weights1,
      weight_room Q.loaded l two Q.weights.weights2,
    )

-- the sum with place k, of each game there
adds : (c : After-pair_term) → let a = c.args in (g : Game) (L : LoadedAs g a.game.now) (W : PairWeights g a.x.now a.y.now) → to_z w64 c.loop-k.sum-bits +ℤ to_z w64 (of_z w64 c.pair_term.result) ≡ value_to L W (as_player a.player) (c.loop-k.k + 1)
adds c g L W =
    let a = c.args in
    let p = as_player a.player in
    value_more L W p c.loop-k.k (c.loop-k.invariant g L W) (to_z-of_z {w = w64} {z = c.pair_term.result} (record { sfits = c.pair_term.type_inv }) ∙ pair_term_is L W p (omega arith) c.pair_term.ensures (payoffs_is a.game.now.counts p c.side-from.ensures))

pub added-sum-requires : goal.added-sum-requires
added-sum-requires c =
    let Q = c.requires in
    rw (adds c Q.game Q.loaded Q.weights) (value_fits Q.loaded Q.weights (as_player c.args.player) (c.loop-k.k + 1) (omega arith))

pub loop-k-preserved : goal.loop-k-preserved
loop-k-preserved c g L W = to_z-of_z {w = w64} {z = c.added-sum.result} (record { sfits = c.added-sum.type_inv }) ∙ c.added-sum.ensures ∙ adds (goal.at.loop-k-preserved c).After-pair_term g L W

pub loop-k-init : goal.loop-k-init
loop-k-init c g L W = value_none L W _

pub returns : goal.returns
returns c g L W = value_all L W _ (omega arith) (c.loop-k.invariant g L W)
