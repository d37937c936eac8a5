-- What each part needs is what the one before gives, of whatever game is loaded.
use mathlib.Core.Path.{◌∙◌}
use mir.Syntax.{w64}
use mir.Facts.{to_z-of_z}
use Rattle.algebra.specs.Arrays.{item}
use Rattle.model.specs.Game.{other}
use Rattle.loaded.specs.Players.{as_player}
use Rattle.loaded.specs.Weights.{plan_by_number}
use Rattle.responses.proofs.LeafReadings.{sums_held}
use Rattle.responses.proofs.best_response.Goals as goal

pub worths-best-requires : goal.worths-best-requires
worths-best-requires c =
    let Q = c.requires.0 in
    let p = as_player c.args.player in (
      record { game = Q.game; plan = plan_by_number Q.game (other p) (item c.args.y.now); held = sums_held Q.loaded p Q.weights (c.sums.ensures Q.game Q.loaded Q.weights) },
      c.requires.2,
    )

pub best_moves-requires : goal.best_moves-requires
best_moves-requires c =
    let Q = c.requires.0 in
    let p = as_player c.args.player in
    let plan = plan_by_number Q.game (other p) (item c.args.y.now) in (
      record { game = Q.game; plan = plan; held = (c.worths-best.ensures Q.game plan (sums_held Q.loaded p Q.weights (c.sums.ensures Q.game Q.loaded Q.weights))).1 },
      c.requires.3,
    )

pub returns : goal.returns
returns c g L W =
    let p = as_player c.args.player in
    let call = c.worths-best in
    let plan = plan_by_number g (other p) (item c.args.y.now) in
    let given = call.ensures g plan (sums_held L p W (c.sums.ensures g L W)) in
    (to_z-of_z {w = w64} {z = call.result} (record { sfits = call.type_inv }) ∙ given.0, c.best_moves.ensures g plan given.1)
