-- Each player's value and best response, of whatever game is loaded.
use mathlib.Core.Path.{refl, ◌∙◌}
use native.Mathlib.Omega.{arith}
use mir.Syntax.{w64}
use mir.Facts.{to_z-of_z}
use Rattle.form.proofs.PairLaws.{values_are}
use Rattle.form.proofs.evaluate.Goals as goal

pub best_response-best1-requires : goal.best_response-best1-requires
best_response-best1-requires c =
    let Q = c.requires.0 in
    (record { game = Q.game; loaded = Q.loaded; weights = Q.weights.weights2 }, omega arith, omega arith, c.requires.1)

pub best_response-best2-requires : goal.best_response-best2-requires
best_response-best2-requires c =
    let Q = c.requires.0 in
    let kept = c.best_response-best1.auto in
    (record { game = Q.game; loaded = Q.loaded; weights = Q.weights.weights1 }, omega (arith, kept.sums), omega (arith, kept.worths), c.requires.2)

pub returns : goal.returns
returns c g L W =
    let value1 = c.value-value1 in
    let value2 = c.value-value2 in
    let best1 = c.best_response-best1 in
    let best2 = c.best_response-best2 in
    let given1 = best1.ensures g L W.weights2 in
    let given2 = best2.ensures g L W.weights1 in (
      values_are g c.args.x.now c.args.y.now
          (to_z-of_z {w = w64} {z = value1.result} (record { sfits = value1.type_inv }) ∙ value1.ensures g L W)
          (to_z-of_z {w = w64} {z = value2.result} (record { sfits = value2.type_inv }) ∙ value2.ensures g L W)
          (to_z-of_z {w = w64} {z = best1.result} (record { sfits = best1.type_inv }) ∙ given1.0)
          (to_z-of_z {w = w64} {z = best2.result} (record { sfits = best2.type_inv }) ∙ given2.0),
      given1.1,
      given2.1,
    )

pub slice_bounds-best_response-end : goal.slice_bounds-best_response-end
slice_bounds-best_response-end c = refl

pub slice_bounds-best_response-end-2 : goal.slice_bounds-best_response-end-2
slice_bounds-best_response-end-2 c = refl

pub shape_of-moves1 : goal.shape_of-moves1
shape_of-moves1 c = c.best_response-best1.auto.moves

pub shape_of-moves2 : goal.shape_of-moves2
shape_of-moves2 c = c.best_response-best2.auto.moves
