-- The invariant: of each game there, `sum` is the sum over the leaves at the places below `k`.
use mathlib.Core.Path.{◌≡◌}
use Rattle.model.specs.Game.{Game}
use Rattle.responses.specs.Responses.{LoadedAs}
use Rattle.loaded.specs.Players.{as_player}
use Rattle.form.specs.Values.{PairWeights}
use Rattle.form.proofs.PairLaws.{value_to}
use Rattle.form.proofs.value.Given as goal

abbrev pub invariant-loop-k : goal.invariant-loop-k
invariant-loop-k l = (g : Game) (L : LoadedAs g l.game) (W : PairWeights g l.x l.y) → l.sum ≡ value_to L W (as_player l.fn.player) l.k
