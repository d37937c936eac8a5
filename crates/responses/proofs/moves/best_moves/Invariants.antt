-- The invariant: of each game there, the first `h` places have its sets' best moves.
use Rattle.algebra.proofs.Fillings.{Filling}
use Rattle.model.specs.Game.{Game}
use Rattle.loaded.specs.Players.{as_player}
use Rattle.model.specs.Plan.{RealizationPlan}
use Rattle.responses.specs.Worths.{WorthsHeld}
use Rattle.responses.specs.BestMoves.{own_best_move}
use Rattle.responses.proofs.moves.best_moves.Given as goal

abbrev pub invariant-loop-h : goal.invariant-loop-h
invariant-loop-h l = (g : Game) (y : RealizationPlan) → WorthsHeld g (as_player l.player) y l.fn.counts l.numbers l.worths → Filling (own_best_move g (as_player l.player) y) l.fn.counts.sets l.initial.moves l.h l.moves
