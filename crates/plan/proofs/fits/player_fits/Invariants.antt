-- The invariant: of every game whose sets these are, each set below `h` passes the player's test. A set that fails, or the end of the sets, closes a return.
use mathlib.Core.Path.{◌≡◌}
use Rattle.model.specs.Game.{Game}
use Rattle.checks.proofs.Passes.{Passed}
use Rattle.loaded.specs.Players.{as_player}
use Rattle.plan.specs.Loaded.{SetsLoaded}
use Rattle.plan.proofs.Balance.{balance_test}
use Rattle.plan.proofs.fits.player_fits.Given as goal

abbrev pub invariant-loop-h : goal.invariant-loop-h
invariant-loop-h l = (g : Game) → SetsLoaded g l.numbers → l.sets ≡ g.sets → Passed (balance_test g (as_player l.player) l.x) g.sets l.h
