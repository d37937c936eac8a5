-- The invariant: of every game whose sets these are, the player's sets below `h` have put their odds.
use Prim.Native.Nat.{◌≤◌}
use Rattle.model.specs.Game.{Game}
use Rattle.loaded.specs.Players.{as_player}
use Rattle.plan.specs.Loaded.{SetsLoaded}
use Rattle.to_sheet.proofs.SetParts.{PutBelow}
use Rattle.to_sheet.proofs.parts.put_player.Given as goal

abbrev pub invariant-loop-h : goal.invariant-loop-h
invariant-loop-h l = (g : Game) → SetsLoaded g l.numbers → l.sets ≤ g.sets → PutBelow g (as_player l.player) l.x l.before l.initial.out l.h l.out
