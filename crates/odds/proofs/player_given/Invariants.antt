-- The invariant: the sets before place i pass, and their sequences are marked.
use mathlib.Core.Path.{◌≡◌}
use lib.ListN.{length}
use Rattle.model.specs.Game.{Game}
use Rattle.model.specs.Sheet.{Odds}
use Rattle.loaded.specs.declared.Counts.{Counts}
use Rattle.loaded.specs.Players.{as_player}
use Rattle.loaded.specs.Loaded.{NumbersLoaded}
use Rattle.sheets.specs.OddsByNumber.{OddsByNumber}
use Rattle.odds.proofs.Marks.{PassedMarked}
use Rattle.odds.proofs.player_given.Given as goal

abbrev pub invariant-loop-i : goal.invariant-loop-i
invariant-loop-i l = (length l.marks ≡ length l.initial.marks) × ((g : Game) → (c : Counts) → (odds : Odds) → NumbersLoaded g c l.numbers → l.sets ≡ g.sets → OddsByNumber g (as_player l.player) odds l.x → PassedMarked g odds (as_player l.player) l.i l.marks)
