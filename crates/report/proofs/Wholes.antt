-- The verdict's text by its cases.
use Prim.Native.Nat.{ℕ}
use mathlib.Core.Path.{◌≡◌}
use mathlib.Core.List.{List}
use Rattle.std.specs.Prelude.{Option, Some, None}
use Rattle.model.specs.Game.{Player}
use Rattle.model.specs.Earnings.{◌over◌}
use Rattle.model.specs.Report.{ascii, line}
use Rattle.loaded.specs.Players.{as_player}
use Rattle.judgement.specs.declared.Deviation.{Deviation}
use Rattle.report.specs.Whole.{moves_of, deviation_text, verdict_text}

module _ (numbers : List ℕ) (sets base : ℕ) {v : Option Deviation} (moves1 moves2 : List ℕ) where
  pub text_accepted : v ≡ None → verdict_text numbers sets base v moves1 moves2 ≡ line (ascii "accepted")
  unfolding verdict_text
  text_accepted e = rw e

  -- the deviation of a player that is p, with his moves
  pub text_found : {d : Deviation} → v ≡ Some d → {p : Player} → as_player d.player ≡ p → verdict_text numbers sets base v moves1 moves2 ≡ deviation_text numbers sets (as_player d.player) (d.gain over base) (moves_of p moves1 moves2)
  unfolding verdict_text
  text_found e is = rw (e, ← is)
