-- What is written is read back.
use Prim.Native.Nat.{ℕ, ◌≤◌}
use mathlib.Core.Path.{◌≡◌, sym, ◌∙◌}
use native.Mathlib.Omega.{arith}
use native.Mathlib.Nat.{le_refl}
use lib.Seq.{length-take-le}
use Rattle.std.proofs.Common.{rules}
use Rattle.checks.proofs.AnswerLaws.{passed_on}
use Rattle.game_trips.proofs.Games.{reread_refused, reread_given}
use Rattle.game_trips.proofs.reread_game.Goals as goal
use Rattle.game_trips.proofs.reread_game.Goals.{In_ok-size}

pub returns-in_err-size : goal.returns-in_err-size
returns-in_err-size c =
    record {
      call = rw (passed_on c.from_residual.ensures.1) (reread_refused _ _ _ c.write.result c.write.ensures (le_refl 36860) c.in_err-size.was _);
      same = search rules;
    }

-- what is written ends in the array
ends : {size most room : ℕ} → size ≤ most → room ≡ most → size ≤ room
ends b e = omega arith

pub slice_bounds-file-end : goal.slice_bounds-file-end
slice_bounds-file-end c = ends (reread_given _ _ _ c.write.result c.write.ensures (le_refl 36860) c.in_ok-size.was).0 c.write.auto.out

pub slice_bounds-game_fields-end : goal.slice_bounds-game_fields-end
slice_bounds-game_fields-end c = sym (length-take-le _ _ (slice_bounds-file-end (goal.at.slice_bounds-game_fields-end c).In_ok-size))

pub returns : goal.returns
returns c =
    record {
      call = c.game_fields.ensures.call ∙ (reread_given _ _ _ c.write.result c.write.ensures (le_refl 36860) c.in_ok-size.was).1 _;
      same = c.game_fields.ensures.same;
    }
