-- A deviation as it is shown, by check 18 of its moves.
use Prim.Native.Nat.{ℕ}
use mathlib.Core.Path.{◌≡◌}
use mathlib.Core.List.{List, []}
use lib.Dec.{leb}
use lib.IntN.{ℤ}
use lib.ListN.{length}
use Rattle.algebra.specs.Arrays.{placed}
use Rattle.model.specs.Call.{given, refused, outcome, run}
use Rattle.model.specs.Calls.Verdict.{deviates}
use Rattle.std.specs.Prelude.{Ok, Err}
use Rattle.checks.specs.declared.Refusal.{Refusal}
use Rattle.checks.specs.declared.Refusal.TheVariants.{Room}
use Rattle.checks.specs.Answers.{refusal_number, checked_of}
use Rattle.checks.proofs.Chains.{Checked, begin, ends}
use Rattle.checks.proofs.OneBuffer.{one_short, one_given}
use Rattle.verdict.specs.Showing.{showing}

module _ (player : ℕ) (gain : ℤ) (base : ℕ) (moves buffer : List ℕ) {size : ℕ} (is : size ≡ length moves) {r : Checked} (checked : r ≡ checked_of Room (leb size (length buffer))) where
  -- no room
  pub shown_short : {d : Refusal} → r ≡ Err d → outcome (refused (refusal_number d)) (buffer, tt) ≡ run (showing player gain base) moves (buffer, tt)
  unfolding showing
  shown_short f = one_short (showing player gain base) tt moves buffer (ends (begin [] moves)) is checked f

  -- room
  pub shown_given : {u : Unit {0}} → r ≡ Ok u → {after : List ℕ} → after ≡ placed 0 moves buffer → outcome (given (deviates player gain base size)) (after, tt) ≡ run (showing player gain base) moves (buffer, tt)
  unfolding showing
  shown_given f put = rw is (one_given (showing player gain base) tt moves buffer (ends (begin [] moves)) is checked f put)
