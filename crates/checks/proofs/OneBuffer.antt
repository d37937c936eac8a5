-- Calls that lend one buffer: their ends by check 18 as it is made, of one size and one room.
use Prim.Native.Nat.{ℕ}
use mathlib.Core.Path.{◌≡◌, sym, ◌∙◌}
use mathlib.Core.Bool.{and-true}
use mathlib.Core.List.{List, [], ◌∷◌}
use lib.Dec.{T, leb}
use lib.ListN.{length}
use Rattle.algebra.specs.Arrays.{placed}
use Rattle.algebra.proofs.Arrays.{placed_first}
use Rattle.model.specs.Rows.{refusal}
use Rattle.model.specs.Call.{given, refused, long_enough, after_call, Call, outcome, run}
use Rattle.model.proofs.Rows.{named}
use Rattle.std.specs.Prelude.{Ok, Err}
use Rattle.checks.specs.declared.Refusal.{Refusal}
use Rattle.checks.specs.declared.Refusal.TheVariants.{Room}
use Rattle.checks.specs.Answers.{refusal_number, checked_of}
use Rattle.checks.proofs.Chains.{Checked, fine_holds, call_short, call_gives}

module _ {I A R : Type 0} (c : Call I (A ∷ []) R) (some : T (named c.rows)) (i : I) (b : List A) (fine : refusal c.rows i ≡ 0) {size : ℕ} (is : size ≡ length (c.written i).0) {r : Checked} (checked : r ≡ checked_of Room (leb size (length b))) where
  measured : r ≡ checked_of Room (long_enough (length (c.written i).0 ∷ []) (length b ∷ []))
  measured = checked ∙ rw (is, and-true)

  -- no room
  pub one_short : {d : Refusal} → r ≡ Err d → outcome (refused (refusal_number d)) (b, tt) ≡ run c i (b, tt)
  one_short f = sym (call_short c some i (b, tt) fine measured f)

  -- room, and what is written is placed at the front
  pub one_given : {u : Unit {0}} → r ≡ Ok u → {after : List A} → after ≡ placed 0 (c.written i).0 b → outcome (given (c.result i)) (after, tt) ≡ run c i (b, tt)
  unfolding after_call
  one_given f put = rw (put, placed_first) (sym (call_gives c some i (b, tt) fine (fine_holds Room _ measured f)))
