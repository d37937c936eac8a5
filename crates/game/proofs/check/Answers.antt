-- A file that was checked gives its header, or the refusal.
use Prim.Native.Nat.{ℕ, ◌≤◌}
use mathlib.Core.Path.{ap, ◌∙◌}
use native.Mathlib.Omega.{arith}
use lib.IntN.{pos}
use lib.ListN.{length, replicate, length-replicate}
use Rattle.model.specs.Exported.{same}
use Rattle.checks.specs.Answers.{answered}
use Rattle.checks.proofs.AnswerLaws.{passed_on}
use Rattle.loaded.specs.Sections.{numbers_room, payoffs_room}
use Rattle.game.proofs.Answers.{header_given, header_refused}
use Rattle.game.proofs.check.Goals as goal

-- an array has the room that it was made with
filled_room : {A : Type 0} (n : ℕ) (x : A) → n ≤ length (replicate n x)
filled_room n x = omega (arith, length-replicate n x)

pub returns : goal.returns
returns c = header_given c.check_into.ensures c.in_ok-check_into.was c.read-header.ensures

pub returns-in_err-check_into : goal.returns-in_err-check_into
returns-in_err-check_into c = ap (answered same) (passed_on c.from_residual.ensures.1) ∙ header_refused c.check_into.ensures c.in_err-check_into.was

pub slice_bounds-check_into-end : goal.slice_bounds-check_into-end
slice_bounds-check_into-end c = length-replicate {A = ℕ} numbers_room 0

pub slice_bounds-check_into-end-2 : goal.slice_bounds-check_into-end-2
slice_bounds-check_into-end-2 c = length-replicate payoffs_room (pos 0)

pub check_into-requires : goal.check_into-requires
check_into-requires c = (filled_room {A = ℕ} numbers_room 0, filled_room payoffs_room (pos 0))

pub read-header-requires : goal.read-header-requires
read-header-requires c = tt
