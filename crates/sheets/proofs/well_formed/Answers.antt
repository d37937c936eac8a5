-- The length is compared first; only of a sheet as long as its moves take is the filling read.
use Prim.Native.Nat.{◌*◌, ◌≤◌}
use native.Mathlib.Omega.{arith}
use native.Mathlib.Nat as NatL
use mathlib.Core.Path.{ap, ◌∙◌}
use borrow.Author.Tests.{eq-eqb, ne_eqb}
use Rattle.checks.specs.declared.Refusal.TheVariants.{SheetForm}
use Rattle.checks.specs.Answers.{checked_of}
use Rattle.plan.proofs.Refusals.{counted}
use Rattle.sheets.proofs.Formats.{formed_is}
use Rattle.sheets.proofs.well_formed.Goals as goal
use Rattle.sheets.proofs.well_formed.Goals.{After-weight_count-moves, then-sheet-file_bytes, else-sheet-file_bytes}

-- the bits of all moves are few
bits : (c : After-weight_count-moves) → c.args.width * c.weight_count-moves.result ≤ 16 * 4094
bits c =
    let n = c.requires.0 in
    NatL.mul-le-mul {m₂ = 4094} c.requires.1 (omega (arith, c.weight_count-moves.ensures, n.some1, n.some2, n.few))

pub returns : goal.returns
returns c g e =
    let model = formed_is g c.args.width c.args.sheet.now c.weight_count-moves.result (c.weight_count-moves.ensures ∙ (counted e).all) in
    let size = c.file_bytes.ensures in
    c.check.ensures
    ∙ ap (checked_of SheetForm) (elim c.if-sheet-file_bytes.branch [
      | then-sheet-file_bytes w ↦ rw (model, eq-eqb _ _ (w.if-sheet-file_bytes.true ∙ size)) (w.check-is ∙ w.filled.ensures)
      | else-sheet-file_bytes w ↦ let other = ne_eqb _ _ w.if-sheet-file_bytes.false in rw (model, ← size, other) (w.check-is ∙ other)
    ])

pub file_bytes-requires : goal.file_bytes-requires
file_bytes-requires c = omega (arith, bits c)
