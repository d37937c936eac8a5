-- Bit `q` is digit `q % width` of field `q / width`; past the last field there is none.
use mathlib.Core.Path.{sym, ◌∙◌}
use native.Mathlib.Omega.{arith}
use Rattle.model.proofs.Packing.{run_at, run_past}
use Rattle.bits.proofs.runs.run_bit.Goals as goal

pub returns : goal.returns
returns c =
    let a = c.args in
    let l = c.in-Some.ensures.lookup.3 in
    (c.digit.ensures ∙ rw (l.1 0) (sym (run_at a.width a.numbers.now a.q (omega arith) l.0)), omega arith)

pub returns-in_default : goal.returns-in_default
returns-in_default c =
    let a = c.args in
    (sym (run_past a.width a.numbers.now a.q (omega arith) c.in_default.ensures.lookup.3), omega arith)
