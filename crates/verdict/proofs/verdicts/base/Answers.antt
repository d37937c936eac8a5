-- The product is bounded by the widths of its factors.
use native.Mathlib.Omega.{arith}
use Rattle.verdict.proofs.VerdictAnswered.{base_small}
use Rattle.verdict.proofs.verdicts.base.Goals as goal

pub overflow_mul-result : goal.overflow_mul-result
overflow_mul-result c = let p = c.requires in omega (arith, (base_small _ _ _ p.0 p.1 p.2).0)

pub overflow_mul-result-2 : goal.overflow_mul-result-2
overflow_mul-result-2 c = let p = c.requires in omega (arith, (base_small _ _ _ p.0 p.1 p.2).1)
