-- Check 15 of a header that was read.
use Rattle.std.specs.Prelude.{Bool, ◌&&◌, eqb, ltb}
use Rattle.records.specs.declared.plan_file.PlanHeader.{PlanHeader}

-- the edition is 1, D1 and D2 are not zero, the zero bits are
unfoldable pub header_right_of : PlanHeader → Bool
header_right_of h = eqb h.edition 1 && ltb 0 h.denominators.d1 && ltb 0 h.denominators.d2 && eqb h.zeros 0
