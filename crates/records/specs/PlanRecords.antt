-- What reading the header of a plan file gives, from the model's definitions, and the bits that putting it gives.
use Rattle.std.specs.Prelude.{ℕ, List, ◌++◌}
use Rattle.model.specs.Bits.{field, bits}
use Rattle.model.specs.Game.{one, two}
use Rattle.model.specs.Plan.{denominator_at, header_zeros_at}
use Rattle.records.specs.declared.plan_file.Denominators.{Denominators}
use Rattle.records.specs.declared.plan_file.PlanHeader.{PlanHeader}

-- D1 and D2
unfoldable pub denominators_of : List ℕ → Denominators
denominators_of plan = record { d1 = field plan (denominator_at one) 12; d2 = field plan (denominator_at two) 12 }

-- edition, D1 and D2, and four bits that must be zero
unfoldable pub plan_header_of : List ℕ → PlanHeader
plan_header_of plan = record { edition = field plan 0 4; denominators = denominators_of plan; zeros = field plan header_zeros_at 4 }

-- the header of a file with these denominators
abbrev pub plan_header_with : (d1 d2 : ℕ) → PlanHeader
plan_header_with d1 d2 = record { edition = 1; denominators = record { d1 = d1; d2 = d2 }; zeros = 0 }

-- the bits of a header: edition, D1, D2, the zeros
unfoldable pub plan_header_bits : PlanHeader → List ℕ
plan_header_bits x = bits 4 x.edition ++ bits 12 x.denominators.d1 ++ bits 12 x.denominators.d2 ++ bits 4 x.zeros
