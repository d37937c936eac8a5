-- Checks 14 and 15 by the number of moves and by a header that was read.
use Prim.Native.Nat.{ℕ, ◌+◌, ◌*◌, ◌-◌, ◌/◌, ◌≤◌}
use mathlib.Core.Path.{◌≡◌}
use mathlib.Core.Bool.{◌&&◌}
use mathlib.Core.List.{List}
use native.Mathlib.Omega.{arith}
use lib.ListN.{length}
use lib.Dec.{T, eqb}
use Rattle.model.specs.Bits.{field}
use Rattle.model.specs.Limits.{weight_limit}
use Rattle.model.specs.Game.{Game, one, two}
use Rattle.model.specs.Plan.{plan_moves, weight_bit, plan_pair_of}
use Rattle.model.specs.PlanChecks.{plan_length, plan_has_length, filling, plan_well_formed}
use Rattle.model.proofs.Bits.{field_fits}
use Rattle.model.proofs.PlanRules.{plan_length_iff}
use Rattle.records.specs.declared.plan_file.PlanHeader.{PlanHeader}
use Rattle.records.specs.PlanRecords.{denominators_of, plan_header_of}
use Rattle.plan.specs.Header.{header_right_of}

module _ (g : Game) (plan : List ℕ) (moves : ℕ) (e : moves ≡ plan_moves g) where
  -- the bytes that the header and the weights take
  pub length_right : {size : ℕ} → size ≡ 4 + (12 * moves + 7) / 8 → eqb (length plan) size ≡ plan_has_length g plan
  unfolding plan_has_length plan_length
  length_right is = rw (is, e)

  -- the length of a file that passes check 14
  pub length_is : T (plan_has_length g plan) → length plan ≡ 4 + (12 * moves + 7) / 8
  length_is t = rw e ((plan_length_iff g plan).holds t)

  -- check 15 is that of the header and of the filling
  pub well_formed_is : (h : PlanHeader) → h ≡ plan_header_of plan → plan_well_formed g plan ≡ (header_right_of h && eqb (field plan (32 + 12 * moves) (8 * length plan - (32 + 12 * moves))) 0)
  unfolding plan_well_formed header_right_of plan_header_of denominators_of filling weight_bit
  well_formed_is h q = rw (q, e)

-- the denominators of a header that was read are the plans'
pub header_d1 : (g : Game) (plan : List ℕ) (h : PlanHeader) → h ≡ plan_header_of plan → h.denominators.d1 ≡ (plan_pair_of g plan one).denominator
unfolding plan_header_of denominators_of plan_pair_of
header_d1 g plan h e = rw e

pub header_d2 : (g : Game) (plan : List ℕ) (h : PlanHeader) → h ≡ plan_header_of plan → h.denominators.d2 ≡ (plan_pair_of g plan two).denominator
unfolding plan_header_of denominators_of plan_pair_of
header_d2 g plan h e = rw e

pub header_denominators : (plan : List ℕ) (h : PlanHeader) → h ≡ plan_header_of plan → h.denominators ≡ denominators_of plan
unfolding plan_header_of
header_denominators plan h e = rw e

-- and have 12 bits each
pub header_small : (plan : List ℕ) (h : PlanHeader) → h ≡ plan_header_of plan → (h.denominators.d1 ≤ weight_limit) × (h.denominators.d2 ≤ weight_limit)
unfolding plan_header_of denominators_of
header_small plan h e = rw e (omega (arith, field_fits plan 4 12), omega (arith, field_fits plan 16 12))
