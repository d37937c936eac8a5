-- The test of one node's payload.
use Rattle.std.specs.Prelude.{ℕ, Bool, ◌&&◌, eqb, ltb}
use Rattle.algebra.specs.Bounded.{implies}
use Rattle.model.specs.GameChecks.{is_move_count_of}

-- the test of check 7, by a node's kind and what its payload names or counts
unfoldable pub in_range : (kind payload sets : ℕ) → Bool
in_range kind payload sets = implies (eqb kind 1) (ltb payload sets) && implies (eqb kind 2) (is_move_count_of payload)
