-- What the widths of a file's fields bound, and what reading a node asks.
use Prim.Native.Nat.{ℕ, ◌≤◌, ◌<◌, ◌^◌}
use mathlib.Core.Path.{◌≡◌}
use mathlib.Core.List.{List}
use native.Mathlib.Omega.{arith}
use Rattle.model.specs.Limits.{count_limit}
use Rattle.model.specs.Game.{game_of, node_at}
use Rattle.model.proofs.Bits.{field_fits}
use Rattle.model.proofs.Budget.{game_limits}
use Rattle.records.specs.Records.{Framed}

-- a file has no more than 4,095 sets
pub few_sets : (bytes : List ℕ) → (game_of bytes).sets ≤ count_limit
unfolding game_of
few_sets bytes = omega (arith, field_fits bytes 16 12)

-- a node's record can be read
pub readable : {bytes : List ℕ} {records nodes n : ℕ} → Framed bytes records nodes → n < nodes → (records ≡ node_at bytes 0) × (n < 2 ^ 12)
readable {bytes} F l = (F.records_is, omega (arith, F.nodes_is, (game_limits bytes).nodes))
