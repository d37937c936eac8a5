-- Sections side by side that are filled row by row, while nothing else changes.
use Prim.Native.Nat.{ℕ, ◌+◌, ◌*◌, ◌≤◌, ◌<◌}
use mathlib.Core.Path.{◌≡◌}
use mathlib.Core.List.{List}
use native.Mathlib.Omega.{arith}
use lib.ListN.{length, set}
use Rattle.algebra.specs.Sections.{Apart}
use Rattle.algebra.proofs.Sections.{apart_none, apart_set}
use Rattle.loaded.specs.Sections.{section_room}
use Rattle.loaded.specs.Rows.{Rows}
use Rattle.loaded.proofs.Rows.{rows_none, rows_put, rows_next}

-- `width` sections from a place on have n rows, and row n in the first s of them; the rest is as it was before.
pub record Filled (from width : ℕ) (f : ℕ → ℕ → ℕ) (s n : ℕ) (before after : List ℕ) : Type 0 where
  pub apart : Apart from (from + section_room * width) before after
  pub rows : Rows from width f s n after

module _ {from width : ℕ} {f : ℕ → ℕ → ℕ} where
  -- nothing is filled yet
  pub filled_none : {l : List ℕ} → from + section_room * width ≤ length l → Filled from width f 0 0 l l
  filled_none room = record { apart = apart_none; rows = rows_none room }

  -- row n is put in section s
  pub filled_put : {s n : ℕ} {l m k : List ℕ} (x : ℕ) → Filled from width f s n l m → s < width → n < section_room → k ≡ set m (from + section_room * s + n) x → x ≡ f s n → Filled from width f (s + 1) n l k
  filled_put {s} {n} x F v w e is = record {
    apart = apart_set (from + section_room * s + n) x F.apart e (omega arith) (omega arith);
    rows = rows_put x F.rows v w e is;
  }

  -- a row is full
  pub filled_row : {n : ℕ} {l k : List ℕ} → Filled from width f width n l k → Filled from width f 0 (n + 1) l k
  filled_row F = record { apart = F.apart; rows = rows_next F.rows }
