-- Sections side by side, filled row by row: row i is place i of each of them.
use Rattle.std.specs.Prelude.{ℕ, ◌+◌, ◌*◌, ◌≤◌, ◌<◌, ◌≡◌, List, length, get_or}
use Rattle.loaded.specs.Sections.{section_room}

-- Of `width` sections from a place on, the first n rows hold f, and so does row n in the first s sections.
pub record Rows {A : Type 0} (from width : ℕ) (f : ℕ → ℕ → A) (s n : ℕ) (l : List A) : Type 0 where
  pub long : from + section_room * width ≤ length l
  pub full : (d : A) (t i : ℕ) → t < width → i < n → get_or l (from + section_room * t + i) d ≡ f t i
  pub begun : (d : A) (t : ℕ) → t < s → get_or l (from + section_room * t + n) d ≡ f t n
