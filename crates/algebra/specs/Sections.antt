-- A list in sections, each from a place on: what a section holds, and what a change leaves as it was.
use Rattle.std.specs.Prelude.{ℕ, ◌+◌, ◌≤◌, ◌<◌, ◌≡◌, List, length, drop, get_or}

-- the section that begins at a place: all that stands from there on
unfoldable pub section : {A : Type 0} → (from : ℕ) → List A → List A
section from l = drop from l

-- the first n places of the section that begins at `from` hold f 0, .., f (n - 1)
pub record Held {A : Type 0} (from : ℕ) (f : ℕ → A) (n : ℕ) (l : List A) : Type 0 where
  pub long : from + n ≤ length l
  pub at : (d : A) (i : ℕ) → i < n → get_or l (from + i) d ≡ f i

-- a list is as long after as before, and has what it had at each place but those from `low` to before `high`
pub record Apart {A : Type 0} (low high : ℕ) (before after : List A) : Type 0 where
  pub long : length after ≡ length before
  pub same : (d : A) (j : ℕ) → (low ≤ j → j < high → ⊥) → get_or after j d ≡ get_or before j d
