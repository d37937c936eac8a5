-- Arrays whose entries are given anew, from a place on or from the front, and what an array holds.
use Rattle.std.specs.Prelude.{ℕ, ◌+◌, ◌≤◌, ◌<◌, ◌≡◌, List, ◌++◌, ℤ, pos, length, get_or, take, drop}
use Rattle.algebra.specs.Bounded.{list_to}

-- what a list has at a place; 0 past its end
abbrev pub item : List ℕ → ℕ → ℕ
item l i = get_or l i 0

-- the same of a list of integers
abbrev pub item_z : List ℤ → ℕ → ℤ
item_z l i = get_or l i (pos 0)

-- a list whose entries from `at` on are given anew, as many as l has; the others stay
unfoldable pub placed : {A : Type 0} → (at : ℕ) → (l out : List A) → List A
placed at l out = take at out ++ l ++ drop (at + length l) out

-- a list whose first n entries are given anew; the others stay
unfoldable pub over : {A : Type 0} → (f : ℕ → A) → (n : ℕ) → List A → List A
over f n l = list_to n f ++ drop n l

-- the first n entries of a list are f 0, .., f (n - 1)
pub record Holds (f : ℕ → ℕ) (n : ℕ) (l : List ℕ) : Type 0 where
  pub long : n ≤ length l
  pub at : (i : ℕ) → i < n → get_or l i 0 ≡ f i
