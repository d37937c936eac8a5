-- Document 01, "Why a file is sent back": a check is one row, and the checks of a call are rows in order.
-- What is refused, and what applies, are two readings of the same rows.
use Rattle.std.specs.Prelude.{ℕ, ◌≡◌, ◌⊎◌, Bool, cond, List, [], ◌∷◌}

-- One check of an input: the refusal's number, the test that says what must hold, and in document 01's words when the refusal applies.
pub record Row (A : Type 0) : Type 1 where
  pub number : ℕ
  pub test : A → Bool
  pub Applies : A → Type 0

abbrev pub row : {A : Type 0} → (number : ℕ) → (test : A → Bool) → (Applies : A → Type 0) → Row A
row number test Applies = record { number = number; test = test; Applies = Applies }

-- checks in order
abbrev pub Rows : Type 0 → Type 1
Rows A = List (Row A)

-- By the tests: the number of the first that fails; 0 where none does.
-- "A later check is made only where every earlier one holds over the whole input."
unfoldable pub refusal : {A : Type 0} → Rows A → A → ℕ
refusal [] a = 0
refusal (r ∷ rows) a = let later = refusal rows a in cond (r.test a) later r.number

-- By the words: k is the number of the first refusal that applies, or 0 where none does.
abbrev pub First : {A : Type 0} → Rows A → A → ℕ → Type 0
First [] a k = k ≡ 0
First (r ∷ rows) a k = (r.Applies a × (k ≡ r.number)) ⊎ (¬ r.Applies a × First rows a k)

-- the same checks, of a part of a larger input
unfoldable pub of : {A B : Type 0} → (B → A) → Rows A → Rows B
of part [] = []
of part (r ∷ rows) = row r.number (λ b. r.test (part b)) (λ b. r.Applies (part b)) ∷ of part rows

-- To unfold this is to unfold all of this file: for closed computation.
unfoldable pub opened : Unit {0}
unfolding refusal of
opened = tt
