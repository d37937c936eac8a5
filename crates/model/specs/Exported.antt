-- A call as it is exported: the refusal's number is the result, 0 is none; numbers that are given go to lent numbers.
use Rattle.std.specs.Prelude.{ℕ, List}
use Rattle.model.specs.Call.{Answer, given, refused, Buffers, Outcome}

-- what an exported function returns, and what lent numbers and lent buffers hold afterwards
pub record Exported (shape : List (Type 0)) (N : Type 0) : Type 0 where
  pub refusal : ℕ
  pub numbers : N
  pub buffers : Buffers shape

-- all that a call gives goes to lent numbers
abbrev pub same : {A : Type 0} → A → A
same x = x

-- no number is lent
abbrev pub none : {A : Type 0} → A → Unit {0}
none x = tt

-- the number of an answer's refusal; 0 where something is given
abbrev pub refusal_of : {R : Type 0} → Answer R → ℕ
refusal_of (given r) = 0
refusal_of (refused k) = k

-- lent numbers: what is given, and on a refusal what they held
abbrev pub numbers_after : {R N : Type 0} → (numbers_of : R → N) → (before : N) → Answer R → N
numbers_after numbers_of before (given r) = numbers_of r
numbers_after numbers_of before (refused k) = before

-- the outcome of a call, exported
abbrev pub exported : {shape : List (Type 0)} {R N : Type 0} → (numbers_of : R → N) → (before : N) → Outcome shape R → Exported shape N
exported numbers_of before o = record { refusal = refusal_of o.answer; numbers = numbers_after numbers_of before o.answer; buffers = o.buffers }

abbrev pub leaves : {shape : List (Type 0)} {N : Type 0} → (refusal : ℕ) → (numbers : N) → Buffers shape → Exported shape N
leaves r n b = record { refusal = r; numbers = n; buffers = b }
