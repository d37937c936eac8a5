-- What a call is: a total function of its input and of the buffers lent to it.
use Rattle.std.specs.Prelude.{ℕ, zero, suc, ◌≤◌, ◌<◌, ◌⊎◌, Bool, true, false, ◌&&◌, List, [], ◌∷◌, ◌++◌, length, drop, leb}
use Rattle.model.specs.Rows.{Rows, row, of, refusal}

-- an answer: what is given, or the refusal's number alone
pub data Answer (R : Type 0) : Type 0 where
  given : R → Answer R
  refused : ℕ → Answer R

-- Lent buffers, one list for each type of entry.
abbrev pub Buffers : List (Type 0) → Type 0
Buffers [] = Unit {0}
Buffers (A ∷ shape) = List A × Buffers shape

-- their lengths
abbrev pub lengths : (shape : List (Type 0)) → Buffers shape → List ℕ
lengths [] b = []
lengths (A ∷ shape) b = length b.0 ∷ lengths shape b.1

-- each buffer is at least as long as its result
abbrev pub long_enough : (results rooms : List ℕ) → Bool
long_enough [] rooms = true
long_enough (n ∷ results) [] = false
long_enough (n ∷ results) (r ∷ rooms) = leb n r && long_enough results rooms

-- the same as a proposition
abbrev pub RoomFor : (results rooms : List ℕ) → Type 0
RoomFor [] rooms = Unit {0}
RoomFor (n ∷ results) [] = ⊥
RoomFor (n ∷ results) (r ∷ rooms) = (n ≤ r) × RoomFor results rooms

-- "A result buffer is shorter than the result."
abbrev pub Shorter : (results rooms : List ℕ) → Type 0
Shorter [] rooms = ⊥
Shorter (n ∷ results) [] = Unit {0}
Shorter (n ∷ results) (r ∷ rooms) = (r < n) ⊎ Shorter results rooms

-- A lent buffer after a call: "result buffers keep their bytes" on a refusal,
-- and "on success the bytes past a result keep what they held".
unfoldable pub after_call : {A : Type 0} → (refusal : ℕ) → (result buffer : List A) → List A
after_call zero result buffer = result ++ drop (length result) buffer
after_call (suc k) result buffer = buffer

-- all lent buffers after a call
abbrev pub after_all : (shape : List (Type 0)) → (refusal : ℕ) → (results buffers : Buffers shape) → Buffers shape
after_all [] k results buffers = tt
after_all (A ∷ shape) k results buffers = (after_call k results.0 buffers.0, after_all shape k results.1 buffers.1)

-- an input with the buffers lent for the results
pub record Lent (I B : Type 0) : Type 0 where
  pub input : I
  pub buffers : B

-- A call: its checks but 18, in order; what it gives; and what it writes to the front of each lent buffer.
pub record Call (I : Type 0) (shape : List (Type 0)) (R : Type 0) : Type 1 where
  pub rows : Rows I
  pub result : I → R
  pub written : I → Buffers shape

-- what a call answers, and what each buffer holds afterwards
pub record Outcome (shape : List (Type 0)) (R : Type 0) : Type 0 where
  pub answer : Answer R
  pub buffers : Buffers shape

abbrev pub outcome : {shape : List (Type 0)} {R : Type 0} → Answer R → Buffers shape → Outcome shape R
outcome a b = record { answer = a; buffers = b }

-- the answer, by the refusal's number; 0 is none
abbrev pub answer_of : {R : Type 0} → (refusal : ℕ) → R → Answer R
answer_of zero result = given result
answer_of (suc k) result = refused (suc k)

module _ {I R : Type 0} {shape : List (Type 0)} (c : Call I shape R) where
  -- 18, last in every call: "A result buffer is shorter than the result."
  unfoldable pub room_rows : Rows (Lent I (Buffers shape))
  room_rows = row 18 (λ x. long_enough (lengths shape (c.written x.input)) (lengths shape x.buffers)) (λ x. Shorter (lengths shape (c.written x.input)) (lengths shape x.buffers)) ∷ []

  -- all its checks
  unfoldable pub all_rows : Rows (Lent I (Buffers shape))
  all_rows = of (λ x. x.input) c.rows ++ room_rows

  -- the call's refusal; 0 is none
  unfoldable pub call_refusal : I → Buffers shape → ℕ
  call_refusal i b = refusal all_rows (record { input = i; buffers = b })

  -- the call, as a function
  unfoldable pub run : I → Buffers shape → Outcome shape R
  run i b = outcome (answer_of (call_refusal i b) (c.result i)) (after_all shape (call_refusal i b) (c.written i) b)

-- To unfold this is to unfold all of this file: for closed computation.
unfoldable pub opened : Unit {0}
unfolding after_call room_rows all_rows call_refusal run
opened = tt
