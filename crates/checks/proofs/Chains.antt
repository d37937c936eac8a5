-- Chains of checks, of any shape: which refusal is given.
-- `Left whole rest a`: of the rows `whole`, those before `rest` have passed.
use Prim.Native.Nat.{ℕ, zero, suc}
use mathlib.Core.Path.{◌≡◌, refl, sym, ap, ◌∙◌}
use mathlib.Core.Bool.{Bool, true, false, ◌&&◌}
use mathlib.Core.List.{List, [], ◌∷◌, ◌++◌}
use native.Mathlib.Omega.{arith}
use lib.Dec.{T, eqb, eqb→eq}
use Rattle.algebra.proofs.Tests.{cond_no}
use Rattle.model.specs.Rows.{Rows, row, of, refusal}
use Rattle.model.specs.Call.{given, refused, Buffers, lengths, long_enough, after_all, Lent, Call, Outcome, outcome, room_rows, all_rows, call_refusal, run}
use Rattle.model.proofs.Call.{all_kept}
use Rattle.model.proofs.Rows.{named, named_of, refusal_of_lem, refusal_append}
use Rattle.std.specs.Prelude.{Result, Ok, Err}
use Rattle.checks.specs.declared.Refusal.{Refusal}
use Rattle.checks.specs.declared.Refusal.TheVariants.{Room}
use Rattle.checks.specs.Answers.{refusal_number, checked_of}

-- the answer of a check
abbrev pub Checked : Type 0
Checked = Result (Unit {0}) Refusal

-- a test's answer
pub is_fine : {E : Type 0} (e : E) {b : Bool} → b ≡ true → Ok tt ≡ checked_of e b
is_fine e t = rw t

pub is_broken : {E : Type 0} (e : E) {b : Bool} → b ≡ false → Err e ≡ checked_of e b
is_broken e t = rw t

-- a check that is fine holds
pub fine_holds : {E : Type 0} (e : E) (b : Bool) {r : Result (Unit {0}) E} {u : Unit {0}} → r ≡ checked_of e b → r ≡ Ok u → b ≡ true
fine_holds e true c f = refl
fine_holds e false c f = absurd cc

pub fine_test : {E : Type 0} (e : E) (b : Bool) {r : Result (Unit {0}) E} {u : Unit {0}} → r ≡ checked_of e b → r ≡ Ok u → T b
fine_test e b c f = rw (fine_holds e b c f) tt

-- one that is broken does not, and has its own refusal
pub broken_fails : {E : Type 0} (e : E) (b : Bool) {r : Result (Unit {0}) E} {d : E} → r ≡ checked_of e b → r ≡ Err d → (b ≡ false) × (d ≡ e)
broken_fails e false c f = (refl, cc)
broken_fails e true c f = absurd (cc)

-- every refusal has a number above 0, and no two have one
pub number_some : (e : Refusal) → ¬ (refusal_number e ≡ 0)
number_some Refusal.NoHeader z = omega arith
number_some Refusal.WrongEdition z = omega arith
number_some Refusal.ZeroCount z = omega arith
number_some Refusal.WrongLength z = omega arith
number_some Refusal.SetMoves z = omega arith
number_some Refusal.NodeForm z = omega arith
number_some Refusal.PayloadRange z = omega arith
number_some Refusal.Attachment z = omega arith
number_some Refusal.MissingMove z = omega arith
number_some Refusal.ChanceWeights z = omega arith
number_some Refusal.PathLength z = omega arith
number_some Refusal.EmptySet z = omega arith
number_some Refusal.Recall z = omega arith
number_some Refusal.PlanLength z = omega arith
number_some Refusal.PlanForm z = omega arith
number_some Refusal.PlanUnfit z = omega arith
number_some Refusal.Number z = omega arith
number_some Refusal.Room z = omega arith
number_some Refusal.SheetForm z = omega arith
number_some Refusal.NoOdds z = omega arith
number_some Refusal.NoDenominator z = omega arith

-- A refusal with its number.
pub record Refuses {A : Type 0} (rows : Rows A) (a : A) (n : ℕ) : Type 0 where
  pub is : refusal rows a ≡ n
  pub some : ¬ (n ≡ 0)

-- The rows before `rest` have passed: what the whole answers is what the rest answers.
pub record Left {A : Type 0} (whole rest : Rows A) (a : A) : Type 0 where
  pub same : refusal whole a ≡ refusal rest a

module _ {A : Type 0} where
  -- no check is made yet
  pub begin : (whole : Rows A) (a : A) → Left whole whole a
  begin whole a = record { same = refl }

  -- a check is fine
  pub passes : {whole rest : Rows A} {k : ℕ} {test : A → Bool} {P : A → Type 0} {a : A} {E : Type 0} (e : E) {r : Result (Unit {0}) E} {u : Unit {0}} → Left whole (row k test P ∷ rest) a → r ≡ checked_of e (test a) → r ≡ Ok u → Left whole rest a
  unfolding refusal
  passes {rest = rest} {k} {test} {a = a} e l c f = record { same = l.same ∙ rw (fine_holds e (test a) c f) }

  -- a check is broken: its number is the refusal, by any numbering of refusals in which it is not 0
  pub stops_by : {whole rest : Rows A} {k : ℕ} {test : A → Bool} {P : A → Type 0} {a : A} {E : Type 0} (number : E → ℕ) (e : E) {d : E} {r : Result (Unit {0}) E} → Left whole (row k test P ∷ rest) a → ¬ (k ≡ 0) → number e ≡ k → r ≡ checked_of e (test a) → r ≡ Err d → Refuses whole a (number d)
  unfolding refusal
  stops_by {k = k} {test} {a = a} number e {d} l some n c f =
      let h = broken_fails e (test a) c f in
      let same : number d ≡ k = ap number h.1 ∙ n in
      record { is = l.same ∙ rw h.0 (sym same); some = λ z. some (sym same ∙ z) }

  -- a check by its own number
  pub stops_at : {whole rest : Rows A} {k : ℕ} {test : A → Bool} {P : A → Type 0} {a : A} {r : Result (Unit {0}) ℕ} {n : ℕ} → Left whole (row (suc k) test P ∷ rest) a → r ≡ checked_of (suc k) (test a) → r ≡ Err n → Refuses whole a n × (n ≡ suc k)
  stops_at {k = k} {test} {a = a} l c f = (stops_by (λ (i : ℕ). i) (suc k) l (λ z. omega arith) refl c f, (broken_fails (suc k) (test a) c f).1)

  -- a check by its refusal
  pub stops : {whole rest : Rows A} {k : ℕ} {test : A → Bool} {P : A → Type 0} {a : A} (e : Refusal) {d : Refusal} {r : Checked} → Left whole (row k test P ∷ rest) a → refusal_number e ≡ k → r ≡ checked_of e (test a) → r ≡ Err d → Refuses whole a (refusal_number d)
  stops e l n c f = stops_by refusal_number e l (λ z. number_some e (n ∙ z)) n c f

  -- all are fine
  pub ends : {whole : Rows A} {a : A} → Left whole [] a → refusal whole a ≡ 0
  unfolding refusal
  ends l = l.same

  -- several checks at once, made by a call below: none refuses
  pub passes_all : {whole : Rows A} (sub rest : Rows A) {a : A} → T (named sub) → Left whole (sub ++ rest) a → refusal sub a ≡ 0 → Left whole rest a
  passes_all sub rest {a} t l e = record { same = l.same ∙ refusal_append sub rest a t 0 e }

  -- or one of them does
  pub stops_in : {whole : Rows A} (sub rest : Rows A) {a : A} {n : ℕ} → T (named sub) → Left whole (sub ++ rest) a → Refuses sub a n → Refuses whole a n
  stops_in sub rest {a} {n} t l s = record {
    is = l.same ∙ refusal_append sub rest a t n s.is ∙ cond_no (eqb n 0) (refusal rest a) n (λ z. s.some (eqb→eq n 0 z));
    some = s.some;
  }

-- checks of a part
pub refuses_of : {A B : Type 0} (part : B → A) (rows : Rows A) {b : B} {n : ℕ} → Refuses rows (part b) n → Refuses (of part rows) b n
refuses_of part rows {b} s = record { is = refusal_of_lem part rows b ∙ s.is; some = s.some }

-- The ends of a call: its checks refuse; it has no room; it gives.
module _ {I R : Type 0} {shape : List (Type 0)} (c : Call I shape R) (some : T (named c.rows)) (i : I) (b : Buffers shape) where
  abbrev lent : Lent I (Buffers shape)
  lent = record { input = i; buffers = b }

  begun : Left (all_rows c) (of (λ x. x.input) c.rows ++ room_rows c) lent
  unfolding all_rows
  begun = begin _ lent

  ended : (n : ℕ) → ¬ (n ≡ 0) → call_refusal c i b ≡ n → run c i b ≡ outcome (refused n) b
  unfolding run
  ended zero n e = absurd (n refl)
  ended (suc n) z e = rw (e, all_kept shape n (c.written i) b)

  -- a check before 18
  pub call_refuses : {n : ℕ} → Refuses c.rows i n → run c i b ≡ outcome (refused n) b
  unfolding call_refusal
  call_refuses {n} s =
      let all = stops_in (of (λ x. x.input) c.rows) (room_rows c) (named_of (λ (x : Lent I (Buffers shape)). x.input) c.rows some) begun (refuses_of (λ (x : Lent I (Buffers shape)). x.input) c.rows s) in
      ended n all.some all.is

  begun_room : refusal c.rows i ≡ 0 → Left (all_rows c) (room_rows c) lent
  begun_room e = passes_all (of (λ x. x.input) c.rows) (room_rows c) (named_of (λ (x : Lent I (Buffers shape)). x.input) c.rows some) begun (refusal_of_lem (λ (x : Lent I (Buffers shape)). x.input) c.rows lent ∙ e)

  -- 18
  pub call_short : refusal c.rows i ≡ 0 → {r : Checked} {d : Refusal} → r ≡ checked_of Room (long_enough (lengths shape (c.written i)) (lengths shape b)) → r ≡ Err d → run c i b ≡ outcome (refused (refusal_number d)) b
  unfolding call_refusal room_rows
  call_short e f g = let s = stops Room (begun_room e) refl f g in ended _ s.some s.is

  -- the result
  pub call_gives : refusal c.rows i ≡ 0 → long_enough (lengths shape (c.written i)) (lengths shape b) ≡ true → run c i b ≡ outcome (given (c.result i)) (after_all shape 0 (c.written i) b)
  unfolding run call_refusal room_rows
  call_gives e f = rw (ends (passes Room {r = Ok tt} (begun_room e) (is_fine Room f) refl))

-- two tests in a row under one refusal: where the first is broken, its answer
pub first_broken : (e : Refusal) (a b : Bool) {r : Checked} {d : Refusal} → r ≡ checked_of e a → r ≡ Err d → r ≡ checked_of e (a && b)
first_broken e true b c f = absurd cc
first_broken e false b c f = c

-- and where it is fine: the second's
pub then_second : (e : Refusal) (a b : Bool) {r s : Checked} {u : Unit {0}} → r ≡ checked_of e a → r ≡ Ok u → s ≡ checked_of e b → s ≡ checked_of e (a && b)
then_second e true b c f second = second
then_second e false b c f second = absurd cc

-- what a call whose checks but 18 hold leaves, by the test of room
abbrev pub in_room : {R : Type 0} {shape : List (Type 0)} → Bool → R → (results buffers : Buffers shape) → Outcome shape R
in_room {shape = shape} true result results buffers = outcome (given result) (after_all shape 0 results buffers)
in_room false result results buffers = outcome (refused 18) buffers

pub call_room : {I R : Type 0} {shape : List (Type 0)} (c : Call I shape R) → T (named c.rows) → (i : I) (b : Buffers shape) → refusal c.rows i ≡ 0 → run c i b ≡ in_room {shape = shape} (long_enough (lengths shape (c.written i)) (lengths shape b)) (c.result i) (c.written i) b
call_room {R = R} {shape = shape} c some i b e = go (long_enough (lengths shape (c.written i)) (lengths shape b)) refl
  where
    go : (t : Bool) → long_enough (lengths shape (c.written i)) (lengths shape b) ≡ t → run c i b ≡ in_room {R = R} {shape = shape} t (c.result i) (c.written i) b
    go true f = call_gives c some i b e f
    go false f = call_short c some i b e {r = Err Room} {d = Room} (is_broken Room f) refl

-- Two calls that refuse alike, and where they do not refuse give and write the same, do the same.
pub same_run : {I J R : Type 0} {shape : List (Type 0)} (c : Call I shape R) (d : Call J shape R) → T (named c.rows) → T (named d.rows) → (i : I) (j : J) (b : Buffers shape) → refusal c.rows i ≡ refusal d.rows j → (refusal d.rows j ≡ 0 → (c.result i ≡ d.result j) × (c.written i ≡ d.written j)) → run c i b ≡ run d j b
same_run c d some some' i j b alike same = go (refusal d.rows j) refl
  where
    go : (n : ℕ) → refusal d.rows j ≡ n → run c i b ≡ run d j b
    go zero z = let (r, w) = same z in call_room c some i b (alike ∙ z) ∙ rw (r, w) (sym (call_room d some' j b z))
    go (suc n) z = call_refuses c some i b (record { is = alike ∙ z; some = λ y. omega arith }) ∙ sym (call_refuses d some' j b (record { is = z; some = λ y. omega arith }))
