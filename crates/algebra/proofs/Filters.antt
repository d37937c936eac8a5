-- Numbers that pass a test, gathered one by one below a bound: their count, and a column that has f of each.
use Prim.Native.Nat.{ℕ, zero, suc, ◌+◌, ◌≤◌, ◌<◌}
use mathlib.Core.Path.{◌≡◌, refl, ap, ◌∙◌}
use mathlib.Core.Bool.{Bool, true, false, cond}
use mathlib.Core.List.{List, [], ◌∷◌, ◌++◌, map, map-append}
use native.Mathlib.Omega.{arith}
use native.Mathlib.Nat as NatL
use native.Mathlib.Numerals.{add-one}
use lib.ListN.{length, set, length-append, length-map}
use lib.Dec.{T}
use Rattle.algebra.specs.Arrays.{placed}
use Rattle.algebra.specs.Bounded.{join_to}
use Rattle.algebra.proofs.Arrays.{length_placed, placed_none, placed_twice, placed_more}
use Rattle.algebra.proofs.Lists.{join_to_suc, join_to_front}
use Rattle.algebra.proofs.Tests.{cond_yes, cond_no}

module _ (test : ℕ → Bool) where
  -- the number n alone, where it passes
  abbrev pub gathered_at : (n : ℕ) → List ℕ
  gathered_at n = cond (test n) (n ∷ []) []

  -- those below n, rising
  abbrev pub gathered_below : (n : ℕ) → List ℕ
  gathered_below n = join_to n gathered_at

  -- the place after number n, where it passes and where it does not
  pub next_yes : (n at : ℕ) → T (test n) → at + 1 ≡ at + length (gathered_at n)
  next_yes n at t = rw (cond_yes (test n) (n ∷ []) [] t)

  pub next_no : (n at : ℕ) → ¬ T (test n) → at ≡ at + length (gathered_at n)
  next_no n at t = rw (cond_no (test n) (n ∷ []) [] t) (omega arith)

  -- one number more
  below_suc : (n : ℕ) → gathered_below (n + 1) ≡ gathered_below n ++ gathered_at n
  below_suc n = rw add-one (join_to_suc n gathered_at)

  -- a number is gathered once at most
  pub gathered_once : (n : ℕ) → length (gathered_at n) ≤ 1
  gathered_once n = go (test n)
    where
      go : (b : Bool) → length (cond b (n ∷ []) []) ≤ 1
      go true = omega arith
      go false = omega arith

  -- so there are no more than the bound
  pub gathered_few : (n : ℕ) → length (gathered_below n) ≤ n
  unfolding join_to
  gathered_few zero = omega arith
  gathered_few (suc n) = omega (arith, length-append (gathered_below n) (gathered_at n), gathered_few n, gathered_once n)

  -- and what is gathered up to n is part of what is gathered below any later bound
  pub gathered_part : (n bound : ℕ) → n < bound → length (gathered_below n) + length (gathered_at n) ≤ length (gathered_below bound)
  gathered_part n bound l =
      let f = join_to_front bound (suc n) gathered_at l in
      omega (arith, ap length f.1, ap length (join_to_suc n gathered_at), length-append (gathered_below n) (gathered_at n), length-append (join_to (suc n) gathered_at) f.0)

  -- the count, where the loop begins, a turn later, and at its end
  pub count_none : 0 ≡ length (gathered_below 0)
  unfolding join_to
  count_none = refl

  pub count_more : (n count next : ℕ) → count ≡ length (gathered_below n) → next ≡ count + length (gathered_at n) → next ≡ length (gathered_below (n + 1))
  count_more n count next e h = omega (arith, length-append (gathered_below n) (gathered_at n), ap length (below_suc n))

  pub count_all : (bound n count : ℕ) → count ≡ length (gathered_below n) → n ≡ bound → count ≡ length (gathered_below bound)
  count_all bound n count e h = rw h at e

-- One column of any type: f of each number that passes.
module _ (test : ℕ → Bool) {A : Type 0} (f : ℕ → A) where
  -- place `at` at one number: where it passes it is set there, and else all stays as it was
  pub column_yes : (n at : ℕ) (before after : List A) (x : A) → after ≡ set before at x → T (test n) → at < length before → x ≡ f n → after ≡ placed at (map f (gathered_at test n)) before
  column_yes n at before after x h t l e =
      let one : set (placed at [] before) (at + 0) x ≡ placed at (x ∷ []) before = placed_more at [] before x (omega arith) in
      rw (h, cond_yes (test n) (n ∷ []) [] t, ← e) (rw (NatL.add-zero, ← placed_none at before) at one)

  pub column_no : (n at : ℕ) (out : List A) → ¬ T (test n) → out ≡ placed at (map f (gathered_at test n)) out
  column_no n at out t = rw (cond_no (test n) (n ∷ []) [] t) (placed_none at out)

  -- the numbers below n that pass are placed
  abbrev pub Gathering : (n : ℕ) → (before after : List A) → Type 0
  Gathering n before after = after ≡ placed 0 (map f (gathered_below test n)) before

  -- where the loop begins
  pub gathering_none : (out : List A) → Gathering 0 out out
  unfolding join_to
  gathering_none out = placed_none 0 out

  -- the slice keeps its length, where it has room for them
  pub gathering_long : (n : ℕ) (before after : List A) → Gathering n before after → length (gathered_below test n) ≤ length before → length after ≡ length before
  gathering_long n before after h l = ap length h ∙ length_placed 0 (map f (gathered_below test n)) before (omega (arith, length-map (gathered_below test n) f))

  -- a turn: number n is placed, where it passes
  pub gathering_more : (n count : ℕ) (before after next : List A) → Gathering n before after → count ≡ length (gathered_below test n) → next ≡ placed count (map f (gathered_at test n)) after → Gathering (n + 1) before next
  gathering_more n count before after next h e k =
      let size : 0 + length (map f (gathered_below test n)) ≡ count = omega (arith, length-map (gathered_below test n) f) in
      let two : placed count (map f (gathered_at test n)) (placed 0 (map f (gathered_below test n)) before) ≡ placed 0 (map f (gathered_below test n) ++ map f (gathered_at test n)) before = rw size at (placed_twice 0 (map f (gathered_below test n)) (map f (gathered_at test n)) before (omega arith)) in
      rw (k, h, below_suc test n, map-append f (gathered_below test n) (gathered_at test n)) two

  -- the bound is reached
  pub gathering_all : (bound n : ℕ) (before after : List A) → Gathering n before after → n ≡ bound → after ≡ placed 0 (map f (gathered_below test bound)) before
  gathering_all bound n before after h e = rw e at h
