-- Passes over a list from a place on, one place at a time.
use Prim.Native.Nat.{ℕ, suc, ◌+◌, ◌≤◌, ◌<◌}
use mathlib.Core.Path.{◌≡◌, refl, sym, ap, ◌∙◌}
use mathlib.Core.Bool.{true, false}
use mathlib.Core.List.{List, [], ◌∷◌}
use native.Mathlib.Omega.{arith}
use borrow.Author.Tests.{lt-ltb, le-ltb}
use lib.Dec.{eqb}
use lib.ListN.{length, get_or, drop, drop_of_length-le}
use lib.Seq.{drop-cons}
use Rattle.std.specs.List.{fold}
use Rattle.trials.specs.Checks.{taken_in_of, check_from, bytes_from}
use Rattle.trials.specs.Lists.{before, place_of, next_line_of}

-- what is left from a place on: the byte there, and what is left from the next on
left : (xs : List ℕ) (at : ℕ) → at < length xs → drop at xs ≡ get_or xs at 0 ∷ drop (at + 1) xs
left xs at l =
    let e : suc at ≡ at + 1 = omega arith in
    drop-cons xs at 0 l ∙ ap (λ (k : ℕ). get_or xs at 0 ∷ drop k xs) e

-- no byte is left to be found
pub place_end : (text : List ℕ) (at b : ℕ) → length text ≤ at → place_of text at b ≡ at
unfolding place_of before
place_end text at b l = rw (drop_of_length-le text l) (omega arith)

-- the byte stands at the place
pub place_here : (text : List ℕ) (at b : ℕ) → at < length text → eqb (get_or text at 0) b ≡ true → place_of text at b ≡ at
unfolding place_of before
place_here text at b l e = rw (left text at l, e) (omega arith)

-- another byte stands at the place
pub place_later : (text : List ℕ) (at b : ℕ) → at < length text → eqb (get_or text at 0) b ≡ false → place_of text at b ≡ place_of text (at + 1) b
unfolding place_of before
place_later text at b l e = rw (left text at l, e) (omega arith)

-- after a line's end the next line begins
pub next_begins : (list : List ℕ) (start end : ℕ) → end ≡ place_of list start 10 → end < length list → end + 1 ≡ next_line_of list start
unfolding next_line_of
next_begins list start end e l = rw (sym e, lt-ltb end (length list) l)

-- after the last line there is none
pub next_ends : (list : List ℕ) (start end : ℕ) → end ≡ place_of list start 10 → length list ≤ end → end ≡ next_line_of list start
unfolding next_line_of
next_ends list start end e l = rw (sym e, le-ltb end (length list) l)

-- the numbers are taken in from the first on, as a fold does
pub check_folds : (check : ℕ) (xs : List ℕ) → check_from check xs ≡ fold (λ (c x : ℕ). taken_in_of (taken_in_of c 0) x) check xs
unfolding check_from
check_folds check [] = refl
check_folds check (x ∷ xs) = check_folds (taken_in_of (taken_in_of check 0) x) xs

-- and so are the bytes
pub bytes_fold : (check : ℕ) (xs : List ℕ) → bytes_from check xs ≡ fold taken_in_of check xs
unfolding bytes_from
bytes_fold check [] = refl
bytes_fold check (x ∷ xs) = bytes_fold (taken_in_of check x) xs
