-- A front part that is filled with one value.
use Prim.Native.Nat.{ℕ, zero, suc, ◌≤◌}
use mathlib.Core.Path.{◌≡◌, refl, ap, ◌∙◌}
use mathlib.Core.List.{List, [], ◌∷◌, ◌++◌}
use native.Mathlib.Numerals.{add-one}
use lib.ListN.{length, take, drop, replicate}
use lib.Seq.{length-take-le}
use Rattle.std.proofs.lemmas.List.{replicate_more}
use Rattle.algebra.specs.Bounded.{list_to, join_to}
use Rattle.algebra.specs.Arrays.{over}
use Rattle.algebra.proofs.Lists.{list_to_suc}

-- a list of one value
list_to_same : {A : Type 0} (x : A) (n : ℕ) → list_to n (λ _. x) ≡ replicate n x
unfolding list_to join_to
list_to_same x zero = refl
list_to_same {A} x (suc n) = list_to_suc n (λ _. x) ∙ ap (λ (l : List A). l ++ x ∷ []) (list_to_same x n) ∙ replicate_more n x ∙ rw add-one

-- the part is what was taken, and the rest is as before
pub front_filled : {A : Type 0} (x : A) (n : ℕ) (l : List A) {part : List A} → n ≤ length l → part ≡ replicate (length (take n l)) x → part ++ drop n l ≡ over (λ _. x) n l
unfolding over
front_filled {A} x n l b e = rw (e, length-take-le n l b, list_to_same x n)
