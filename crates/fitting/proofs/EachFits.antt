-- Tests of every entry of a list and of every number of a range, against the model's.
use Rattle.std.proofs.Common.{ℕ, zero, suc, ◌+◌, ◌^◌, ℤ, Bool, ◌&&◌, ltb, List, [], ◌∷◌, ◌++◌, ◌≡◌, refl, ap, ◌∙◌, arith, zero-add}
use mathlib.Core.Bool.{and-true}
use Rattle.std.specs.List.{list_all, range_with_len}
use Rattle.std.proofs.lemmas.List.Folds.{list_all-append}
use Rattle.algebra.specs.Bounded.{all_to}
use Rattle.model.specs.Writing.{all_fit, fits_signed_of, all_fit_signed_of}

-- of every number of a list
pub each_fits : (width : ℕ) (l : List ℕ) → list_all (λ x. ltb x (2 ^ width)) l ≡ all_fit width l
unfolding all_fit
each_fits width [] = refl
each_fits width (x ∷ l) = ap (λ b. ltb x (2 ^ width) && b) (each_fits width l)

-- of every integer of a list
pub each_in_range : (width : ℕ) (l : List ℤ) → list_all (fits_signed_of width) l ≡ all_fit_signed_of width l
unfolding all_fit_signed_of
each_in_range width [] = refl
each_in_range width (z ∷ l) = ap (λ b. fits_signed_of width z && b) (each_in_range width l)

-- a range of one number more
range_more : (a n : ℕ) → range_with_len a (suc n) ≡ range_with_len a n ++ (a + n) ∷ []
range_more a zero = ap (λ b. b ∷ []) (omega arith)
range_more a (suc n) = ap (λ l. a ∷ l) (range_more (a + 1) n ∙ ap (λ b. range_with_len (a + 1) n ++ b ∷ []) (omega arith))

-- of every number of a range
pub all_range : (p : ℕ → Bool) (n : ℕ) → list_all p (range_with_len 0 n) ≡ all_to n p
unfolding all_to
all_range p zero = refl
all_range p (suc n) = ap (list_all p) (range_more 0 n) ∙ rw (list_all-append, zero-add, and-true, all_range p n)
