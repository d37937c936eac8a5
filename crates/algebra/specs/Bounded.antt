-- Sums, tests, searches and lists over the numbers below a bound.
use Rattle.std.specs.Prelude.{ℕ, zero, suc, ◌+◌, Bool, true, false, not, ◌&&◌, ◌||◌, cond, List, [], ◌∷◌, ◌++◌, ℤ, pos, ◌+ℤ◌}
use Rattle.std.specs.Int.Signed.{lt_z}

-- where the first test passes, the second does
unfoldable pub implies : Bool → Bool → Bool
implies a b = not a || b

-- f 0 + .. + f (n - 1)
unfoldable pub sum_to : ℕ → (ℕ → ℤ) → ℤ
sum_to zero f = pos 0
sum_to (suc n) f = sum_to n f +ℤ f n

-- the sum of f i over the numbers i below n that pass the test
unfoldable pub sum_where : ℕ → (ℕ → Bool) → (ℕ → ℤ) → ℤ
sum_where n test f = sum_to n (λ i. let x = f i in cond (test i) x (pos 0))

-- f 0 + .. + f (n - 1) in ℕ
unfoldable pub total_to : ℕ → (ℕ → ℕ) → ℕ
total_to zero f = 0
total_to (suc n) f = total_to n f + f n

-- every number below n passes
unfoldable pub all_to : ℕ → (ℕ → Bool) → Bool
all_to zero p = true
all_to (suc n) p = all_to n p && p n

-- some number below n passes
unfoldable pub any_to : ℕ → (ℕ → Bool) → Bool
any_to zero p = false
any_to (suc n) p = any_to n p || p n

-- the least number below n that passes; n where none does
unfoldable pub first_to : ℕ → (ℕ → Bool) → ℕ
first_to zero p = 0
first_to (suc n) p = let later = suc (first_to n (λ i. p (suc i))) in cond (p 0) 0 later

-- the larger of two integers
unfoldable pub larger : ℤ → ℤ → ℤ
larger a b = cond (lt_z a b) b a

-- the greatest of f 0 .. f n
unfoldable pub max_through : ℕ → (ℕ → ℤ) → ℤ
max_through zero f = f 0
max_through (suc n) f = larger (max_through n f) (f (suc n))

-- f 0 ++ .. ++ f (n - 1)
unfoldable pub join_to {ℓ} : {A : Type ℓ} → ℕ → (ℕ → List A) → List A
join_to zero f = []
join_to (suc n) f = join_to n f ++ f n

-- the list f 0, .., f (n - 1)
unfoldable pub list_to {ℓ} : {A : Type ℓ} → ℕ → (ℕ → A) → List A
list_to n f = join_to n (λ i. f i ∷ [])

-- to unfold this is to unfold all of this file: for closed computation
unfoldable pub opened : Unit {0}
unfolding implies sum_to sum_where total_to all_to any_to first_to larger max_through join_to list_to
opened = tt
