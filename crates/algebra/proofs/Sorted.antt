-- Lists of any elements, joined below a bound: what every element obeys, one that obeys, and an order in which they rise.
use Prim.Native.Nat.{ℕ, zero, suc, ◌+◌, ◌<◌}
use mathlib.Core.Path.{sym, subst}
use mathlib.Core.List.{List, [], ◌∷◌, ◌++◌}
use native.Mathlib.Omega.{arith}
use native.Mathlib.Decide.{ℕ_discrete}
use lib.ListN.{length, get_or, length-append, get_or-append}
use lib.Seq.{get_or-append-add}
use Rattle.algebra.specs.Bounded.{join_to}

-- every element obeys P
abbrev pub All : {A : Type 0} → (A → Type 0) → List A → Type 0
All P [] = Unit {0}
All P (x ∷ l) = P x × All P l

-- the element at a place, d past the end
pub all_at : {A : Type 0} (P : A → Type 0) (d : A) (l : List A) → All P l → (i : ℕ) → i < length l → P (get_or l i d)
all_at P d [] h i v = absurd (omega arith)
all_at P d (x ∷ l) h zero v = h.0
all_at P d (x ∷ l) h (suc i) v = all_at P d l h.1 i (omega arith)

-- what follows from P
pub all_map : {A : Type 0} (P Q : A → Type 0) (l : List A) → ((x : A) → P x → Q x) → All P l → All Q l
all_map P Q [] k h = tt
all_map P Q (x ∷ l) k h = (k x h.0, all_map P Q l k h.1)

pub all_append : {A : Type 0} (P : A → Type 0) (a b : List A) → All P a → All P b → All P (a ++ b)
all_append P [] b f h = h
all_append P (x ∷ a) b f h = (f.0, all_append P a b f.1 h)

pub all_join : {A : Type 0} (P : A → Type 0) (n : ℕ) (f : ℕ → List A) → ((c : ℕ) → c < n → All P (f c)) → All P (join_to n f)
unfolding join_to
all_join P zero f h = tt
all_join P (suc n) f h = all_append P (join_to n f) (f n) (all_join P n f (λ c l. h c (omega arith))) (h n (omega arith))

-- some element obeys P: one at a place
abbrev pub Some : {A : Type 0} → (d : A) → (A → Type 0) → List A → Type 0
Some d P l = (i : ℕ) × (i < length l) × P (get_or l i d)

pub some_join : {A : Type 0} (d : A) (P : A → Type 0) (n : ℕ) (f : ℕ → List A) (c : ℕ) → c < n → Some d P (f c) → Some d P (join_to n f)
unfolding join_to
some_join d P zero f c l m = absurd (omega arith)
some_join d P (suc n) f c l m =
    elim (ℕ_discrete c n) [
      | yes e ↦ let h : Some d P (f n) = subst (λ (k : ℕ). Some d P (f k)) e m in (length (join_to n f) + h.0, omega (arith, length-append (join_to n f) (f n)), subst P (sym (get_or-append-add (join_to n f) (f n) h.0 d)) h.2)
      | no e ↦ let h = some_join d P n f c (omega arith) m in (h.0, omega (arith, length-append (join_to n f) (f n)), subst P (sym (get_or-append (join_to n f) (f n) d h.0 h.1)) h.2)
    ]

-- each element comes before every later one
abbrev pub Sorted : {A : Type 0} → (A → A → Type 0) → List A → Type 0
Sorted R [] = Unit {0}
Sorted R (x ∷ l) = All (R x) l × Sorted R l

pub sorted_at : {A : Type 0} (R : A → A → Type 0) (d : A) (l : List A) → Sorted R l → (i j : ℕ) → i < j → j < length l → R (get_or l i d) (get_or l j d)
sorted_at R d [] s i j u v = absurd (omega arith)
sorted_at R d (x ∷ l) s i zero u v = absurd (omega arith)
sorted_at R d (x ∷ l) s zero (suc j) u v = all_at (R x) d l s.0 j (omega arith)
sorted_at R d (x ∷ l) s (suc i) (suc j) u v = sorted_at R d l s.1 i j (omega arith) (omega arith)

pub sorted_append : {A : Type 0} (R : A → A → Type 0) (a b : List A) → Sorted R a → Sorted R b → All (λ x. All (R x) b) a → Sorted R (a ++ b)
sorted_append R [] b s t c = t
sorted_append R (x ∷ a) b s t c = (all_append (R x) a b s.0 c.0, sorted_append R a b s.1 t c.1)

-- lists that are sorted each, and whose elements come before those of later lists by what they obey
pub sorted_join : {A : Type 0} (R : A → A → Type 0) (P : ℕ → A → Type 0) (n : ℕ) (f : ℕ → List A) → ((c : ℕ) → All (P c) (f c)) → ((c : ℕ) → Sorted R (f c)) → ((c e : ℕ) (x y : A) → c < e → P c x → P e y → R x y) → Sorted R (join_to n f)
unfolding join_to
sorted_join R P zero f obey sorted before = tt
sorted_join R P (suc n) f obey sorted before =
    sorted_append R (join_to n f) (f n) (sorted_join R P n f obey sorted before) (sorted n)
    (all_join (λ x. All (R x) (f n)) n f (λ c l. all_map (P c) (λ x. All (R x) (f n)) (f c) (λ x a. all_map (P n) (R x) (f n) (λ y b. before c n x y l a b) (obey n)) (obey c)))
