-- Booleans: tests passed and failed.
use Prim.Native.Nat.{ℕ}
use mathlib.Core.Path.{◌≡◌, refl}
use mathlib.Core.Bool.{Bool, true, false, ◌||◌, cond, true≢false, false≢true}
use lib.Dec.{T, eqb}
use mir.Facts.{yes_eqb}
use Rattle.algebra.specs.Bounded.{implies}

-- a test passes or fails
pub dec : (b : Bool) → Dec (T b)
dec true = yes tt
dec false = no (λ t. t)

-- the first branch of a test that passes
pub cond_yes : {A : Type 0} (b : Bool) (x y : A) → T b → cond b x y ≡ x
cond_yes true x y t = refl
cond_yes false x y t = absurd t

-- the second branch of a test that fails
pub cond_no : {A : Type 0} (b : Bool) (x y : A) → ¬ T b → cond b x y ≡ y
cond_no true x y t = absurd (t tt)
cond_no false x y t = refl

-- the branch of a test that is known
pub branch_yes : {A : Type 0} (r test : Bool) (x y : A) → r ≡ test → r ≡ true → x ≡ cond test x y
branch_yes r test x y e t = rw (← e, t)

pub branch_no : {A : Type 0} (r test : Bool) (x y : A) → r ≡ test → r ≡ false → y ≡ cond test x y
branch_no r test x y e f = rw (← e, f)

-- equal branches
pub cond_same : {A : Type 0} (b : Bool) (x : A) → cond b x x ≡ x
cond_same true x = refl
cond_same false x = refl

-- tests that pass together are equal
pub bool_same : (a b : Bool) → (T a → T b) → (T b → T a) → a ≡ b
bool_same true true h k = refl
bool_same true false h k = absurd (h tt)
bool_same false true h k = absurd (k tt)
bool_same false false h k = refl

-- an implication, used
pub implies_use : (a b : Bool) → T (implies a b) → T a → T b
unfolding implies
implies_use true b t u = t
implies_use false b t u = absurd u

-- an implication, made
pub implies_make : (a b : Bool) → (T a → T b) → T (implies a b)
unfolding implies
implies_make true b h = h tt
implies_make false b h = tt

-- one of two tests, from the first
pub or_left : (a b : Bool) → T a → T (a || b)
or_left true b t = tt
or_left false b t = absurd t

-- one of two tests, from the second
pub or_right : (a b : Bool) → T b → T (a || b)
or_right true b t = tt
or_right false b t = t

-- a test equal to true passes
pub true→T : (b : Bool) → b ≡ true → T b
true→T true e = tt
true→T false e = absurd (false≢true e)

-- a test that passes is true
pub T→true : (b : Bool) → T b → b ≡ true
T→true true t = refl
T→true false t = absurd t

-- a test equal to false fails
pub false→not : (b : Bool) → b ≡ false → ¬ T b
false→not true e t = true≢false e
false→not false e t = t

-- a test that fails is false
pub not→false : (b : Bool) → ¬ T b → b ≡ false
not→false true n = absurd (n tt)
not→false false n = refl

-- equal numbers pass the test of equality
pub eqb_make : (m n : ℕ) → m ≡ n → T (eqb m n)
eqb_make m n e = yes_eqb e
