-- Sequences as lists: equality as a test, and a sequence with one more move.
use Prim.Native.Nat.{ℕ, suc}
use mathlib.Core.Path.{◌≡◌, refl, ap, ◌∙◌, subst}
use mathlib.Core.Bool.{Bool, true, false, ◌&&◌}
use mathlib.Core.List.{[], ◌∷◌, ◌++◌, nil≢cons, cons≢nil, head-eq_of_cons-eq, tail-eq_of_cons-eq}
use native.Mathlib.Omega.{arith}
use lib.ListN.{length, length-append}
use lib.Dec.{T, eqb, eqb→eq, eqb_refl}
use mir.Facts.{and_yes, yes_and}
use Rattle.model.specs.Game.{Game, Player}
use Rattle.model.specs.Sequences.{Move, Sequence, extended, same_move, same, by_last_move, move_number, sequence_number}
use Rattle.model.specs.Plan.{RealizationPlan, sequence_weight}
use Rattle.model.specs.Earnings.{PureStrategy, consistent}

-- the test for one move decides equality
same_move→eq : (x y : Move) → T (same_move x y) → x ≡ y
same_move→eq x y e =
    let a = and_yes (eqb x.0 y.0) (eqb x.1 y.1) e in
    λ i. (eqb→eq x.0 y.0 a.0 i, eqb→eq x.1 y.1 a.1 i)

-- lists that pass the test are equal
pub same→eq : (s t : Sequence) → T (same s t) → s ≡ t
same→eq [] [] e = refl
same→eq [] (y ∷ t) e = absurd e
same→eq (x ∷ s) [] e = absurd e
same→eq (x ∷ s) (y ∷ t) e =
    let a = and_yes (same_move x y) (same s t) e in
    λ i. same_move→eq x y a.0 i ∷ same→eq s t a.1 i

-- a list passes the test against itself
pub same_refl : (s : Sequence) → T (same s s)
same_refl [] = tt
same_refl (x ∷ s) = yes_and (same_move x x) (same s s) (yes_and (eqb x.0 x.0) (eqb x.1 x.1) (eqb_refl x.0) (eqb_refl x.1)) (same_refl s)

-- equal lists pass the test
pub eq→same : (s t : Sequence) → s ≡ t → T (same s t)
eq→same s t e = subst (λ (r : Sequence). T (same s r)) e (same_refl s)

-- one more move is one more in length
pub extended_length : (s : Sequence) (h m : ℕ) → length (extended s h m) ≡ suc (length s)
extended_length s h m = length-append s ((h, m) ∷ []) ∙ omega arith

-- a last element apart
snoc_inj : (s t : Sequence) (x y : Move) → s ++ x ∷ [] ≡ t ++ y ∷ [] → (s ≡ t) × (x ≡ y)
snoc_inj [] [] x y e = (refl, head-eq_of_cons-eq e)
snoc_inj [] (b ∷ []) x y e = absurd (nil≢cons (tail-eq_of_cons-eq e))
snoc_inj [] (b ∷ c ∷ t) x y e = absurd (nil≢cons (tail-eq_of_cons-eq e))
snoc_inj (a ∷ []) [] x y e = absurd (cons≢nil (tail-eq_of_cons-eq e))
snoc_inj (a ∷ c ∷ s) [] x y e = absurd (cons≢nil (tail-eq_of_cons-eq e))
snoc_inj (a ∷ s) (b ∷ t) x y e =
    let r = snoc_inj s t x y (tail-eq_of_cons-eq e) in
    (λ i. head-eq_of_cons-eq e i ∷ r.0 i, r.1)

-- equal extended sequences were equal, and so are their last moves
pub extended_inj : (s t : Sequence) (h m k n : ℕ) → extended s h m ≡ extended t k n → (s ≡ t) × (h ≡ k) × (m ≡ n)
extended_inj s t h m k n e =
    let r = snoc_inj s t (h, m) (k, n) e in
    (r.0, ap (λ (x : Move). x.0) r.1, ap (λ (x : Move). x.1) r.1)

-- an extended sequence is not empty
pub extended_nonempty : (s : Sequence) (h m : ℕ) → ¬ (extended s h m ≡ [])
extended_nonempty s h m e = let a : length (extended s h m) ≡ 0 = ap {B = ℕ} length e in omega (arith, extended_length s h m)

-- what goes by the last move
pub by_last_move_extended : {A : Type 0} (a : A) (f : Move → A) (s : Sequence) (h m : ℕ) → by_last_move a f (extended s h m) ≡ f (h, m)
unfolding by_last_move
by_last_move_extended a f [] h m = refl
by_last_move_extended a f (x ∷ s) h m = by_last_move_extended (f x) f s h m

-- the weight of the empty sequence is the denominator
pub weight_empty : (x : RealizationPlan) → sequence_weight x [] ≡ x.denominator
unfolding sequence_weight by_last_move
weight_empty x = refl

-- the weight of an extended sequence is its last move's
pub weight_extended : (x : RealizationPlan) (s : Sequence) (h m : ℕ) → sequence_weight x (extended s h m) ≡ x.move_weight h m
unfolding sequence_weight
weight_extended x s h m = by_last_move_extended x.denominator (λ (last : Move). x.move_weight last.0 last.1) s h m

-- the number of the empty sequence is 0
pub number_empty : (g : Game) (p : Player) → sequence_number g p [] ≡ 0
unfolding sequence_number by_last_move
number_empty g p = refl

-- the number of an extended sequence is its last move's
pub number_extended : (g : Game) (p : Player) (s : Sequence) (h m : ℕ) → sequence_number g p (extended s h m) ≡ move_number g p (h, m)
unfolding sequence_number
number_extended g p s h m = by_last_move_extended 0 (move_number g p) s h m

-- an extended sequence is consistent with a strategy where the rest is and the strategy takes its last move
pub consistent_extended : (σ : PureStrategy) (s : Sequence) (h m : ℕ) → consistent σ (extended s h m) ≡ (eqb (σ h) m && consistent σ s)
unfolding consistent
consistent_extended σ [] h m = refl
consistent_extended σ (x ∷ s) h m = ap (λ (b : Bool). eqb (σ x.0) x.1 && b) (consistent_extended σ s h m) ∙ swap (eqb (σ x.0) x.1) (eqb (σ h) m) (consistent σ s)
  where
    swap : (a b c : Bool) → (a && (b && c)) ≡ (b && (a && c))
    swap true true c = refl
    swap true false c = refl
    swap false true c = refl
    swap false false c = refl
