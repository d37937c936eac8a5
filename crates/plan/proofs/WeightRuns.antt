-- A run of weights put after a denominator is the weights by number.
use Prim.Native.Nat.{ℕ, suc, ◌+◌, ◌*◌, ◌<◌}
use mathlib.Core.Path.{◌≡◌, ap, ◌∙◌}
use mathlib.Core.List.{List, [], ◌∷◌}
use native.Mathlib.Omega.{arith}
use lib.ListN.{length, set}
use Rattle.algebra.specs.Bounded.{list_to}
use Rattle.algebra.specs.Arrays.{placed, over}
use Rattle.algebra.proofs.Lists.{list_to_cong, length_list_to, join_to_first}
use Rattle.model.specs.Bits.{field, fields}
use Rattle.plan.specs.Weights.{weights_from}

-- the first entry, and then the others, given anew
placed_after : (f : ℕ → ℕ) (n : ℕ) (l : List ℕ) → n < length l → placed 1 (list_to n (λ i. f (suc i))) (set l 0 (f 0)) ≡ over f (1 + n) l
unfolding placed over list_to
placed_after f n [] b = absurd (omega arith)
placed_after f n (y ∷ l) b =
    let size : 1 + length (list_to n (λ i. f (suc i))) ≡ suc n = omega (arith, length_list_to n (λ i. f (suc i))) in
    let all : 1 + n ≡ suc n = omega arith in
    rw (size, all, join_to_first n (λ i. f i ∷ []))

-- the denominator, and then the weights of a file
pub decoded : (plan : List ℕ) (denominator before moves : ℕ) {x : List ℕ} (l : List ℕ) → x ≡ placed 1 (fields plan (32 + 12 * before) 12 moves) (set l 0 denominator) → moves < length l → x ≡ over (weights_from plan denominator before) (1 + moves) l
unfolding fields weights_from
decoded plan denominator before moves l e b =
    e
    ∙ ap (λ (run : List ℕ). placed 1 run (set l 0 denominator)) (list_to_cong moves _ _ (λ i v. ap (λ (at : ℕ). field plan at 12) (omega arith)))
    ∙ placed_after (weights_from plan denominator before) moves l b
