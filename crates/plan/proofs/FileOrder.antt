-- Weights by sequence number are a plan file's in its order.
use Prim.Native.Nat.{ℕ, suc, ◌+◌, ◌*◌, ◌-◌}
use mathlib.Core.Path.{◌≡◌, ap, ◌∙◌}
use mathlib.Core.List.{List}
use native.Mathlib.Omega.{arith}
use native.Mathlib.Nat as NatL
use lib.ListN.{length}
use Rattle.algebra.specs.Bounded.{list_to}
use Rattle.algebra.specs.Arrays.{item, placed, Holds}
use Rattle.algebra.proofs.Lists.{length_list_to, list_to_cong, list_to_plus}
use Rattle.algebra.proofs.Arrays.{placed_twice}
use Rattle.model.specs.Bits.{field, fields}
use Rattle.model.specs.Game.{Game, one, two, moves_before}
use Rattle.model.specs.Sequences.{sequence_count}
use Rattle.model.specs.Plan.{plan_moves, plan_weights, weight_bit, weights_before}
use Rattle.loaded.specs.declared.Counts.{Counts}
use Rattle.loaded.specs.Counts.{counts_of}
use Rattle.plan.specs.Weights.{weights_from, weight_by_number, in_file_order}

-- arrays with both players' weights give the file's, in its order
pub file_order : (g : Game) (plan x y : List ℕ) → Holds (weight_by_number g plan one) (sequence_count g one) x → Holds (weight_by_number g plan two) (sequence_count g two) y → in_file_order (counts_of g) x y ≡ plan_weights g plan
unfolding in_file_order plan_weights weight_bit fields plan_moves counts_of sequence_count weight_by_number weights_from weights_before
file_order g plan x y a b =
    let m = moves_before g one g.sets in
    let n = moves_before g two g.sets in
    let c : 1 + m - 1 ≡ m = omega arith in
    let d : 1 + n - 1 ≡ n = omega arith in
    rw (c, d, list_to_plus m n (λ i. field plan (32 + 12 * i) 12), list_to_cong m (λ i. item x (suc i)) (λ i. field plan (32 + 12 * i) 12) (λ i l. a.at (suc i) (omega arith) ∙ rw (NatL.zero-add i)), list_to_cong n (λ i. item y (suc i)) (λ i. field plan (32 + 12 * (m + i)) 12) (λ i l. b.at (suc i) (omega arith)))

-- one player's weights after the other's
pub both_placed : (n : Counts) (x y out : List ℕ) {m1 m2 : ℕ} {mid fin : List ℕ} → m1 ≡ n.sequences1 - 1 → m2 ≡ n.sequences2 - 1 → mid ≡ placed 0 (list_to m1 (λ i. item x (suc i))) out → fin ≡ placed m1 (list_to m2 (λ i. item y (suc i))) mid → fin ≡ placed 0 (in_file_order n x y) out
unfolding in_file_order
both_placed n x y out {m1} {m2} a b e f =
    let first = list_to m1 (λ i. item x (suc i)) in
    let second = list_to m2 (λ i. item y (suc i)) in
    let size : m1 ≡ 0 + length first = omega (arith, length_list_to m1 (λ i. item x (suc i))) in
    f ∙ rw (e, ← a, ← b) (ap (λ (k : ℕ). placed k second (placed 0 first out)) size ∙ placed_twice 0 first second out (omega arith))
