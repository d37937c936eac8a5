-- The size of worths: no worth, and no partial sum of one, counts a leaf twice.
use Prim.Native.Nat.{ℕ, zero, suc, pred, ◌+◌, ◌*◌, ◌≤◌, ◌<◌}
use mathlib.Core.Path.{◌≡◌, refl, sym, ap, ◌∙◌, subst}
use mathlib.Core.Bool.{Bool, true, false, ◌&&◌}
use mathlib.Core.List.{[], ◌∷◌}
use native.Mathlib.Omega.{arith}
use native.Mathlib.Nat as NatL
use lib.ListN.{length, get_or}
use lib.Dec.{T, eqb, eqb→eq}
use mir.Facts.{and_yes, yes_and}
use lib.IntN.{ℤ, ◌+ℤ◌, nat_abs}
use Rattle.algebra.specs.Bounded.{total_to, sum_where}
use Rattle.algebra.proofs.Tests.{dec, cond_yes, cond_no}
use Rattle.algebra.proofs.Ranges.{abs_add, abs_where, abs_max}
use Rattle.algebra.proofs.Totals.{only, only_le, only_most, count_cong, count_le, count_zero, count_plus, count_scale, count_swap, count_less, count_single}
use Rattle.model.specs.Game.{Game, Player, is_leaf}
use Rattle.model.specs.Sequences.{Sequence, extended, same_move, same, own_sequence_of, leading}
use Rattle.model.specs.Plan.{RealizationPlan}
use Rattle.model.specs.Earnings.{leaf_term}
use Rattle.model.specs.BestResponse.{leads_to, greatest_worth, leaves_worth, worth_in}
use Rattle.model.proofs.Sequences.{same→eq}
use Rattle.model.proofs.Worths.{leads_parts}

-- s begins r
unfoldable is_prefix : Sequence → Sequence → Bool
is_prefix [] r = true
is_prefix (x ∷ s) [] = false
is_prefix (x ∷ s) (y ∷ r) = same_move x y && is_prefix s r

-- every sequence begins itself
prefix_same : (s r : Sequence) → T (same r s) → T (is_prefix s r)
unfolding is_prefix
prefix_same [] [] t = tt
prefix_same [] (y ∷ r) t = tt
prefix_same (x ∷ s) [] t = t
prefix_same (x ∷ s) (y ∷ r) t =
    let a = and_yes (same_move y x) (same r s) t in
    let b = and_yes (eqb y.0 x.0) (eqb y.1 x.1) a.0 in
    yes_and (same_move x y) (is_prefix s r)
    (yes_and (eqb x.0 y.0) (eqb x.1 y.1) (turn y.0 x.0 b.0) (turn y.1 x.1 b.1))
    (prefix_same s r a.1)
  where
    turn : (m n : ℕ) → T (eqb m n) → T (eqb n m)
    turn m n t = subst (λ (k : ℕ). T (eqb k m)) (eqb→eq m n t) (subst (λ (k : ℕ). T (eqb m k)) (sym (eqb→eq m n t)) t)

-- what it says that s with a move (h, m) begins r: s does, r goes on, and (h, m) comes next
prefix_next : (s r : Sequence) (h m : ℕ) → T (is_prefix (extended s h m) r) → T (is_prefix s r) × (length s < length r) × (h ≡ (get_or r (length s) (0, 0)).0) × (m ≡ (get_or r (length s) (0, 0)).1)
unfolding is_prefix
prefix_next [] [] h m t = absurd t
prefix_next [] (y ∷ r) h m t =
    let b = and_yes (eqb h y.0) (eqb m y.1) (and_yes (same_move (h, m) y) true t).0 in
    (tt, omega arith, eqb→eq h y.0 b.0, eqb→eq m y.1 b.1)
prefix_next (x ∷ s) [] h m t = absurd t
prefix_next (x ∷ s) (y ∷ r) h m t =
    let a = and_yes (same_move x y) (is_prefix (extended s h m) r) t in
    let i = prefix_next s r h m a.1 in
    (yes_and (same_move x y) (is_prefix s r) a.0 i.0, omega (arith, i.1), i.2, i.3)

module _ (g : Game) (p : Player) where
  -- the moves after s that go on towards r
  unfoldable going_on : (s r : Sequence) → ℕ
  going_on s r = total_to g.sets (λ h. only (leads_to g p s h) (total_to (g.set_moves h) (λ m. only (is_prefix (extended (leading g h) h m) r) 1)))

  -- there is none but where s begins r and r goes on
  none_on : (s r : Sequence) → ¬ (T (is_prefix s r) × (length s < length r)) → going_on s r ≡ 0
  unfolding going_on
  none_on s r d =
      count_zero g.sets _ (λ h l.
      elim (dec (leads_to g p s h)) [
        | yes t ↦ let e = (leads_parts g p s h t).1 in
            cond_yes (leads_to g p s h) _ 0 t
            ∙ count_zero (g.set_moves h) _ (λ m u. cond_no {A = ℕ} (is_prefix (extended (leading g h) h m) r) 1 0 (λ z. let i = prefix_next s r h m (subst (λ (k : Sequence). T (is_prefix (extended k h m) r)) e z) in d (i.0, i.1)))
        | no t ↦ cond_no (leads_to g p s h) _ 0 t
      ])

  -- and there is at most one
  one_on : (s r : Sequence) → going_on s r ≤ 1
  unfolding going_on
  one_on s r =
      let next = get_or r (length s) (0, 0) in
      count_single g.sets 1 (λ h. only (leads_to g p s h) (total_to (g.set_moves h) (λ m. only (is_prefix (extended (leading g h) h m) r) 1))) next.0
      (λ h l d.
      elim (dec (leads_to g p s h)) [
        | yes t ↦ cond_yes (leads_to g p s h) _ 0 t ∙ count_zero (g.set_moves h) _ (λ m u. cond_no {A = ℕ} (is_prefix (extended (leading g h) h m) r) 1 0 (λ z. d (at h m (leads_parts g p s h t).1 z).0))
        | no t ↦ cond_no (leads_to g p s h) _ 0 t
      ])
      (λ l.
      let h = next.0 in
      elim (dec (leads_to g p s h)) [
        | yes t ↦ omega (
          arith,
          only_most (leads_to g p s h) (total_to (g.set_moves h) (λ m. only (is_prefix (extended (leading g h) h m) r) 1)),
          count_single (g.set_moves h) 1 (λ m. only (is_prefix (extended (leading g h) h m) r) 1) next.1 (λ m u d. cond_no {A = ℕ} (is_prefix (extended (leading g h) h m) r) 1 0 (λ z. d (at h m (leads_parts g p s h t).1 z).1)) (λ u. only_most (is_prefix (extended (leading g h) h next.1) r) 1),
        )
        | no t ↦ omega (arith, cond_no (leads_to g p s h) (total_to (g.set_moves h) (λ m. only (is_prefix (extended (leading g h) h m) r) 1)) 0 t)
      ])
    where
      at : (h m : ℕ) → leading g h ≡ s → T (is_prefix (extended (leading g h) h m) r) → (h ≡ (get_or r (length s) (0, 0)).0) × (m ≡ (get_or r (length s) (0, 0)).1)
      at h m e z = let i = prefix_next s r h m (subst (λ (k : Sequence). T (is_prefix (extended k h m) r)) e z) in (i.2, i.3)

  -- r is met at s, or beyond it by one move, only where s begins it
  met_once : (s r : Sequence) → only (same r s) 1 + going_on s r ≤ only (is_prefix s r) 1
  met_once s r =
      elim (dec (same r s)) [
        | yes t ↦ omega (arith, cond_yes {A = ℕ} (same r s) 1 0 t, cond_yes {A = ℕ} (is_prefix s r) 1 0 (prefix_same s r t), none_on s r (λ i. let e : length r ≡ length s = ap {B = ℕ} length (same→eq r s t) in omega (arith, i.1)))
        | no t ↦ elim (dec (is_prefix s r)) [
          | yes u ↦ omega (arith, cond_no {A = ℕ} (same r s) 1 0 t, cond_yes {A = ℕ} (is_prefix s r) 1 0 u, one_on s r)
          | no u ↦ omega (arith, cond_no {A = ℕ} (same r s) 1 0 t, none_on s r (λ i. u i.0))
        ]
      ]

module _ (g : Game) (p : Player) (y : RealizationPlan) where
  -- what a node can count for, as a size
  unfoldable pub leaf_size : ℕ → ℕ
  leaf_size n = only (is_leaf g n) (nat_abs (leaf_term g p y n))

  -- all leaves together
  unfoldable pub leaf_sizes : ℕ
  leaf_sizes = total_to g.nodes leaf_size

  -- the leaves at s and beyond it
  unfoldable size : Sequence → ℕ
  size s = total_to g.nodes (λ n. leaf_size n * only (is_prefix s (own_sequence_of g p n)) 1)

  size_most : (s : Sequence) → size s ≤ leaf_sizes
  unfolding size leaf_sizes
  size_most s = count_le g.nodes _ leaf_size (λ n l. omega (arith, NatL.mul-le-mul_left (leaf_size n) (only_most (is_prefix s (own_sequence_of g p n)) 1)))

  -- two tests of a leaf
  split : (a b : Bool) (k : ℕ) → only (a && b) k ≡ only a k * only b 1
  split true true k = omega arith
  split true false k = omega arith
  split false b k = omega arith

  -- every prefix of the sum of the leaves at s
  pub leaves_prefix : (s : Sequence) (k : ℕ) → k ≤ g.nodes → nat_abs (sum_where k (λ n. is_leaf g n && same (own_sequence_of g p n) s) (leaf_term g p y)) ≤ total_to g.nodes (λ n. leaf_size n * only (same (own_sequence_of g p n) s) 1)
  unfolding leaf_size
  leaves_prefix s k l =
      let f : ℕ → ℕ = λ n. only (is_leaf g n && same (own_sequence_of g p n) s) (nat_abs (leaf_term g p y n)) in
      omega (arith, abs_where k (λ n. is_leaf g n && same (own_sequence_of g p n) s) (leaf_term g p y), count_less g.nodes k f l, count_cong g.nodes f (λ n. leaf_size n * only (same (own_sequence_of g p n) s) 1) (λ n v. split (is_leaf g n) (same (own_sequence_of g p n) s) (nat_abs (leaf_term g p y n))))

  -- the sizes of the moves that s leads to, leaf by leaf
  sizes_on : (s : Sequence) → total_to g.sets (λ h. only (leads_to g p s h) (total_to (g.set_moves h) (λ m. size (extended (leading g h) h m)))) ≡ total_to g.nodes (λ n. leaf_size n * going_on g p s (own_sequence_of g p n))
  unfolding size going_on
  sizes_on s =
      let pre : ℕ → ℕ → ℕ → ℕ = λ h m n. only (is_prefix (extended (leading g h) h m) (own_sequence_of g p n)) 1 in
      count_cong g.sets _ (λ h. total_to g.nodes (λ n. leaf_size n * only (leads_to g p s h) (total_to (g.set_moves h) (λ m. pre h m n)))) (λ h l.
      ap (only (leads_to g p s h)) (count_swap (g.set_moves h) g.nodes (λ m n. leaf_size n * pre h m n) ∙ count_cong g.nodes _ _ (λ n v. sym (count_scale (g.set_moves h) (leaf_size n) (λ m. pre h m n))))
      ∙ inside (leads_to g p s h) (λ n. total_to (g.set_moves h) (λ m. pre h m n)))
      ∙ count_swap g.sets g.nodes (λ h n. leaf_size n * only (leads_to g p s h) (total_to (g.set_moves h) (λ m. pre h m n)))
      ∙ count_cong g.nodes _ _ (λ n v. sym (count_scale g.sets (leaf_size n) (λ h. only (leads_to g p s h) (total_to (g.set_moves h) (λ m. pre h m n)))))
    where
      inside : (b : Bool) (f : ℕ → ℕ) → only b (total_to g.nodes (λ n. leaf_size n * f n)) ≡ total_to g.nodes (λ n. leaf_size n * only b (f n))
      inside true f = refl
      inside false f = sym (count_zero g.nodes _ (λ n v. omega arith))

  module _ (some : (h : ℕ) → h < g.sets → 0 < g.set_moves h) where
    -- a set's worth is no larger than its moves together
    greatest_size : (f : Sequence → ℤ) → ((r : Sequence) → nat_abs (f r) ≤ size r) → (h : ℕ) → h < g.sets → nat_abs (greatest_worth g f h) ≤ total_to (g.set_moves h) (λ m. size (extended (leading g h) h m))
    unfolding greatest_worth
    greatest_size f b h l =
        let w : ℕ → ℤ = λ m. f (extended (leading g h) h m) in
        let e : suc (pred (g.set_moves h)) ≡ g.set_moves h = omega (arith, some h l) in
        let a = abs_max (pred (g.set_moves h)) w in
        let c = count_le (suc (pred (g.set_moves h))) (λ m. nat_abs (w m)) (λ m. size (extended (leading g h) h m)) (λ m u. b (extended (leading g h) h m)) in
        omega (arith, a, c, ap (λ (n : ℕ). total_to n (λ m. size (extended (leading g h) h m))) e)

    -- a partial sum of a worth, by the sizes of the worths in it
    partial_size : (f : Sequence → ℤ) → ((r : Sequence) → nat_abs (f r) ≤ size r) → (s : Sequence) (k : ℕ) → k ≤ g.sets → nat_abs (leaves_worth g p y s +ℤ sum_where k (leads_to g p s) (greatest_worth g f)) ≤ size s
    unfolding leaves_worth size
    partial_size f b s k l =
        let w = greatest_worth g f in
        let N = g.nodes in
        let same_at : ℕ → ℕ = λ n. leaf_size n * only (same (own_sequence_of g p n) s) 1 in
        let on : ℕ → ℕ = λ n. leaf_size n * going_on g p s (own_sequence_of g p n) in
        let a = abs_add (leaves_worth g p y s) (sum_where k (leads_to g p s) w) in
        let a1 = leaves_prefix s N (omega arith) in
        let a2 = abs_where k (leads_to g p s) w in
        let a3 = count_less g.sets k (λ h. only (leads_to g p s h) (nat_abs (w h))) l in
        let a4 = count_le g.sets (λ h. only (leads_to g p s h) (nat_abs (w h))) (λ h. only (leads_to g p s h) (total_to (g.set_moves h) (λ m. size (extended (leading g h) h m)))) (λ h v. only_le (leads_to g p s h) _ _ (λ t. greatest_size f b h v)) in
        let a5 = sizes_on s in
        let a6 = count_plus N same_at on in
        let a7 = count_le N (λ n. same_at n + on n) (λ n. leaf_size n * only (is_prefix s (own_sequence_of g p n)) 1) (λ n v. omega (arith, NatL.mul-add (leaf_size n) (only (same (own_sequence_of g p n) s) 1) (going_on g p s (own_sequence_of g p n)), NatL.mul-le-mul_left (leaf_size n) (met_once g p s (own_sequence_of g p n)))) in
        omega (arith, a, a1, a2, a3, a4, a5, a6, a7)

    worth_size : (f : ℕ) (s : Sequence) → nat_abs (worth_in g p y f s) ≤ size s
    unfolding worth_in
    worth_size zero s = omega arith
    worth_size (suc f) s = partial_size (worth_in g p y f) (worth_size f) s g.sets (omega arith)

    -- nor is a partial sum of one, over the first k sets
    pub partial_bound : (f : ℕ) (s : Sequence) (k : ℕ) → k ≤ g.sets → nat_abs (leaves_worth g p y s +ℤ sum_where k (leads_to g p s) (greatest_worth g (worth_in g p y f))) ≤ leaf_sizes
    partial_bound f s k l = omega (arith, partial_size (worth_in g p y f) (worth_size f) s k l, size_most s)

  -- nor is a prefix of the sum of the leaves at a sequence
  pub leaves_bound : (s : Sequence) (k : ℕ) → k ≤ g.nodes → nat_abs (sum_where k (λ n. is_leaf g n && same (own_sequence_of g p n) s) (leaf_term g p y)) ≤ leaf_sizes
  unfolding leaf_sizes
  leaves_bound s k l = omega (arith, leaves_prefix s k l, count_le g.nodes (λ n. leaf_size n * only (same (own_sequence_of g p n) s) 1) leaf_size (λ n v. omega (arith, NatL.mul-le-mul_left (leaf_size n) (only_most (same (own_sequence_of g p n) s) 1))))
