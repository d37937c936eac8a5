-- Sums over the slices of leaves are sums over the game's leaves.
use Prim.Native.Nat.{ℕ, zero, suc, ◌≤◌, ◌<◌}
use mathlib.Core.Path.{◌≡◌, refl, sym, ap, ◌∙◌}
use mathlib.Core.Bool.{Bool, true, false, cond}
use mathlib.Core.List.{List, [], ◌∷◌, ◌++◌, append-nil}
use native.Mathlib.Omega.{arith}
use native.Mathlib.Decide.{dec_le, dec_lt}
use lib.ListN.{length, length-append, get_or-append}
use lib.Seq.{get_or_at}
use lib.IntN.{ℤ, ◌+ℤ◌, +ℤ_idr}
use Rattle.algebra.specs.Arrays.{item}
use Rattle.algebra.specs.Bounded.{sum_to, sum_where, join_to}
use Rattle.algebra.proofs.Filters.{gathered_below, gathered_once}
use Rattle.algebra.proofs.Sums.{only_z, sum_suc, sum_cong}
use Rattle.model.specs.Game.{Game, is_leaf}
use Rattle.loaded.specs.Leaves.{leaf_at, leaves_below, leaves_of, leaf_of}

-- a sum over a list with one more element at its end
sum_snoc : (f : ℕ → ℤ) (l : List ℕ) (x : ℕ) → sum_to (length (l ++ x ∷ [])) (λ k. f (item (l ++ x ∷ []) k)) ≡ sum_to (length l) (λ k. f (item l k)) +ℤ f x
sum_snoc f l x =
    let e : length (l ++ x ∷ []) ≡ suc (length l) = length-append l (x ∷ []) ∙ omega arith in
    ap (λ (n : ℕ). sum_to n (λ k. f (item (l ++ x ∷ []) k))) e
    ∙ sum_suc (length l) (λ k. f (item (l ++ x ∷ []) k))
    ∙ rw (sum_cong (length l) (λ k. f (item (l ++ x ∷ []) k)) (λ k. f (item l k)) (λ k v. ap f (get_or-append l (x ∷ []) 0 k v)), get_or_at l x [] 0 (length l) refl)

-- Numbers that pass a test, gathered: what is added up over them.
module _ (t : ℕ → Bool) (f : ℕ → ℤ) where
  abbrev passing : (n : ℕ) → List ℕ
  passing = gathered_below t

  -- all below n
  pub passing_sum : (n : ℕ) → sum_to (length (passing n)) (λ k. f (item (passing n) k)) ≡ sum_where n t f
  unfolding join_to sum_where sum_to
  passing_sum zero = refl
  passing_sum (suc n) = go (t n) (passing_sum n)
    where
      go : (b : Bool) → sum_to (length (passing n)) (λ k. f (item (passing n) k)) ≡ sum_where n t f → sum_to (length (passing n ++ cond b (n ∷ []) [])) (λ k. f (item (passing n ++ cond b (n ∷ []) []) k)) ≡ sum_where n t f +ℤ only_z b (f n)
      go true e = sum_snoc f (passing n) n ∙ ap (λ (z : ℤ). z +ℤ f n) e
      go false e = rw (append-nil (passing n), e) (sym (+ℤ_idr (sum_where n t f)))

  -- a prefix of them is all that pass below some number
  pub passing_prefix : (n j : ℕ) → j ≤ length (passing n) → (m : ℕ) × (m ≤ n) × (sum_to j (λ k. f (item (passing n) k)) ≡ sum_where m t f)
  unfolding join_to sum_where sum_to
  passing_prefix zero j l = let e : j ≡ 0 = omega arith in (0, omega arith, rw e)
  passing_prefix (suc n) j l = go (dec_le j (length (passing n))) (passing_prefix n j)
    where
      go : Dec (j ≤ length (passing n)) → (j ≤ length (passing n) → (m : ℕ) × (m ≤ n) × (sum_to j (λ k. f (item (passing n) k)) ≡ sum_where m t f)) → (m : ℕ) × (m ≤ suc n) × (sum_to j (λ k. f (item (passing (suc n)) k)) ≡ sum_where m t f)
      go (yes v) rest = let r = rest v in (r.0, omega (arith, r.1), sum_cong j _ _ (λ k u. ap f (get_or-append (passing n) (cond (t n) (n ∷ []) []) 0 k (omega arith))) ∙ r.2)
      go (no v) rest = let e : j ≡ length (passing (suc n)) = omega (arith, length-append (passing n) (cond (t n) (n ∷ []) []), gathered_once t n) in (suc n, omega arith, rw e (passing_sum (suc n)))

module _ (g : Game) (f : ℕ → ℤ) where
  -- all leaves, by place
  pub leaves_sum : sum_to (length (leaves_of g)) (λ k. f (leaf_of g k)) ≡ sum_where g.nodes (is_leaf g) f
  unfolding leaves_of leaf_of leaves_below leaf_at
  leaves_sum = passing_sum (is_leaf g) f g.nodes

  -- and the first of them
  pub leaves_prefix : (j : ℕ) → j ≤ length (leaves_of g) → (m : ℕ) × (m ≤ g.nodes) × (sum_to j (λ k. f (leaf_of g k)) ≡ sum_where m (is_leaf g) f)
  unfolding leaves_of leaf_of leaves_below leaf_at
  leaves_prefix j l = passing_prefix (is_leaf g) f g.nodes j l

module _ (g : Game) where
  -- a leaf below n is a node below n
  below_in : (n k : ℕ) → k < length (leaves_below g n) → item (leaves_below g n) k < n
  unfolding leaves_below leaf_at join_to
  below_in zero k l = absurd (omega arith)
  below_in (suc n) k l = go (is_leaf g n) (dec_lt k (length (leaves_below g n))) (below_in n k) l
    where
      go : (b : Bool) → Dec (k < length (leaves_below g n)) → (k < length (leaves_below g n) → item (leaves_below g n) k < n) → k < length (leaves_below g n ++ cond b (n ∷ []) []) → item (leaves_below g n ++ cond b (n ∷ []) []) k < suc n
      go b (yes v) rest l = omega (arith, get_or-append (leaves_below g n) (cond b (n ∷ []) []) 0 k v, rest v)
      go true (no v) rest l = omega (arith, get_or_at (leaves_below g n) n [] 0 k (omega (arith, length-append (leaves_below g n) (n ∷ []))))
      go false (no v) rest l = absurd (omega (arith, length-append (leaves_below g n) []))

  -- a leaf is a node of the game
  pub leaf_in : (k : ℕ) → k < length (leaves_of g) → leaf_of g k < g.nodes
  unfolding leaves_of leaf_of
  leaf_in k l = below_in g.nodes k l
