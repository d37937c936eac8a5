-- A sum over all sequences of a player, and numbers that stand at sequences regrouped by them.
use Prim.Native.Nat.{ℕ, zero, suc, ◌<◌}
use mathlib.Core.Path.{◌≡◌, refl, sym, ap, ◌∙◌}
use mathlib.Core.Bool.{Bool, true, false, ◌&&◌}
use mathlib.Core.List.{[]}
use lib.Dec.{T}
use lib.IntN.{ℤ, pos, ◌+ℤ◌, +ℤ_idl, +ℤ_idr}
use Rattle.algebra.specs.Bounded.{sum_to, sum_where}
use Rattle.algebra.proofs.Tests.{cond_yes, cond_no}
use Rattle.algebra.proofs.Integers.{exchange}
use Rattle.algebra.proofs.Sums.{only_z, only_z_zero, sum_cong, sum_zero, sum_plus, sum_one, where_z_is, where_cong, where_plus}
use Rattle.model.specs.Game.{Game, Player, owns}
use Rattle.model.specs.Sequences.{Sequence, extended, same, leading}
use Rattle.model.proofs.Sequences.{same→eq, eq→same, extended_inj, extended_nonempty}
use Rattle.model.proofs.Tree.{IsSequence, empty, after}

module _ (g : Game) (p : Player) where
  -- f at the sequences that end in a move of set h, added up
  unfoldable pub moved : (Sequence → ℤ) → ℕ → ℤ
  moved f h = sum_to (g.set_moves h) (λ m. f (extended (leading g h) h m))

  -- f at all of p's sequences, added up
  unfoldable pub overall : (Sequence → ℤ) → ℤ
  overall f = f [] +ℤ sum_where g.sets (owns g p) (moved f)

  -- two such sums, term by term
  pub overall_plus : (f k : Sequence → ℤ) → overall f +ℤ overall k ≡ overall (λ s. f s +ℤ k s)
  unfolding overall moved
  overall_plus f k =
      exchange (f []) (sum_where g.sets (owns g p) (moved f)) (k []) (sum_where g.sets (owns g p) (moved k))
      ∙ ap (λ (z : ℤ). f [] +ℤ k [] +ℤ z)
      (where_plus g.sets (owns g p) (moved f) (moved k)
      ∙ where_cong g.sets (owns g p) _ _ (λ h l o. sum_plus (g.set_moves h) (λ m. f (extended (leading g h) h m)) (λ m. k (extended (leading g h) h m))))

  -- equal terms
  pub overall_cong : (f k : Sequence → ℤ) → ((s : Sequence) → f s ≡ k s) → overall f ≡ overall k
  overall_cong f k e = ap overall (λ i s. e s i)

  -- nothing, added up
  pub overall_zero : overall (λ s. pos 0) ≡ pos 0
  unfolding overall moved
  overall_zero =
      +ℤ_idl (sum_where g.sets (owns g p) (λ h. sum_to (g.set_moves h) (λ m. pos 0)))
      ∙ where_z_is g.sets (owns g p) _
      ∙ sum_zero g.sets _ (λ h l. ap (only_z (owns g p h)) (sum_zero (g.set_moves h) (λ m. pos 0) (λ m u. refl)) ∙ only_z_zero (owns g p h))

  -- a sum of such sums
  overall_swap : (n : ℕ) (f : ℕ → Sequence → ℤ) → overall (λ s. sum_to n (λ i. f i s)) ≡ sum_to n (λ i. overall (f i))
  unfolding sum_to
  overall_swap zero f = overall_zero
  overall_swap (suc n) f = sym (overall_plus (λ s. sum_to n (λ i. f i s)) (f n)) ∙ ap (λ (z : ℤ). z +ℤ overall (f n)) (overall_swap n f)

  -- each of p's sequences is met once
  overall_once : (r : Sequence) (z : ℤ) → IsSequence g p r → overall (λ s. only_z (same r s) z) ≡ z
  unfolding overall moved
  overall_once r z empty =
      ap (λ (k : ℤ). z +ℤ k)
      (where_z_is g.sets (owns g p) _
      ∙ sum_zero g.sets _ (λ h l. ap (only_z (owns g p h)) (sum_zero (g.set_moves h) _ (λ m u. cond_no (same [] (extended (leading g h) h m)) z (pos 0) (λ e. extended_nonempty (leading g h) h m (sym (same→eq [] (extended (leading g h) h m) e))))) ∙ only_z_zero (owns g p h)))
      ∙ +ℤ_idr z
  overall_once r z (after {h = k} {m = j} l o b) =
      let r = extended (leading g k) k j in
      let at : (h m : ℕ) → T (same r (extended (leading g h) h m)) → (k ≡ h) × (j ≡ m) = λ h m e. let i = extended_inj (leading g k) (leading g h) k j h m (same→eq r (extended (leading g h) h m) e) in (i.1, i.2) in
      let f : ℕ → ℕ → ℤ = λ h m. only_z (same r (extended (leading g h) h m)) z in
      ap (λ (x : ℤ). x +ℤ sum_where g.sets (owns g p) (λ h. sum_to (g.set_moves h) (f h))) (cond_no (same r []) z (pos 0) (λ e. extended_nonempty (leading g k) k j (same→eq r [] e)))
      ∙ +ℤ_idl (sum_where g.sets (owns g p) (λ h. sum_to (g.set_moves h) (f h)))
      ∙ where_z_is g.sets (owns g p) (λ h. sum_to (g.set_moves h) (f h))
      ∙ sum_one g.sets (λ h. only_z (owns g p h) (sum_to (g.set_moves h) (f h))) k l (λ h u d.
      ap (only_z (owns g p h)) (sum_zero (g.set_moves h) (f h) (λ m v. cond_no (same r (extended (leading g h) h m)) z (pos 0) (λ e. d (sym (at h m e).0)))) ∙ only_z_zero (owns g p h))
      ∙ cond_yes (owns g p k) (sum_to (g.set_moves k) (f k)) (pos 0) o
      ∙ sum_one (g.set_moves k) (f k) j b (λ m v d. cond_no (same r (extended (leading g k) k m)) z (pos 0) (λ e. d (sym (at k m e).1)))
      ∙ cond_yes (same r r) z (pos 0) (eq→same r r refl)

  -- numbers that stand at sequences of p's: each is met at its own
  pub regroup : (n : ℕ) (t : ℕ → Bool) (r : ℕ → Sequence) (f : ℕ → ℤ) → ((i : ℕ) → i < n → T (t i) → IsSequence g p (r i)) → overall (λ s. sum_where n (λ i. t i && same (r i) s) f) ≡ sum_where n t f
  regroup n t r f e =
      overall_cong _ _ (λ s. where_z_is n (λ i. t i && same (r i) s) f)
      ∙ overall_swap n (λ i s. only_z (t i && same (r i) s) (f i))
      ∙ sum_cong n _ _ (λ i l. go i (t i) (e i l))
      ∙ sym (where_z_is n t f)
    where
      go : (i : ℕ) (b : Bool) → (T b → IsSequence g p (r i)) → overall (λ s. only_z (b && same (r i) s) (f i)) ≡ only_z b (f i)
      go i true v = overall_once (r i) (f i) (v tt)
      go i false v = overall_zero
