-- The order of the sets by their first nodes: each stands in it once, after the sets whose moves lead to it.
use Prim.Native.Nat.{ℕ, ◌<◌}
use mathlib.Core.Path.{◌≡◌, sym, ap, ◌∙◌, subst}
use mathlib.Core.Bool.{Bool, true, false, ◌&&◌, cond}
use mathlib.Core.List.{[], ◌∷◌}
use native.Mathlib.Omega.{arith}
use native.Mathlib.Decide.{ℕ_discrete, dec_lt}
use lib.ListN.{length}
use lib.Dec.{T, eqb, eqb→eq}
use mir.Facts.{and_yes, yes_and}
use Rattle.algebra.specs.Arrays.{item}
use Rattle.algebra.specs.Bounded.{total_to, join_to}
use Rattle.algebra.proofs.Elements.{Among, among_where, among_join, every_where, every_join}
use Rattle.algebra.proofs.Lists.{length_joins, join_to_place}
use Rattle.algebra.proofs.Sorted.{Sorted, All, sorted_join, sorted_at}
use Rattle.algebra.proofs.Tests.{dec, cond_yes, cond_no, eqb_make}
use Rattle.algebra.proofs.Totals.{only, count_cong, count_zero, count_one, count_ones, count_swap, count_pick}
use Rattle.model.specs.Game.{Game, Player, is_decision, owns}
use Rattle.model.specs.Sequences.{extended, first_node, leading}
use Rattle.model.specs.Rules.{GameRules}
use Rattle.model.proofs.Tree.{first_in_lem, first_set, decision_kind}
use Rattle.model.proofs.Reached.{first_before}
use Rattle.loaded.specs.Sets.{begins_at, set_order}

module _ (g : Game) where
  -- node n is the first one of its set
  abbrev begins : (n : ℕ) → Bool
  begins n = is_decision g n && eqb (first_node g (g.node_set n)) n

  begins_make : (n : ℕ) → g.kind n ≡ 1 → first_node g (g.node_set n) ≡ n → T (begins n)
  unfolding is_decision
  begins_make n k e = yes_and (eqb (g.kind n) 1) (eqb (first_node g (g.node_set n)) n) (eqb_make (g.kind n) 1 k) (eqb_make (first_node g (g.node_set n)) n e)

  begins_is : (n : ℕ) → T (begins n) → (g.kind n ≡ 1) × (first_node g (g.node_set n) ≡ n)
  begins_is n t =
      let a = and_yes (is_decision g n) (eqb (first_node g (g.node_set n)) n) t in
      (decision_kind g n a.0, eqb→eq (first_node g (g.node_set n)) n a.1)

  -- a node at which a set begins, and any other
  pub begins_one : (n : ℕ) → g.kind n ≡ 1 → first_node g (g.node_set n) ≡ n → begins_at g n ≡ g.node_set n ∷ []
  unfolding begins_at
  begins_one n k e = cond_yes (begins n) (g.node_set n ∷ []) [] (begins_make n k e)

  pub begins_none : (n : ℕ) → (g.kind n ≡ 1 → ¬ (first_node g (g.node_set n) ≡ n)) → begins_at g n ≡ []
  unfolding begins_at
  begins_none n d = cond_no (begins n) (g.node_set n ∷ []) [] (λ t. let b = begins_is n t in d b.0 b.1)

  -- its place is how many sets begin before it
  pub order_place : (n : ℕ) → n < g.nodes → g.kind n ≡ 1 → first_node g (g.node_set n) ≡ n → item (set_order g) (length (join_to n (begins_at g))) ≡ g.node_set n
  unfolding set_order
  order_place n l k e = join_to_place 0 (begins_at g) (g.node_set n) l (begins_one n k e)

module _ (g : Game) (R : GameRules g) where
  -- a set begins at its first node
  first_begins : (h : ℕ) → h < g.sets → (g.node_set (first_node g h) ≡ h) × T (begins g (first_node g h))
  first_begins h l =
      let s = first_set g R h l in
      (s.1, begins_make g (first_node g h) (decision_kind g (first_node g h) s.0) (ap (first_node g) s.1))

  -- as many sets have their first node there as begin there
  sets_at : (n : ℕ) → n < g.nodes → length (begins_at g n) ≡ total_to g.sets (λ h. only (eqb (first_node g h) n) 1)
  unfolding begins_at
  sets_at n l =
      elim (dec (begins g n)) [
        | yes t ↦
            let b = begins_is g n t in
            let one : length (cond (begins g n) (g.node_set n ∷ []) []) ≡ 1 = rw (cond_yes (begins g n) (g.node_set n ∷ []) [] t) in
            one ∙ sym (count_one g.sets (λ h. only (eqb (first_node g h) n) 1) (g.node_set n) (R.decision_set n l b.0) other ∙ cond_yes {A = ℕ} (eqb (first_node g (g.node_set n)) n) 1 0 (eqb_make (first_node g (g.node_set n)) n b.1))
        | no t ↦
            let none : length (cond (begins g n) (g.node_set n ∷ []) []) ≡ 0 = rw (cond_no (begins g n) (g.node_set n ∷ []) [] t) in
            none ∙ sym (count_zero g.sets (λ h. only (eqb (first_node g h) n) 1) (λ h v. cond_no {A = ℕ} (eqb (first_node g h) n) 1 0 (λ u. t (subst (λ (m : ℕ). T (begins g m)) (eqb→eq (first_node g h) n u) (first_begins h v).1))))
      ]
    where
      other : (h : ℕ) → h < g.sets → ¬ (h ≡ g.node_set n) → only (eqb (first_node g h) n) 1 ≡ 0
      other h v d = cond_no {A = ℕ} (eqb (first_node g h) n) 1 0 (λ u. d (sym (first_begins h v).0 ∙ ap g.node_set (eqb→eq (first_node g h) n u)))

  -- every set stands in the order once
  pub order_long : length (set_order g) ≡ g.sets
  unfolding set_order
  order_long =
      length_joins g.nodes (begins_at g)
      ∙ count_cong g.nodes _ _ sets_at
      ∙ count_swap g.nodes g.sets (λ n h. only (eqb (first_node g h) n) 1)
      ∙ count_cong g.sets _ _ (λ h l. count_pick g.nodes (first_node g h) (λ n. 1) (first_in_lem g R h l).1)
      ∙ count_ones g.sets

  -- and has a place there
  pub order_has : (h : ℕ) → h < g.sets → Among h (set_order g)
  unfolding set_order begins_at
  order_has h l =
      let n = first_node g h in
      let b = first_begins h l in
      subst (λ (k : ℕ). Among k (set_order g)) b.0 (among_join (g.node_set n) g.nodes (begins_at g) n (first_in_lem g R h l).1 (among_where (begins g n) (g.node_set n) b.1))

  -- and each that stands there is one of the game's
  pub order_set : (i : ℕ) → i < g.sets → item (set_order g) i < g.sets
  unfolding set_order begins_at
  order_set i l =
      every_join (λ h. h < g.sets) g.nodes (begins_at g) (λ n v. every_where (λ h. h < g.sets) (begins g n) (g.node_set n) (λ t. R.decision_set n v (begins_is g n t).0)) i
      (omega (arith, order_long))

  -- first nodes rise
  order_rises : (i j : ℕ) → i < j → j < length (set_order g) → first_node g (item (set_order g) i) < first_node g (item (set_order g) j)
  unfolding set_order begins_at
  order_rises i j u v =
      sorted_at (λ h k. first_node g h < first_node g k) 0 (set_order g)
      (sorted_join (λ h k. first_node g h < first_node g k) (λ n h. first_node g h ≡ n) g.nodes (begins_at g) first alone (λ c e x y l p q. omega arith)) i j u v
    where
      first : (n : ℕ) → All (λ h. first_node g h ≡ n) (begins_at g n)
      first n = go (begins g n) (λ t. (begins_is g n t).1)
        where
          go : (b : Bool) → (T b → first_node g (g.node_set n) ≡ n) → All (λ h. first_node g h ≡ n) (cond b (g.node_set n ∷ []) [])
          go true e = (e tt, tt)
          go false e = tt

      alone : (n : ℕ) → Sorted (λ h k. first_node g h < first_node g k) (begins_at g n)
      alone n = go (begins g n)
        where
          go : (b : Bool) → Sorted (λ h k. first_node g h < first_node g k) (cond b (g.node_set n ∷ []) [])
          go true = (tt, tt)
          go false = tt

  -- so a set that a move of set h leads to comes after h
  pub order_after : (p : Player) (h m k i j : ℕ) → k < g.sets → T (owns g p k) → leading g k ≡ extended (leading g h) h m → i < g.sets → item (set_order g) i ≡ h → item (set_order g) j ≡ k → i < j
  order_after p h m k i j l o e v a b =
      let less = first_before g R p h m k l o e in
      elim (dec_lt i j) [
        | yes u ↦ u
        | no u ↦ elim (ℕ_discrete i j) [
          | yes q ↦ absurd (omega (arith, less, ap (first_node g) (sym a ∙ ap (item (set_order g)) q ∙ b)))
          | no q ↦ absurd (omega (arith, less, order_rises j i (omega arith) (omega (arith, order_long)), ap (first_node g) a, ap (first_node g) b))
        ]
      ]

  -- no set stands at two places
  pub order_once : (i j : ℕ) → i < j → j < g.sets → ¬ (item (set_order g) i ≡ item (set_order g) j)
  order_once i j u v e = omega (arith, order_rises i j u (omega (arith, order_long)), ap (first_node g) e)
