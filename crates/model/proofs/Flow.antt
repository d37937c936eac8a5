-- Flow: chance weight × both players' plan weights, added up over the leaves, is the root's.
use Prim.Native.Nat.{ℕ, zero, suc, ◌+◌, ◌*◌, ◌<◌}
use mathlib.Core.Path.{◌≡◌, refl, sym, ap, ◌∙◌, subst}
use mathlib.Core.Bool.{not}
use native.Mathlib.Omega.{arith}
use native.Mathlib.Nat as NatL
use lib.Dec.{T, eqb, ltb, not_T, T_not, lt→ltb}
use mir.Facts.{yes_and}
use Rattle.algebra.specs.Bounded.{total_to}
use Rattle.algebra.proofs.Tests.{dec, cond_yes, cond_no, eqb_make}
use Rattle.algebra.proofs.Totals.{only, only_cong, only_scale, only_swap, count_cong, count_zero, count_one, count_scale, count_key, count_split}
use Rattle.model.specs.Game.{Game, Player, one, two, other, owns, is_leaf, is_decision, is_chance}
use Rattle.model.specs.Sequences.{Sequence, acts, own_sequence_of}
use Rattle.model.specs.GameChecks.{children_weight}
use Rattle.model.specs.Plan.{PlanPair, sequence_weight, weight_at, Fits}
use Rattle.model.specs.Rules.{GameRules}
use Rattle.model.proofs.Sequences.{weight_empty, weight_extended}
use Rattle.model.proofs.Tree.{player_refl, not_other, below, below_is, acts_parts, decision_kind, chance_kind, decision_moves, own_root, own_step, parent_in, in_own_set, own_leading, leaf_childless, children}

-- three factors, the last two changed about
turn : (w x y : ℕ) → w * (x * y) ≡ w * y * x
turn w x y = ap (λ (k : ℕ). w * k) (NatL.mul_comm x y) ∙ sym (NatL.mul_assoc w y x)

module _ (g : Game) (R : GameRules g) (q : PlanPair) (F : (p : Player) → Fits g p (q p)) where
  -- chance weight × both plan weights at node n
  unfoldable pub mass : ℕ → ℕ
  mass n = g.weight n * (weight_at g (q one) one n * weight_at g (q two) two n)

  -- the same, with p's weight first
  mass_by : (p : Player) (n : ℕ) → mass n ≡ g.weight n * (weight_at g (q p) p n * weight_at g (q (other p)) (other p) n)
  unfolding mass
  mass_by one n = refl
  mass_by two n = ap (λ (k : ℕ). g.weight n * k) (NatL.mul_comm (weight_at g (q one) one n) (weight_at g (q two) two n))

  -- the masses of node n's children, added up
  unfoldable handed_on : ℕ → ℕ
  handed_on n = total_to g.nodes (λ c. only (below g n c) (mass c))

  module _ (n : ℕ) (l : n < g.nodes) where
    -- a player who does not move at n has the same weight at n's children
    weight_stays : (p : Player) (c : ℕ) → c < g.nodes → T (below g n c) → ¬ T (acts g p n) → weight_at g (q p) p c ≡ weight_at g (q p) p n
    unfolding weight_at
    weight_stays p zero k t d = absurd (omega (arith, (below_is g n 0 t).0))
    weight_stays p (suc c) k t d =
        let e = (below_is g n (suc c) t).1 in
        ap (sequence_weight (q p))
        (own_step g R.parents p c k ∙ cond_no {A = Sequence} (acts g p (g.parent (suc c))) _ _ (λ x. d (subst (λ (j : ℕ). T (acts g p j)) e x)) ∙ ap (own_sequence_of g p) e)

    -- one who moves there has the weight of the move
    weight_moves : (p : Player) (c : ℕ) → c < g.nodes → T (below g n c) → T (acts g p n) → weight_at g (q p) p c ≡ (q p).move_weight (g.node_set n) (g.move c)
    unfolding weight_at
    weight_moves p zero k t d = absurd (omega (arith, (below_is g n 0 t).0))
    weight_moves p (suc c) k t d =
        let e = (below_is g n (suc c) t).1 in
        ap (sequence_weight (q p)) (own_step g R.parents p c k ∙ cond_yes {A = Sequence} (acts g p (g.parent (suc c))) _ _ (subst (λ (j : ℕ). T (acts g p j)) (sym e) d))
        ∙ weight_extended (q p) (own_sequence_of g p (g.parent (suc c))) (g.node_set (g.parent (suc c))) (g.move (suc c))
        ∙ ap (λ (j : ℕ). (q p).move_weight (g.node_set j) (g.move (suc c))) e

    -- "A decision's child has its parent's weight"
    child_weight : T (is_decision g n) → (c : ℕ) → c < g.nodes → T (below g n c) → g.weight c ≡ g.weight n
    child_weight d zero k t = absurd (omega (arith, (below_is g n 0 t).0))
    child_weight d (suc c) k t =
        let e = (below_is g n (suc c) t).1 in
        R.decision_weight c k (ap g.kind e ∙ decision_kind g n d) ∙ ap g.weight e

    at_leaf : T (is_leaf g n) → handed_on n ≡ 0
    unfolding handed_on
    at_leaf t = count_zero g.nodes _ (λ c k. cond_no (below g n c) (mass c) 0 (leaf_childless g R n c t k))

    at_chance : T (is_chance g n) → handed_on n ≡ mass n
    unfolding mass handed_on children_weight
    at_chance t =
        let idle : (p : Player) → ¬ T (acts g p n) = λ p d. omega (arith, chance_kind g n t, decision_kind g n (acts_parts g p n d).0) in
        let both = weight_at g (q one) one n * weight_at g (q two) two n in
        count_cong g.nodes _ _ (λ c k.
        only_cong (below g n c) _ _ (λ b.
        rw (weight_stays one c k b (idle one), weight_stays two c k b (idle two)) (NatL.mul_comm (g.weight c) both))
        ∙ sym (only_scale (below g n c) both (g.weight c)))
        ∙ sym (count_scale g.nodes both (λ c. only (below g n c) (g.weight c)))
        ∙ ap (λ (k : ℕ). both * k) (R.chance_weight n l (chance_kind g n t))
        ∙ NatL.mul_comm both (g.weight n)

    at_decision : T (is_decision g n) → handed_on n ≡ mass n
    unfolding acts owns handed_on weight_at
    at_decision t =
        let h = g.node_set n in
        let p = g.set_player h in
        let o = other p in
        let mine : T (acts g p n) = yes_and (is_decision g n) (owns g p h) t (player_refl p) in
        let idle : ¬ T (acts g o n) = λ d. not_other p (acts_parts g o n d).1 in
        let K = g.weight n * weight_at g (q o) o n in
        let X = (q p).move_weight h in
        count_cong g.nodes _ _ (λ c k.
        only_cong (below g n c) _ _ (λ b.
        mass_by p c ∙ rw (weight_moves p c k b mine, weight_stays o c k b idle, child_weight t c k b) (turn (g.weight n) (X (g.move c)) (weight_at g (q o) o n))))
        ∙ children g R n l (λ m. K * X m)
        ∙ ap (λ (k : ℕ). total_to k (λ m. K * X m)) (decision_moves g n t)
        ∙ sym (count_scale (g.set_moves h) K X)
        ∙ ap (λ (k : ℕ). K * k) (F p h (in_own_set g R n l t).0 (player_refl p) ∙ ap (sequence_weight (q p)) (sym (own_leading g R p n l mine)))
        ∙ sym (turn (g.weight n) (weight_at g (q p) p n) (weight_at g (q o) o n))
        ∙ sym (mass_by p n)

    -- an inner node hands its mass on to its children
    at_node : handed_on n ≡ only (not (is_leaf g n)) (mass n)
    unfolding is_decision is_chance is_leaf
    at_node =
        elim (dec (is_leaf g n)) [
          | yes t ↦ at_leaf t ∙ sym (cond_no (not (is_leaf g n)) (mass n) 0 (λ d. T_not (is_leaf g n) d t))
          | no t ↦ elim (dec (is_decision g n)) [
            | yes d ↦ at_decision d ∙ sym (cond_yes (not (is_leaf g n)) (mass n) 0 (not_T (is_leaf g n) t))
            | no d ↦ at_chance (eqb_make (g.kind n) 2 (omega (arith, R.kinds n l, not_kind 0 t, not_kind 1 d))) ∙ sym (cond_yes (not (is_leaf g n)) (mass n) 0 (not_T (is_leaf g n) t))
          ]
        ]
      where
        not_kind : (k : ℕ) → ¬ T (eqb (g.kind n) k) → ¬ (g.kind n ≡ k)
        not_kind k d e = d (eqb_make (g.kind n) k e)

  -- the root's mass
  mass_root : mass 0 ≡ g.root_weight * ((q one).denominator * (q two).denominator)
  unfolding mass weight_at
  mass_root = rw (R.root.2, own_root g one, own_root g two, weight_empty (q one), weight_empty (q two))

  -- over the leaves, chance weight × the two plans' weights adds up to D0 × D1 × D2
  pub flow : total_to g.nodes (λ n. only (is_leaf g n) (mass n)) ≡ g.root_weight * ((q one).denominator * (q two).denominator)
  unfolding handed_on
  flow =
      let N = g.nodes in
      let leaves = total_to N (λ n. only (is_leaf g n) (mass n)) in
      let inner = total_to N (λ n. only (not (is_leaf g n)) (mass n)) in
      let hung = total_to N (λ n. only (ltb 0 n) (mass n)) in
      let a : leaves + inner ≡ total_to N mass = count_split N (is_leaf g) mass in
      let b : hung + total_to N (λ n. only (not (ltb 0 n)) (mass n)) ≡ total_to N mass = count_split N (ltb 0) mass in
      let c : total_to N (λ n. only (not (ltb 0 n)) (mass n)) ≡ mass 0 = count_one N (λ n. only (not (ltb 0 n)) (mass n)) 0 R.some_node (λ i l d. cond_no (not (ltb 0 i)) (mass i) 0 (λ t. T_not (ltb 0 i) t (lt→ltb 0 i (omega arith)))) in
      let d : hung ≡ inner =
      count_key N N g.parent (λ n. only (ltb 0 n) (mass n)) (parent_in g R)
      ∙ count_cong N _ _ (λ k l. count_cong N _ _ (λ n v. only_swap (eqb (g.parent n) k) (ltb 0 n) (mass n)) ∙ at_node k l) in
      omega (arith, a, b, c, d, mass_root)
