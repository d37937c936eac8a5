-- Perfect recall by last own moves: two nodes of a set have the same own sequence where only its last move, or its number, is compared.
use Prim.Native.Nat.{ℕ, zero, suc, ◌<◌}
use mathlib.Core.Path.{◌≡◌, refl, sym, ap, ◌∙◌, subst}
use mathlib.Core.Logic.{◌↔◌}
use mathlib.Core.List.{List, [], ◌∷◌}
use native.Mathlib.Omega.{arith}
use lib.Dec.{T, eqb}
use mir.Facts.{yes_and}
use Rattle.algebra.proofs.Tests.{dec, cond_yes, cond_no, eqb_make}
use Rattle.model.specs.Game.{Game, Player, owns, is_decision, in_set, node_moves}
use Rattle.model.specs.Sequences.{Move, Sequence, extended, by_last_move, acts, own_sequence_of, sequence_number}
use Rattle.model.proofs.Sequences.{by_last_move_extended, number_empty, number_extended}
use Rattle.model.proofs.Tree.{owner, acts_parts, decision_kind, decision_moves, own_root, own_step}
use Rattle.model.proofs.Numbers.{number_move, number_positive}

-- a sequence's last move, as a list of at most one
unfoldable pub last_move : Sequence → List Move
last_move s = by_last_move [] (λ (x : Move). x ∷ []) s

-- any two nodes of one set agree on this of their own sequences
abbrev pub AgreeOn : {A : Type 0} → Game → (Player → Sequence → A) → Type 0
AgreeOn g of = (h n m : ℕ) → h < g.sets → n < g.nodes → m < g.nodes → T (in_set g h n) → T (in_set g h m) → of (g.set_player h) (own_sequence_of g (g.set_player h) n) ≡ of (g.set_player h) (own_sequence_of g (g.set_player h) m)

-- What a game has once checks 1 to 12 hold, as far as it matters here.
module _ (g : Game)
    (parents : (n : ℕ) → suc n < g.nodes → g.parent (suc n) < suc n)
    (at_move : (n : ℕ) → suc n < g.nodes → g.move (suc n) < node_moves g (g.parent (suc n)))
    (decision_set : (n : ℕ) → n < g.nodes → g.kind n ≡ 1 → g.node_set n < g.sets) where
  -- node n's own sequence ends in a move at node `node`, which comes before n
  record EndsAt (p : Player) (n : ℕ) : Type 0 where
    node : ℕ
    move : ℕ
    before : node < n
    here : T (acts g p node)
    legal : move < g.set_moves (g.node_set node)
    is : own_sequence_of g p n ≡ extended (own_sequence_of g p node) (g.node_set node) move

  -- an own sequence is empty or ends at an earlier node, for nodes below a bound
  ends_below : (p : Player) (k n : ℕ) → n < k → n < g.nodes → ¬ (own_sequence_of g p n ≡ []) → EndsAt p n
  ends_below p zero n b l d = absurd (omega arith)
  ends_below p (suc k) zero b l d = absurd (d (own_root g p))
  ends_below p (suc k) (suc n) b l d =
      let up = g.parent (suc n) in
      elim (dec (acts g p up)) [
        | yes t ↦ record {
          node = up;
          move = g.move (suc n);
          before = parents n l;
          here = t;
          legal = omega (arith, decision_moves g up (acts_parts g p up t).0, at_move n l);
          is = own_step g parents p n l ∙ cond_yes {A = Sequence} (acts g p up) _ _ t;
        }
        | no t ↦ further (own_step g parents p n l ∙ cond_no {A = Sequence} (acts g p up) _ _ t) (λ z. ends_below p k up (omega (arith, parents n l)) (omega (arith, parents n l)) z)
      ]
    where
      -- the same end, seen from a node whose own sequence is its parent's
      further : own_sequence_of g p (suc n) ≡ own_sequence_of g p (g.parent (suc n)) → (¬ (own_sequence_of g p (g.parent (suc n)) ≡ []) → EndsAt p (g.parent (suc n))) → EndsAt p (suc n)
      further e earlier =
          let r = earlier (λ z. d (e ∙ z)) in
          record { node = r.node; move = r.move; before = omega (arith, r.before, parents n l); here = r.here; legal = r.legal; is = e ∙ r.is }

  -- whether an own sequence is empty
  empty_or_not : (s : Sequence) → Dec (s ≡ [])
  empty_or_not [] = yes refl
  empty_or_not (x ∷ s) = no (λ e. let z : ◌≡◌ {A = ℕ} 1 0 = ap code e in omega arith)
    where
      code : Sequence → ℕ
      code [] = 0
      code (x ∷ s) = 1

  -- Some key of a sequence that tells apart the empty one and moves of a player's sets.
  module _ {A : Type 0} (key : Player → Sequence → A)
      (apart : (p : Player) (s : Sequence) (h m : ℕ) → ¬ (key p [] ≡ key p (extended s h m)))
      (tells : (p : Player) (s t : Sequence) (h m k n : ℕ) → T (owns g p h) → T (owns g p k) → m < g.set_moves h → n < g.set_moves k → key p (extended s h m) ≡ key p (extended t k n) → (h ≡ k) × (m ≡ n)) where
    module _ (agree : AgreeOn g key) where
      -- decisions of one set agree on the key of its player's own sequence
      at_decisions : (p : Player) (a b : ℕ) → a < g.nodes → b < g.nodes → T (acts g p a) → T (acts g p b) → g.node_set a ≡ g.node_set b → key p (own_sequence_of g p a) ≡ key p (own_sequence_of g p b)
      unfolding in_set
      at_decisions p a b la lb ta tb e =
          let h = g.node_set a in
          let u = acts_parts g p a ta in
          let v = acts_parts g p b tb in
          subst (λ (r : Player). key r (own_sequence_of g r a) ≡ key r (own_sequence_of g r b)) (owner g p h u.1)
          (agree h a b (decision_set a la (decision_kind g a u.0)) la lb
          (yes_and (is_decision g a) (eqb (g.node_set a) h) u.0 (eqb_make (g.node_set a) h refl))
          (yes_and (is_decision g b) (eqb (g.node_set b) h) v.0 (eqb_make (g.node_set b) h (sym e))))

      -- nodes that agree on the key have the same own sequence
      same_below : (p : Player) (k n m : ℕ) → n < k → n < g.nodes → m < g.nodes → key p (own_sequence_of g p n) ≡ key p (own_sequence_of g p m) → own_sequence_of g p n ≡ own_sequence_of g p m
      same_below p zero n m b ln lm e = absurd (omega arith)
      same_below p (suc k) n m b ln lm e =
          elim (empty_or_not (own_sequence_of g p n)) [
            | yes z ↦ elim (empty_or_not (own_sequence_of g p m)) [
              | yes y ↦ z ∙ sym y
              | no y ↦ let M = ends_below p (suc m) m (omega arith) lm y in
                  absurd (apart p (own_sequence_of g p M.node) (g.node_set M.node) M.move (ap (key p) (sym z) ∙ e ∙ ap (key p) M.is))
            ]
            | no z ↦ let N = ends_below p (suc n) n (omega arith) ln z in
                elim (empty_or_not (own_sequence_of g p m)) [
                  | yes y ↦ absurd (apart p (own_sequence_of g p N.node) (g.node_set N.node) N.move (ap (key p) (sym y) ∙ sym e ∙ ap (key p) N.is))
                  | no y ↦ both N (ends_below p (suc m) m (omega arith) lm y) (λ a c u v w r. same_below p k a c u v w r)
                ]
          ]
        where
          both : EndsAt p n → EndsAt p m → ((a c : ℕ) → a < k → a < g.nodes → c < g.nodes → key p (own_sequence_of g p a) ≡ key p (own_sequence_of g p c) → own_sequence_of g p a ≡ own_sequence_of g p c) → own_sequence_of g p n ≡ own_sequence_of g p m
          both N M earlier =
              let a = N.node in
              let c = M.node in
              let t = tells p (own_sequence_of g p a) (own_sequence_of g p c) (g.node_set a) N.move (g.node_set c) M.move (acts_parts g p a N.here).1 (acts_parts g p c M.here).1 N.legal M.legal (ap (key p) (sym N.is) ∙ e ∙ ap (key p) M.is) in
              let r = earlier a c (omega (arith, N.before)) (omega (arith, N.before)) (omega (arith, M.before)) (at_decisions p a c (omega (arith, N.before)) (omega (arith, M.before)) N.here M.here t.0) in
              N.is ∙ (λ i. extended (r i) (t.0 i) (t.1 i)) ∙ sym M.is

    -- sets agree on own sequences exactly when they agree on the key
    recall_by_key : AgreeOn g (λ p s. s) ↔ AgreeOn g key
    recall_by_key = (
      λ a h n m lh ln lm tn tm. ap (key (g.set_player h)) (a h n m lh ln lm tn tm),
      λ a h n m lh ln lm tn tm. same_below a (g.set_player h) (suc n) n m (omega arith) ln lm (a h n m lh ln lm tn tm),
    )

  -- perfect recall holds exactly when, in every set, all nodes have the same last own move
  pub recall_by_last : AgreeOn g (λ p s. s) ↔ AgreeOn g (λ p s. last_move s)
  unfolding last_move by_last_move
  recall_by_last =
      recall_by_key (λ p s. last_move s)
      (λ p s h m e. let z : ◌≡◌ {A = ℕ} 0 1 = ap code (e ∙ last s h m) in omega arith)
      (λ p s t h m k n oh ok lm ln e. let x = sym (last s h m) ∙ e ∙ last t k n in (ap set x, ap move x))
    where
      last : (s : Sequence) (h m : ℕ) → last_move (extended s h m) ≡ (h, m) ∷ []
      last s h m = by_last_move_extended {A = List Move} [] (λ (x : Move). x ∷ []) s h m

      code : List Move → ℕ
      code [] = 0
      code (x ∷ l) = 1

      set : List Move → ℕ
      set [] = 0
      set (x ∷ l) = x.0

      move : List Move → ℕ
      move [] = 0
      move (x ∷ l) = x.1

  -- and exactly when all have the same own sequence number, so that code may go by numbers
  pub recall_by_number : AgreeOn g (λ p s. s) ↔ AgreeOn g (sequence_number g)
  recall_by_number =
      recall_by_key (sequence_number g)
      (λ p s h m e. number_positive g p h m (sym (sym (number_empty g p) ∙ e ∙ number_extended g p s h m)))
      (λ p s t h m k n oh ok lm ln e. number_move g p h m k n oh ok lm ln (sym (number_extended g p s h m) ∙ e ∙ number_extended g p t k n))
