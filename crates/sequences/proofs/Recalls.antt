-- Check 13 by numbers: each decision has the own number of the sequence that leads to its set.
use Prim.Native.Nat.{ℕ, ◌<◌}
use mathlib.Core.Path.{◌≡◌, refl, sym, ◌∙◌}
use mathlib.Core.Bool.{true}
use lib.Dec.{T, eqb, eqb→eq}
use mir.Facts.{and_yes, yes_and}
use Rattle.algebra.specs.Bounded.{all_to, implies}
use Rattle.algebra.proofs.Tests.{bool_same, T→true, not→false, implies_use, implies_make, eqb_make}
use Rattle.algebra.proofs.Searches.{all_to_at, all_to_make, first_to_found}
use Rattle.model.specs.Game.{Game, is_decision, in_set}
use Rattle.model.specs.Sequences.{first_node, leading, leading_number, sequence_number}
use Rattle.model.specs.Table.{own_number}
use Rattle.model.specs.GameChecks.{perfect_recall_of}
use Rattle.model.proofs.Tree.{decision_kind}
use Rattle.model.proofs.Recall.{AgreeOn, recall_by_number}
use Rattle.model.proofs.GameRules.{recall_iff}
use Rattle.loaded.specs.Rooted.{Rooted}
use Rattle.sequences.specs.Recall.{recall_test}
use Rattle.sequences.proofs.Nodes.{Decision}

-- the test of a node that is no decision passes
pub recall_none : (g : Game) (n : ℕ) → ¬ T (is_decision g n) → true ≡ recall_test g n
unfolding recall_test implies
recall_none g n d = rw (not→false (is_decision g n) d)

-- and that of a decision compares the numbers
pub recall_here : (g : Game) {n h own lead : ℕ} → Decision g n h → own ≡ own_number g (g.set_player h) n → lead ≡ leading_number g h → eqb own lead ≡ recall_test g n
unfolding recall_test implies
recall_here g {n} D e f = rw (e, f, T→true (is_decision g n) D.is, D.set)

module _ (g : Game) where
  -- a decision is in its set
  in_own_set : (n : ℕ) → T (is_decision g n) → T (in_set g (g.node_set n) n)
  unfolding in_set
  in_own_set n d = yes_and (is_decision g n) (eqb (g.node_set n) (g.node_set n)) d (eqb_make (g.node_set n) (g.node_set n) refl)

  -- where a set's nodes agree, each passes
  agreed : Rooted g → AgreeOn g (sequence_number g) → (n : ℕ) → n < g.nodes → T (recall_test g n)
  unfolding recall_test own_number leading_number leading first_node
  agreed R agree n l = implies_make (is_decision g n) _ (λ d.
      let h = g.node_set n in
      let f = first_to_found g.nodes (in_set g h) n l (in_own_set n d) in
      eqb_make _ _ (agree h n (first_node g h) (R.decision_set n l (decision_kind g n d)) l f.1 (in_own_set n d) f.0))

  -- where each passes, a set's nodes agree
  agree : ((n : ℕ) → n < g.nodes → T (recall_test g n)) → AgreeOn g (sequence_number g)
  unfolding recall_test own_number in_set
  agree pass h n m lh ln lm tn tm = to_lead n ln tn ∙ sym (to_lead m lm tm)
    where
      to_lead : (k : ℕ) → k < g.nodes → T (in_set g h k) → own_number g (g.set_player h) k ≡ leading_number g h
      to_lead k l t =
          let a = and_yes (is_decision g k) (eqb (g.node_set k) h) t in
          let e = eqb→eq (g.node_set k) h a.1 in
          rw e at (eqb→eq (own_number g (g.set_player (g.node_set k)) k) (leading_number g (g.node_set k)) (implies_use (is_decision g k) _ (pass k l) a.0))

  -- check 13 is the test of each node
  pub recall_by_tests : Rooted g → perfect_recall_of g ≡ all_to g.nodes (recall_test g)
  recall_by_tests R =
      let by_number = recall_by_number g R.parents R.at_move R.decision_set in
      bool_same _ _
      (λ t. all_to_make g.nodes (recall_test g) (agreed R (by_number.0 ((recall_iff g).holds t))))
      (λ t. (recall_iff g).passes (by_number.1 (agree (all_to_at g.nodes (recall_test g) t))))
