-- Each number below a player's sequence count is a sequence's, and a set comes after those whose moves lead to it.
use Prim.Native.Nat.{ℕ, zero, suc, ◌+◌, ◌-◌, ◌<◌}
use mathlib.Core.Path.{◌≡◌, sym, ◌∙◌, subst}
use mathlib.Core.Bool.{cond}
use native.Mathlib.Omega.{arith}
use native.Mathlib.Decide.{dec_lt}
use lib.Dec.{T}
use Rattle.algebra.specs.Bounded.{total_to}
use Rattle.algebra.proofs.Tests.{dec, cond_yes, cond_no}
use Rattle.algebra.proofs.Totals.{count_suc}
use Rattle.model.specs.Game.{Game, Player, owns, in_set, moves_before}
use Rattle.model.specs.Sequences.{Sequence, extended, acts, own_sequence_of, first_node, leading, move_number, sequence_number, sequence_count}
use Rattle.model.specs.Rules.{GameRules}
use Rattle.model.proofs.Sequences.{extended_inj, extended_nonempty, number_empty, number_extended}
use Rattle.model.proofs.Tree.{IsSequence, empty, after, owner, own_root, own_step, acts_parts, in_own_set, parent_in, first_in_lem, first_least}

-- a move of one of p's sets below h
pub record MoveBelow (g : Game) (p : Player) (h n : ℕ) : Type 0 where
  pub set : ℕ
  pub move : ℕ
  pub below : set < h
  pub owned : T (owns g p set)
  pub one_of : move < g.set_moves set
  pub is : n ≡ moves_before g p set + move

-- a sequence of p's with this number
pub record SequenceAt (g : Game) (p : Player) (n : ℕ) : Type 0 where
  pub sequence : Sequence
  pub is_sequence : IsSequence g p sequence
  pub numbered : sequence_number g p sequence ≡ n

module _ (g : Game) (p : Player) where
  -- the moves of p's sets have all numbers up to how many they are
  pub move_found : (h n : ℕ) → n < moves_before g p h → MoveBelow g p h n
  unfolding moves_before total_to
  move_found zero n l = absurd (omega arith)
  move_found (suc h) n l =
      elim (dec_lt n (moves_before g p h)) [
        | yes b ↦
            let r = move_found h n b in
            record { set = r.set; move = r.move; below = omega (arith, r.below); owned = r.owned; one_of = r.one_of; is = r.is }
        | no b ↦ elim (dec (owns g p h)) [
          | yes o ↦ record {
            set = h;
            move = n - moves_before g p h;
            below = omega arith;
            owned = o;
            one_of = omega (arith, count_suc h (λ k. cond (owns g p k) (g.set_moves k) 0), cond_yes (owns g p h) (g.set_moves h) 0 o);
            is = omega arith;
          }
          | no o ↦ absurd (omega (arith, count_suc h (λ k. cond (owns g p k) (g.set_moves k) 0), cond_no (owns g p h) (g.set_moves h) 0 o))
        ]
      ]

  -- so each number below the count is that of a sequence
  pub number_found : (n : ℕ) → n < sequence_count g p → SequenceAt g p n
  unfolding sequence_count move_number
  number_found zero l = record { sequence = _; is_sequence = empty; numbered = number_empty g p }
  number_found (suc n) l =
      let r = move_found g.sets n (omega arith) in
      record {
        sequence = extended (leading g r.set) r.set r.move;
        is_sequence = after {h = r.set} {m = r.move} r.below r.owned r.one_of;
        numbered = number_extended g p (leading g r.set) r.set r.move ∙ omega (arith, r.is);
      }

module _ (g : Game) (R : GameRules g) (p : Player) where
  -- where an own sequence ends in a move of set h, a node of h came before; for nodes below a bound
  came_by : (k n : ℕ) (s : Sequence) (h m : ℕ) → n < k → n < g.nodes → own_sequence_of g p n ≡ extended s h m → first_node g h < n
  came_by zero n s h m b l e = absurd (omega arith)
  came_by (suc k) zero s h m b l e = absurd (extended_nonempty s h m (sym e ∙ own_root g p))
  came_by (suc k) (suc n) s h m b l e =
      elim (dec (acts g p up)) [
        | yes t ↦
            let i = extended_inj (own_sequence_of g p up) s (g.node_set up) (g.move (suc n)) h m (sym (own_step g R.parents p n l ∙ cond_yes (acts g p up) _ _ t) ∙ e) in
            let o = in_own_set g R up in_nodes (acts_parts g p up t).0 in
            omega (arith, R.parents n l, first_least g R h up in_nodes (subst (λ (j : ℕ). T (in_set g j up)) i.1 o.1))
        | no t ↦
            let r = came_by k up s h m (omega (arith, R.parents n l)) in_nodes (sym (own_step g R.parents p n l ∙ cond_no (acts g p up) _ _ t) ∙ e) in
            omega (arith, R.parents n l)
      ]
    where
      up : ℕ
      up = g.parent (suc n)

      in_nodes : up < g.nodes
      in_nodes = parent_in g R (suc n) l

  -- the first node of a set comes before that of a set which one of its moves leads to
  pub first_before : (h m k : ℕ) → k < g.sets → T (owns g p k) → leading g k ≡ extended (leading g h) h m → first_node g h < first_node g k
  unfolding leading
  first_before h m k l o e =
      came_by (suc (first_node g k)) (first_node g k) (leading g h) h m (omega arith) (first_in_lem g R k l).1
      (subst (λ (r : Player). own_sequence_of g r (first_node g k) ≡ extended (leading g h) h m) (owner g p k o) e)
