-- Numbers by sequence, filled set by set in the order of first nodes: what is read of the sequence that leads to a set, and each set's part.
use Prim.Native.Nat.{ℕ, ◌+◌, ◌-◌, ◌≤◌, ◌<◌}
use mathlib.Core.Path.{◌≡◌, refl, sym, ap, ◌∙◌, subst}
use mathlib.Core.List.{List, []}
use native.Mathlib.Omega.{arith}
use native.Mathlib.Decide.{ℕ_discrete}
use lib.ListN.{length}
use lib.Dec.{T}
use Rattle.algebra.specs.Arrays.{item}
use Rattle.algebra.specs.Sections.{Held, Apart}
use Rattle.model.specs.Game.{Game, Player, owns, moves_before}
use Rattle.model.specs.Sequences.{Sequence, extended, leading, move_number, sequence_number, leading_number, sequence_count}
use Rattle.model.specs.Rules.{GameRules}
use Rattle.model.proofs.Numbers.{number_move}
use Rattle.model.proofs.Sequences.{number_empty, number_extended}
use Rattle.model.proofs.Tree.{IsSequence, empty, after, owner, leading_sequence}
use Rattle.loaded.specs.Sets.{first_sequence, set_order}
use Rattle.loaded.specs.InOrder.{InOrder}
use Rattle.loaded.proofs.Owners.{own_start}
use Rattle.loaded.proofs.SetOrder.{order_long, order_has, order_set, order_once, order_after}

module _ (g : Game) (R : GameRules g) (p : Player) (f : Sequence → ℕ) where
  -- nothing but the empty sequence's
  pub order_none : {l : List ℕ} → sequence_count g p ≤ length l → item l 0 ≡ f [] → InOrder g p f 0 l
  order_none b e = record { long = b; empty = e; moves = λ i m v. absurd (omega arith) }

  module _ {n : ℕ} {l : List ℕ} (v : n < g.sets) (K : InOrder g p f n l) where
    -- the set that comes next
    abbrev next : ℕ
    next = item (set_order g) n

    -- it is the other player's
    pub order_skip : ¬ T (owns g p next) → InOrder g p f (n + 1) l
    order_skip not_his = record { long = K.long; empty = K.empty; moves = more }
      where
        more : (i m : ℕ) → i < n + 1 → T (owns g p (item (set_order g) i)) → m < g.set_moves (item (set_order g) i) → item l (move_number g p (item (set_order g) i, m)) ≡ f (extended (leading g (item (set_order g) i)) (item (set_order g) i) m)
        more i m b o u =
            elim (ℕ_discrete i n) [
              | yes e ↦ absurd (not_his (subst (λ (j : ℕ). T (owns g p (item (set_order g) j))) e o))
              | no e ↦ K.moves i m (omega arith) o u
            ]

    module _ (o : T (owns g p next)) where
      next_in : next < g.sets
      next_in = order_set g R n v

      -- the sequence that leads to it has its number already
      pub order_lead : item l (leading_number g next) ≡ f (leading g next)
      unfolding leading_number
      order_lead = ap (λ (r : Player). item l (sequence_number g r (leading g next))) (owner g p next o) ∙ go (leading g next) refl (leading_sequence g R p next next_in o)
        where
          go : (s : Sequence) → leading g next ≡ s → IsSequence g p s → item l (sequence_number g p s) ≡ f s
          go s e empty = ap (item l) (number_empty g p) ∙ K.empty
          go s e (after {h = h} {m = m} b q u) =
              let place = order_has g R h b in
              let i = place.0 in
              let at : item (set_order g) i ≡ h = place.2 in
              let less = order_after g R p h m next i n next_in o e (omega (arith, order_long g R, place.1)) at refl in
              ap (item l) (number_extended g p (leading g h) h m)
              ∙ subst (λ (k : ℕ). item l (move_number g p (k, m)) ≡ f (extended (leading g k) k m)) at (K.moves i m less (subst (λ (k : ℕ). T (owns g p k)) (sym at) q) (subst (λ (k : ℕ). m < g.set_moves k) (sym at) u))

      -- its moves are filled, and nothing else is changed
      pub order_more : {k : ℕ} {after_l : List ℕ} → k ≡ first_sequence g next → Held k (λ m. f (extended (leading g next) next m)) (g.set_moves next) after_l → Apart k (k + g.set_moves next) l after_l → InOrder g p f (n + 1) after_l
      unfolding move_number
      order_more {k} {after_l} e held apart = record {
        long = omega (arith, K.long, apart.long);
        empty = apart.same 0 0 (λ a b. omega (arith, start)) ∙ K.empty;
        moves = more;
      }
        where
          start : k ≡ 1 + moves_before g p next
          start = e ∙ own_start g p next o

          other : (i m : ℕ) → i < n → T (owns g p (item (set_order g) i)) → m < g.set_moves (item (set_order g) i) → k ≤ move_number g p (item (set_order g) i, m) → move_number g p (item (set_order g) i, m) < k + g.set_moves next → ⊥
          other i m b q u low high =
              let h = item (set_order g) i in
              let same : move_number g p (h, m) ≡ move_number g p (next, moves_before g p h + m - moves_before g p next) = omega (arith, start) in
              order_once g R i n b v (number_move g p h m next (moves_before g p h + m - moves_before g p next) q o u (omega (arith, start)) same).0

          more : (i m : ℕ) → i < n + 1 → T (owns g p (item (set_order g) i)) → m < g.set_moves (item (set_order g) i) → item after_l (move_number g p (item (set_order g) i, m)) ≡ f (extended (leading g (item (set_order g) i)) (item (set_order g) i) m)
          more i m b q u =
              elim (ℕ_discrete i n) [
                | yes c ↦ subst (λ (j : ℕ). m < g.set_moves (item (set_order g) j) → item after_l (move_number g p (item (set_order g) j, m)) ≡ f (extended (leading g (item (set_order g) j)) (item (set_order g) j) m)) (sym c) (λ w. ap (λ (j : ℕ). item after_l (j + m)) (sym start) ∙ held.at 0 m w) u
                | no c ↦ apart.same 0 (move_number g p (item (set_order g) i, m)) (other i m (omega arith) q u) ∙ K.moves i m (omega arith) q u
              ]

  -- at the end every sequence has its number
  pub order_all : {l : List ℕ} → InOrder g p f g.sets l → (s : Sequence) → IsSequence g p s → item l (sequence_number g p s) ≡ f s
  order_all {l} K s empty = ap (item l) (number_empty g p) ∙ K.empty
  order_all {l} K s (after {h = h} {m = m} b q u) =
      let place = order_has g R h b in
      let i = place.0 in
      let at : item (set_order g) i ≡ h = place.2 in
      ap (item l) (number_extended g p (leading g h) h m)
      ∙ subst (λ (k : ℕ). item l (move_number g p (k, m)) ≡ f (extended (leading g k) k m)) at (K.moves i m (omega (arith, order_long g R, place.1)) (subst (λ (k : ℕ). T (owns g p k)) (sym at) q) (subst (λ (k : ℕ). m < g.set_moves k) (sym at) u))
