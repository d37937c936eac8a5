-- A player's sequences by their numbers, and the sets that they lead to.
use Prim.Native.Nat.{ℕ, ◌+◌, ◌<◌}
use mathlib.Core.Path.{◌≡◌, sym, ap, ◌∙◌, subst}
use mathlib.Core.List.{[]}
use native.Mathlib.Omega.{arith}
use lib.Dec.{T, eqb, eqb→eq}
use mir.Facts.{and_yes, yes_and}
use Rattle.algebra.proofs.Tests.{bool_same, eqb_make}
use Rattle.model.specs.Game.{Game, Player, owns, moves_before}
use Rattle.model.specs.Sequences.{extended, same, first_node, leading, move_number, sequence_number, leading_number, sequence_count}
use Rattle.model.specs.Plan.{RealizationPlan}
use Rattle.model.specs.BestResponse.{leads_to, worth}
use Rattle.model.specs.Rules.{GameRules}
use Rattle.model.specs.Demand2.{sequence_at}
use Rattle.model.proofs.Sequences.{eq→same, number_empty, number_extended}
use Rattle.model.proofs.Tree.{owner, IsSequence, empty, after, leading_sequence}
use Rattle.model.proofs.Numbers.{number_below, number_same, number_place}
use Rattle.model.proofs.Reached.{number_found, first_before}
use Rattle.model.proofs.Worths.{leads_parts}
use Rattle.loaded.specs.Sets.{first_sequence, lead_by}
use Rattle.responses.specs.Worths.{worth_at}

module _ (g : Game) (p : Player) where
  -- the sequence with a number has that number
  pub at_sequence : (s : ℕ) → s < sequence_count g p → IsSequence g p (sequence_at g p s) × (sequence_number g p (sequence_at g p s) ≡ s)
  at_sequence s l =
      let f = number_found g p s l in
      let e : f.sequence ≡ sequence_at g p s = sym (number_place g p f.sequence f.is_sequence) ∙ ap (sequence_at g p) f.numbered in
      (subst (IsSequence g p) e f.is_sequence, ap (sequence_number g p) (sym e) ∙ f.numbered)

  -- 0 is that of the empty one
  pub at_empty : sequence_at g p 0 ≡ []
  at_empty = ap (sequence_at g p) (sym (number_empty g p)) ∙ number_place g p [] empty

  pub some_sequence : 0 < sequence_count g p
  some_sequence = omega (arith, number_below g p [] empty)

  -- Move m of one of p's sets.
  module _ (h m : ℕ) (l : h < g.sets) (o : T (owns g p h)) (b : m < g.set_moves h) where
    -- its number
    pub move_number_lem : sequence_number g p (extended (leading g h) h m) ≡ first_sequence g h + m
    unfolding first_sequence move_number
    move_number_lem = omega (arith, ap (λ (r : Player). moves_before g r h) (owner g p h o), number_extended g p (leading g h) h m)

    move_is : IsSequence g p (extended (leading g h) h m)
    move_is = after {h = h} {m = m} l o b

    -- is one of his sequences',
    pub move_below : first_sequence g h + m < sequence_count g p
    move_below = omega (arith, move_number_lem, number_below g p (extended (leading g h) h m) move_is)

    -- and leads back to it
    at_move : sequence_at g p (first_sequence g h + m) ≡ extended (leading g h) h m
    at_move = ap (sequence_at g p) (sym move_number_lem) ∙ number_place g p (extended (leading g h) h m) move_is

  -- the number of what leads to one of his sets
  pub lead_number : (h : ℕ) → T (owns g p h) → leading_number g h ≡ sequence_number g p (leading g h)
  unfolding leading_number
  lead_number h o = ap (λ (r : Player). sequence_number g r (leading g h)) (owner g p h o)

  -- what it says that a number leads to a set
  pub led : (s h : ℕ) → T (lead_by g p s h) → T (owns g p h) × (leading_number g h ≡ s)
  unfolding lead_by
  led s h t =
      let a = and_yes (owns g p h) (eqb (leading_number g h) s) t in
      (a.0, eqb→eq (leading_number g h) s a.1)

  pub leads : (s h : ℕ) → T (owns g p h) → leading_number g h ≡ s → T (lead_by g p s h)
  unfolding lead_by
  leads s h o e = yes_and (owns g p h) (eqb (leading_number g h) s) o (eqb_make (leading_number g h) s e)

  module _ (R : GameRules g) where
    -- a number leads to the sets that its sequence does
    pub leads_are : (s : ℕ) → s < sequence_count g p → (h : ℕ) → h < g.sets → lead_by g p s h ≡ leads_to g p (sequence_at g p s) h
    unfolding leads_to
    leads_are s l h b = bool_same (lead_by g p s h) (leads_to g p (sequence_at g p s) h) to from
      where
        to : T (lead_by g p s h) → T (leads_to g p (sequence_at g p s) h)
        to t =
            let a = led s h t in
            let q = at_sequence s l in
            yes_and (owns g p h) (same (leading g h) (sequence_at g p s)) a.0 (eq→same (leading g h) (sequence_at g p s) (number_same g p (leading g h) (sequence_at g p s) (leading_sequence g R p h b a.0) q.0 (sym (lead_number h a.0) ∙ a.1 ∙ sym q.1)))

        from : T (leads_to g p (sequence_at g p s) h) → T (lead_by g p s h)
        from t =
            let a = leads_parts g p (sequence_at g p s) h t in
            leads s h a.0 (lead_number h a.0 ∙ ap (sequence_number g p) a.1 ∙ (at_sequence s l).1)

    -- a set that a move leads to comes after the move's
    pub later : (h m k : ℕ) → h < g.sets → T (owns g p h) → m < g.set_moves h → k < g.sets → T (lead_by g p (first_sequence g h + m) k) → first_node g h < first_node g k
    later h m k l o b v t =
        let a = led (first_sequence g h + m) k t in
        first_before g R p h m k v a.0 (number_same g p (leading g k) (extended (leading g h) h m) (leading_sequence g R p k v a.0) (move_is h m l o b) (sym (lead_number k a.0) ∙ a.1 ∙ sym (move_number_lem h m l o b)))

-- the worth of a move, by its number
pub move_worth_lem : (g : Game) (p : Player) (y : RealizationPlan) (h m : ℕ) → h < g.sets → T (owns g p h) → m < g.set_moves h → worth_at g p y (first_sequence g h + m) ≡ worth g p y (extended (leading g h) h m)
unfolding worth_at
move_worth_lem g p y h m l o b = ap (worth g p y) (at_move g p h m l o b)
