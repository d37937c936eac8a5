-- The two equations of worth, without any bound on steps.
use Prim.Native.Nat.{ℕ, zero, suc, pred, ◌+◌, ◌≤◌, ◌<◌}
use mathlib.Core.Path.{◌≡◌, refl, sym, ap}
use native.Mathlib.Omega.{arith}
use lib.ListN.{length}
use lib.Dec.{T}
use mir.Facts.{and_yes}
use lib.IntN.{ℤ, pos, ◌+ℤ◌}
use Rattle.algebra.specs.Bounded.{sum_where, max_through}
use Rattle.algebra.proofs.Searches.{max_through_cong}
use Rattle.algebra.proofs.Sums.{where_cong, where_none}
use Rattle.model.specs.Game.{Game, Player, owns, is_leaf}
use Rattle.model.specs.Sequences.{Sequence, extended, same, own_sequence_of, leading}
use Rattle.model.specs.Plan.{RealizationPlan}
use Rattle.model.specs.BestResponse.{leads_to, greatest_worth, leaves_worth, worth_in, worth, set_worth}
use Rattle.model.specs.Rules.{GameRules}
use Rattle.model.proofs.Sequences.{same→eq, extended_length}
use Rattle.model.proofs.Tree.{own_length, leading_length}

-- what it says that a sequence leads to a set
pub leads_parts : (g : Game) (p : Player) (s : Sequence) (h : ℕ) → T (leads_to g p s h) → T (owns g p h) × (leading g h ≡ s)
unfolding leads_to
leads_parts g p s h t =
    let a = and_yes (owns g p h) (same (leading g h) s) t in
    (a.0, same→eq (leading g h) s a.1)

-- a set's worth goes by the worths of its moves
pub greatest_cong : (g : Game) (f k : Sequence → ℤ) (h : ℕ) → ((m : ℕ) → f (extended (leading g h) h m) ≡ k (extended (leading g h) h m)) → greatest_worth g f h ≡ greatest_worth g k h
unfolding greatest_worth
greatest_cong g f k h e = max_through_cong (pred (g.set_moves h)) _ _ (λ m l. e m)

module _ (g : Game) (R : GameRules g) (p : Player) (y : RealizationPlan) where
  -- no leaf stands at a sequence that has as many moves as there are nodes
  no_leaf : (s : Sequence) → g.nodes ≤ length s → leaves_worth g p y s ≡ pos 0
  unfolding leaves_worth
  no_leaf s l =
      where_none g.nodes _ _ (λ n b t.
      let e : length (own_sequence_of g p n) ≡ length s = ap {B = ℕ} length (same→eq (own_sequence_of g p n) s (and_yes (is_leaf g n) (same (own_sequence_of g p n) s) t).1) in
      omega (arith, own_length g R p n b))

  -- nor does it lead to a set
  no_set : (s : Sequence) → g.nodes ≤ length s → (h : ℕ) → h < g.sets → ¬ T (leads_to g p s h)
  no_set s l h b t =
      let e : length (leading g h) ≡ length s = ap {B = ℕ} length (leads_parts g p s h t).1 in
      omega (arith, leading_length g R h b)

  -- once the steps are enough, one more changes nothing
  stable : (k : ℕ) (s : Sequence) → g.nodes ≤ k + length s → worth_in g p y (suc k) s ≡ worth_in g p y k s
  unfolding worth_in
  stable zero s l = rw (no_leaf s (omega arith), where_none g.sets (leads_to g p s) (greatest_worth g (λ r. pos 0)) (no_set s (omega arith)))
  stable (suc k) s l =
      ap (λ (z : ℤ). leaves_worth g p y s +ℤ z)
      (where_cong g.sets (leads_to g p s) _ _ (λ h b t.
      let e : length (leading g h) ≡ length s = ap {B = ℕ} length (leads_parts g p s h t).1 in
      greatest_cong g (worth_in g p y (suc k)) (worth_in g p y k) h (λ m. stable k (extended (leading g h) h m) (omega (arith, extended_length (leading g h) h m)))))

  -- "a sequence is worth the .. leaves at that very sequence, plus the worth of each own set it leads to"
  pub worth_sequence : (s : Sequence) → worth g p y s ≡ leaves_worth g p y s +ℤ sum_where g.sets (leads_to g p s) (set_worth g p y)
  unfolding worth set_worth worth_in
  worth_sequence s = sym (stable g.nodes s (omega arith))

-- "A set is worth its worthiest move."
pub worth_set : (g : Game) (p : Player) (y : RealizationPlan) (h : ℕ) → set_worth g p y h ≡ max_through (pred (g.set_moves h)) (λ m. worth g p y (extended (leading g h) h m))
unfolding set_worth greatest_worth
worth_set g p y h = refl
