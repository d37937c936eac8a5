-- The rows of the payoff table: one for each pair of sequences at which some leaf stands, sorted, with the sums of that pair.
use Prim.Native.Nat.{ℕ, ◌<◌}
use mathlib.Core.Path.{◌≡◌, refl, sym, ◌∙◌, subst}
use mathlib.Core.Logic.{◌↔◌, inl, inr}
use mathlib.Core.Bool.{Bool, true, false, cond}
use mathlib.Core.List.{[]}
use native.Mathlib.Omega.{arith}
use lib.Dec.{T}
use lib.ListN.{length}
use lib.IntN.{pos}
use Rattle.algebra.specs.Bounded.{any_to, join_to}
use Rattle.algebra.proofs.Tests.{cond_yes}
use Rattle.algebra.proofs.Searches.{any_to_find, any_to_make}
use Rattle.algebra.proofs.Sorted.{All, all_at, all_map, all_join, Some, some_join, Sorted, sorted_at, sorted_join}
use Rattle.model.specs.Game.{Game, Player, one, two}
use Rattle.model.specs.Sequences.{sequence_count}
use Rattle.model.specs.Table.{TableRow, stands_at, pair_sum, row_at, rows_at, payoff_table}
use Rattle.model.specs.Rules.{GameRules}
use Rattle.model.specs.Demand2.{sum_of, table_row, HasRow, HasLeaf, Before}
use Rattle.model.proofs.Numbers.{own_number_below}
use Rattle.model.proofs.Table.{stands_parts, stands_make}

-- what is past the table's end
abbrev no_row : TableRow
no_row = record { sequence1 = 0; sequence2 = 0; sum1 = pos 0; sum2 = pos 0 }

-- the row of sequences s and t
abbrev IsAt : (s t : ℕ) → TableRow → Type 0
IsAt s t r = (r.sequence1 ≡ s) × (r.sequence2 ≡ t)

module _ (g : Game) where
  -- what is true of a row
  record Right (r : TableRow) : Type 0 where
    leaf : HasLeaf g r.sequence1 r.sequence2
    sums : (p : Player) → sum_of p r ≡ pair_sum g p r.sequence1 r.sequence2

  -- the rows of one pair of sequences: one, or none
  pair_at : (s t : ℕ) → All (IsAt s t) (rows_at g s t)
  unfolding rows_at row_at
  pair_at s t = go (any_to g.nodes (stands_at g s t))
    where
      go : (b : Bool) → All (IsAt s t) (cond b (row_at g s t) [])
      go true = ((refl, refl), tt)
      go false = tt

  pair_sorted : (s t : ℕ) → Sorted Before (rows_at g s t)
  unfolding rows_at row_at
  pair_sorted s t = go (any_to g.nodes (stands_at g s t))
    where
      go : (b : Bool) → Sorted Before (cond b (row_at g s t) [])
      go true = (tt, tt)
      go false = tt

  pair_right : (s t : ℕ) → All Right (rows_at g s t)
  unfolding rows_at row_at
  pair_right s t = go (any_to g.nodes (stands_at g s t)) (any_to_find g.nodes (stands_at g s t))
    where
      sum : (p : Player) → sum_of p (record { sequence1 = s; sequence2 = t; sum1 = pair_sum g one s t; sum2 = pair_sum g two s t }) ≡ pair_sum g p s t
      sum one = refl
      sum two = refl

      go : (b : Bool) → (T b → (n : ℕ) × (n < g.nodes) × T (stands_at g s t n)) → All Right (cond b (row_at g s t) [])
      go true find =
          let (n, l, at) = find tt in
          let (leaf, e, f) = stands_parts g s t n at in
          (record { leaf = (n, l, leaf, e, f); sums = sum }, tt)
      go false find = tt

  pair_has : (s t n : ℕ) → n < g.nodes → T (stands_at g s t n) → Some no_row (IsAt s t) (rows_at g s t)
  unfolding rows_at row_at
  pair_has s t n l at = subst (Some no_row (IsAt s t)) (sym (cond_yes (any_to g.nodes (stands_at g s t)) (row_at g s t) [] (any_to_make g.nodes (stands_at g s t) n l at))) (0, omega arith, (refl, refl))

  -- the whole table
  all_right : All Right (payoff_table g)
  unfolding payoff_table
  all_right = all_join Right (sequence_count g one) _ (λ s l. all_join Right (sequence_count g two) (rows_at g s) (λ t v. pair_right s t))

  all_sorted : Sorted Before (payoff_table g)
  unfolding payoff_table
  all_sorted =
      let first : ℕ → TableRow → Type 0 = λ s r. r.sequence1 ≡ s in
      sorted_join Before first (sequence_count g one) (λ s. join_to (sequence_count g two) (rows_at g s))
      (λ s. all_join (first s) (sequence_count g two) (rows_at g s) (λ t l. all_map (IsAt s t) (first s) (rows_at g s t) (λ r k. k.0) (pair_at s t)))
      (λ s. sorted_join Before (IsAt s) (sequence_count g two) (rows_at g s) (pair_at s) (pair_sorted s) (λ t u x y l a b. inr (a.0 ∙ sym b.0, omega (arith, a.1, b.1))))
      (λ s u x y l a b. inl (omega (arith, a, b)))

  -- "sorted by player 1's sequence, then player 2's"
  pub table_sorted : (i j : ℕ) → i < j → j < length (payoff_table g) → Before (table_row g i) (table_row g j)
  unfolding table_row
  table_sorted = sorted_at Before no_row (payoff_table g) all_sorted

  -- "the sum of chance weight × payoff over the leaves of that pair"
  pub table_sums : (p : Player) (i : ℕ) → i < length (payoff_table g) → sum_of p (table_row g i) ≡ pair_sum g p (table_row g i).sequence1 (table_row g i).sequence2
  unfolding table_row
  table_sums p i l = (all_at Right no_row (payoff_table g) all_right i l).sums p

  -- a row has its leaf
  row_leaf : (s t : ℕ) → HasRow g s t → HasLeaf g s t
  unfolding table_row
  row_leaf s t has =
      let (i, l, e, f) = has in
      let (n, v, leaf, a, b) = (all_at Right no_row (payoff_table g) all_right i l).leaf in
      (n, v, leaf, a ∙ e, b ∙ f)

  -- a leaf has its row
  leaf_row : GameRules g → (s t : ℕ) → HasLeaf g s t → HasRow g s t
  unfolding table_row payoff_table
  leaf_row R s t has =
      let (n, l, leaf, e, f) = has in
      let (i, v, at) = some_join no_row (IsAt s t) (sequence_count g one) (λ s. join_to (sequence_count g two) (rows_at g s)) s (subst (λ (k : ℕ). k < sequence_count g one) e (own_number_below g R one n l)) (some_join no_row (IsAt s t) (sequence_count g two) (rows_at g s) t (subst (λ (k : ℕ). k < sequence_count g two) f (own_number_below g R two n l)) (pair_has s t n l (stands_make g s t n leaf e f))) in
      (i, v, at.0, at.1)

  -- "one row for each pair of sequences at which some leaf stands"
  pub table_rows : GameRules g → (s t : ℕ) → HasRow g s t ↔ HasLeaf g s t
  table_rows R s t = (row_leaf s t, leaf_row R s t)
