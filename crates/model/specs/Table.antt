-- Document 01, "Sequence form": the payoff table.
use Rattle.std.specs.Prelude.{ℕ, Bool, ◌&&◌, cond, List, [], ◌∷◌, eqb, ℤ, pos, ◌*ℤ◌}
use Rattle.algebra.specs.Bounded.{sum_where, any_to, join_to}
use Rattle.model.specs.Game.{Game, Player, one, two, is_leaf}
use Rattle.model.specs.Sequences.{own_sequence_of, sequence_number, sequence_count}

-- "The row holds both numbers and, per player, the sum"
pub record TableRow : Type 0 where
  pub sequence1 : ℕ
  pub sequence2 : ℕ
  pub sum1 : ℤ
  pub sum2 : ℤ

module _ (g : Game) where
  -- the number of p's own sequence to node n
  unfoldable pub own_number : Player → ℕ → ℕ
  own_number p n = sequence_number g p (own_sequence_of g p n)

  -- leaf n stands at the pair of sequences s and t
  unfoldable pub stands_at : (s t n : ℕ) → Bool
  stands_at s t n = is_leaf g n && eqb (own_number one n) s && eqb (own_number two n) t

  -- chance weight × p's payoff at node n
  unfoldable pub weighted_payoff : Player → ℕ → ℤ
  weighted_payoff p n = pos (g.weight n) *ℤ g.payoff p n

  -- "the sum of chance weight × payoff over the leaves of that pair"
  -- "Document 003 gives one leaf per pair and is silent on chance; the sum decides."
  unfoldable pub pair_sum : Player → (s t : ℕ) → ℤ
  pair_sum p s t = sum_where g.nodes (stands_at s t) (weighted_payoff p)

  -- the row of sequences s and t
  unfoldable pub row_at : (s t : ℕ) → List TableRow
  row_at s t = record { sequence1 = s; sequence2 = t; sum1 = pair_sum one s t; sum2 = pair_sum two s t } ∷ []

  -- "one row for each pair of sequences at which some leaf stands"; a row whose sums are 0 stays
  unfoldable pub rows_at : (s t : ℕ) → List TableRow
  rows_at s t = cond (any_to g.nodes (stands_at s t)) (row_at s t) []

  -- "sorted by player 1's sequence, then player 2's"
  unfoldable pub payoff_table : List TableRow
  payoff_table = join_to (sequence_count g one) (λ s. join_to (sequence_count g two) (rows_at s))

-- To unfold this is to unfold all of this file: for closed computation.
unfoldable pub opened : Unit {0}
unfolding own_number stands_at weighted_payoff pair_sum row_at rows_at payoff_table
opened = tt
