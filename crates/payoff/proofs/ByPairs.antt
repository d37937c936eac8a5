-- The payoff table pair by pair, from leaves that stand in number slices: what the rows from sorted leaves are compared with.
use Prim.Native.Nat.{ℕ, ◌≤◌}
use mathlib.Core.Bool.{Bool, ◌&&◌, cond}
use mathlib.Core.List.{List, [], ◌∷◌}
use lib.Dec.{eqb}
use lib.IntN.{ℤ}
use lib.ListN.{length}
use mir.Syntax.{w64}
use mir.Val.{SFits}
use Rattle.algebra.specs.Arrays.{item}
use Rattle.algebra.specs.Bounded.{sum_where, any_to, join_to}
use Rattle.model.specs.Table.{TableRow}
use Rattle.payoff.specs.Table.{weighed_at}

-- Both players' sequence numbers by place.
module _ (first second : List ℕ) where
  -- the leaf at place k stands at the pair of sequences s and t
  unfoldable pub stands_by : (s t k : ℕ) → Bool
  stands_by s t k = eqb (item first k) s && eqb (item second k) t

  -- the sum over the first n leaves of that pair
  unfoldable pub pair_sum_by : (chance : List ℕ) → (payoffs : List ℤ) → (n s t : ℕ) → ℤ
  pair_sum_by chance payoffs n s t = sum_where n (stands_by s t) (weighed_at chance payoffs)

  module _ (count : ℕ) (chance : List ℕ) (payoffs1 payoffs2 : List ℤ) where
    unfoldable pub row_of : (s t : ℕ) → TableRow
    row_of s t = record { sequence1 = s; sequence2 = t; sum1 = pair_sum_by chance payoffs1 count s t; sum2 = pair_sum_by chance payoffs2 count s t }

    unfoldable pub rows_by : (s t : ℕ) → List TableRow
    rows_by s t = cond (any_to count (stands_by s t)) (row_of s t ∷ []) []

    -- the payoff table over the slices
    unfoldable pub table_by : (sequences1 sequences2 : ℕ) → List TableRow
    table_by sequences1 sequences2 = join_to sequences1 (λ s. join_to sequences2 (rows_by s))

-- What adding up one player's sums needs of the slices: room, and partial sums in an i64.
pub record Addable (count : ℕ) (first second chance : List ℕ) (payoffs : List ℤ) : Type 0 where
  pub chance_long : count ≤ length chance
  pub payoffs_long : count ≤ length payoffs
  pub fit : (n s t : ℕ) → n ≤ count → SFits w64 (pair_sum_by first second chance payoffs n s t)
