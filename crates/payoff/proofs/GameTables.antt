-- The table over a game's leaves is the game's payoff table, and no sum of it leaves its range.
use Prim.Native.Nat.{ℕ, ◌≤◌, ◌<◌}
use mathlib.Core.Path.{◌≡◌, refl, sym, ap, ◌∙◌}
use mathlib.Core.Bool.{Bool, true, false, ◌&&◌}
use mathlib.Core.List.{List}
use native.Mathlib.Omega.{arith}
use lib.Dec.{T, eqb}
use lib.ListN.{length}
use lib.IntN.{ℤ, pos}
use mir.Facts.{and_yes, yes_and}
use Rattle.algebra.specs.Bounded.{sum_to, sum_where, any_to}
use Rattle.algebra.proofs.Tests.{bool_same}
use Rattle.algebra.proofs.Lists.{join_to_cong}
use Rattle.algebra.proofs.Searches.{any_to_find, any_to_make}
use Rattle.algebra.proofs.Sums.{only_z, only_z_and, sum_cong, where_z_is}
use Rattle.algebra.proofs.Elements.{Every, every_where, every_join, Among, among_where, among_join}
use Rattle.model.specs.Limits.{GameLimits}
use Rattle.model.specs.Game.{Game, Player, one, two, is_leaf}
use Rattle.model.specs.Sequences.{sequence_count}
use Rattle.model.specs.Table.{own_number, stands_at, pair_sum, row_at, rows_at, payoff_table, weighted_payoff}
use Rattle.model.proofs.Budget.{table_fits}
use Rattle.loaded.specs.Leaves.{leaf_at, leaves_below, leaves_of, leaf_of, Column, Gathered}
use Rattle.payoff.specs.Table.{weighed_at, Leaves, TableLaid}
use Rattle.payoff.proofs.ByPairs.{stands_by, pair_sum_by, row_of, rows_by, table_by, Addable}
use Rattle.loaded.proofs.LeafSums.{leaves_sum, leaves_prefix, leaf_in}
use Rattle.loaded.proofs.LeafColumns.{player_leaves, of_player}

module _ (g : Game) where
  -- the leaves are leaves
  leaf_is : Every (λ n. T (is_leaf g n)) (leaves_of g)
  unfolding leaves_of leaves_below leaf_at
  leaf_is = every_join (λ n. T (is_leaf g n)) g.nodes (leaf_at g) (λ n l. every_where (λ n. T (is_leaf g n)) (is_leaf g n) n (λ t. t))

  -- and each leaf is one of them
  leaf_among : (n : ℕ) → n < g.nodes → T (is_leaf g n) → Among n (leaves_of g)
  unfolding leaves_of leaves_below leaf_at
  leaf_among n l t = among_join n g.nodes (leaf_at g) n l (among_where (is_leaf g n) n t)

  -- node n stands at the pair, whether or not it is a leaf
  abbrev at_pair : (s t n : ℕ) → Bool
  at_pair s t n = eqb (own_number g one n) s && eqb (own_number g two n) t

  -- a leaf at the pair
  stands_is : (s t n : ℕ) → stands_at g s t n ≡ (is_leaf g n && at_pair s t n)
  unfolding stands_at
  stands_is s t n = and_assoc (is_leaf g n) (eqb (own_number g one n) s) (eqb (own_number g two n) t)
    where
      and_assoc : (a b c : Bool) → (a && b && c) ≡ (a && (b && c))
      and_assoc true b c = refl
      and_assoc false b c = refl

  -- what node n counts at the pair
  abbrev counts : (p : Player) (s t n : ℕ) → ℤ
  counts p s t n = only_z (at_pair s t n) (weighted_payoff g p n)

  leaves_at_lem : (p : Player) (s t m : ℕ) → sum_where m (is_leaf g) (counts p s t) ≡ sum_where m (stands_at g s t) (weighted_payoff g p)
  leaves_at_lem p s t m =
      where_z_is m (is_leaf g) (counts p s t)
      ∙ sum_cong m _ _ (λ n l. only_z_and (is_leaf g n) (at_pair s t n) (weighted_payoff g p n) ∙ ap (λ (b : Bool). only_z b (weighted_payoff g p n)) (sym (stands_is s t n)))
      ∙ sym (where_z_is m (stands_at g s t) (weighted_payoff g p))

  module _ {count : ℕ} {first second chance : List ℕ} {payoffs1 payoffs2 : List ℤ} (L : Gathered g count first second chance payoffs1 payoffs2) where
    -- a place stands at the pair where its leaf does
    place_is : (s t k : ℕ) → k < length (leaves_of g) → stands_by first second s t k ≡ at_pair s t (leaf_of g k)
    unfolding stands_by
    place_is s t k l = rw (L.first_is.at 0 k l, L.second_is.at 0 k l)

    payoff_is : (p : Player) → Column g (g.payoff p) (of_player p payoffs1 payoffs2)
    payoff_is p = (player_leaves g p L).payoffs_is

    -- the first leaves of a pair, added up
    prefix_is : (p : Player) (s t j : ℕ) → j ≤ count → pair_sum_by first second chance (of_player p payoffs1 payoffs2) j s t ≡ sum_to j (λ k. counts p s t (leaf_of g k))
    unfolding pair_sum_by weighed_at weighted_payoff
    prefix_is p s t j l =
        where_z_is j _ _
        ∙ sum_cong j _ _ (λ k v. let u : k < length (leaves_of g) = omega (arith, L.counted) in rw (place_is s t k u, L.chance_is.at 0 k u, (payoff_is p).at (pos 0) k u))

    -- all of them are the model's
    sum_is : (p : Player) (s t : ℕ) → pair_sum_by first second chance (of_player p payoffs1 payoffs2) count s t ≡ pair_sum g p s t
    unfolding pair_sum
    sum_is p s t =
        prefix_is p s t count (omega arith)
        ∙ ap (λ (n : ℕ). sum_to n (λ k. counts p s t (leaf_of g k))) L.counted
        ∙ leaves_sum g (counts p s t)
        ∙ leaves_at_lem p s t g.nodes

    -- some place stands at a pair where some node does
    any_is : (s t : ℕ) → any_to count (stands_by first second s t) ≡ any_to g.nodes (stands_at g s t)
    unfolding leaf_of
    any_is s t = bool_same (any_to count (stands_by first second s t)) (any_to g.nodes (stands_at g s t)) to from
      where
        to : T (any_to count (stands_by first second s t)) → T (any_to g.nodes (stands_at g s t))
        to u =
            let f = any_to_find count (stands_by first second s t) u in
            let k = f.0 in
            let l : k < length (leaves_of g) = omega (arith, f.1, L.counted) in
            any_to_make g.nodes (stands_at g s t) (leaf_of g k) (leaf_in g k l) (rw (stands_is s t (leaf_of g k)) (yes_and (is_leaf g (leaf_of g k)) (at_pair s t (leaf_of g k)) (leaf_is k l) (rw (place_is s t k l) at f.2)))

        from : T (any_to g.nodes (stands_at g s t)) → T (any_to count (stands_by first second s t))
        from u =
            let f = any_to_find g.nodes (stands_at g s t) u in
            let h = and_yes (is_leaf g f.0) (at_pair s t f.0) (rw (stands_is s t f.0) at f.2) in
            let m = leaf_among f.0 f.1 h.0 in
            any_to_make count (stands_by first second s t) m.0 (omega (arith, m.1, L.counted)) (rw (place_is s t m.0 m.1, m.2) h.1)

    -- the table over the slices is the game's
    table_is : table_by first second count chance payoffs1 payoffs2 (sequence_count g one) (sequence_count g two) ≡ payoff_table g
    unfolding table_by rows_by row_of payoff_table rows_at row_at
    table_is = join_to_cong (sequence_count g one) _ _ (λ s l. join_to_cong (sequence_count g two) _ _ (λ t v. rw (any_is s t, sum_is one s t, sum_is two s t)))

    -- no partial sum leaves its range
    pub addable : GameLimits g → (p : Player) → Addable count first second chance (of_player p payoffs1 payoffs2)
    addable M p = record {
      chance_long = omega (arith, L.counted, L.chance_is.long);
      payoffs_long = omega (arith, L.counted, (payoff_is p).long);
      fit = λ n s t l. let r = leaves_prefix g (counts p s t) n (omega (arith, L.counted)) in rw (prefix_is p s t n l, r.2, leaves_at_lem p s t r.0) (table_fits g M p s t r.0 r.1);
    }

    -- the rows from them are the game's table
    pub table_rows : {rows : ℕ} {all : Leaves} → TableLaid (table_by first second count chance payoffs1 payoffs2 (sequence_count g one) (sequence_count g two)) rows all → TableLaid (payoff_table g) rows all
    table_rows t = rw table_is at t
