-- "The table gives the same sum": the payoff table's rows against a pair of plans give the value.
use Prim.Native.Nat.{ℕ, zero, suc, ◌*◌, ◌<◌}
use mathlib.Core.Path.{◌≡◌, refl, sym, ap, ◌∙◌}
use mathlib.Core.Bool.{Bool, true, false, ◌&&◌, cond}
use mathlib.Core.List.{List, [], ◌∷◌, ◌++◌}
use native.Mathlib.Nat as NatL
use lib.Dec.{T, eqb, eqb→eq}
use mir.Facts.{and_yes, yes_and}
use lib.IntN.{ℤ, pos, ◌+ℤ◌, ◌*ℤ◌, +ℤ_assoc, +ℤ_idr, +ℤ_idl}
use Rattle.algebra.specs.Bounded.{sum_to, sum_where, any_to, join_to}
use Rattle.algebra.proofs.Tests.{eqb_make}
use Rattle.algebra.proofs.Searches.{any_to_make}
use Rattle.algebra.proofs.Integers.{scale_scale}
use Rattle.algebra.proofs.Sums.{only_z, sum_cong, sum_zero, sum_swap, sum_pick, where_z_is, where_cong, where_none, where_scale}
use Rattle.model.specs.Game.{Game, Player, one, two, is_leaf}
use Rattle.model.specs.Sequences.{sequence_count, own_sequence_of}
use Rattle.model.specs.Plan.{PlanPair, weight_at, RealizationPlan, sequence_weight}
use Rattle.model.specs.Table.{TableRow, own_number, stands_at, weighted_payoff, pair_sum, row_at, rows_at, payoff_table}
use Rattle.model.specs.Earnings.{value_term, value_count}
use Rattle.model.specs.Rules.{GameRules}
use Rattle.model.specs.Demand2.{sum_of, table_sum, number_weight}
use Rattle.model.proofs.Numbers.{own_number_below, own_number_place}

-- the sum over joined rows
table_append : (p : Player) (x y : ℕ → ℕ) (a b : List TableRow) → table_sum p x y (a ++ b) ≡ table_sum p x y a +ℤ table_sum p x y b
unfolding table_sum
table_append p x y [] b = sym (+ℤ_idl (table_sum p x y b))
table_append p x y (r ∷ a) b = rw (table_append p x y a b) (sym (+ℤ_assoc (pos (x r.sequence1 * y r.sequence2) *ℤ sum_of p r) (table_sum p x y a) (table_sum p x y b)))

table_join : (p : Player) (x y : ℕ → ℕ) (n : ℕ) (f : ℕ → List TableRow) → table_sum p x y (join_to n f) ≡ sum_to n (λ i. table_sum p x y (f i))
unfolding table_sum join_to sum_to
table_join p x y zero f = refl
table_join p x y (suc n) f = table_append p x y (join_to n f) (f n) ∙ ap (λ (z : ℤ). z +ℤ table_sum p x y (f n)) (table_join p x y n f)

-- what it says that a leaf stands at a pair
pub stands_parts : (g : Game) (s t n : ℕ) → T (stands_at g s t n) → T (is_leaf g n) × (own_number g one n ≡ s) × (own_number g two n ≡ t)
unfolding stands_at
stands_parts g s t n u =
    let a = eqb (own_number g one n) s in
    let b = eqb (own_number g two n) t in
    let c = and_yes (is_leaf g n && a) b u in
    let d = and_yes (is_leaf g n) a c.0 in
    (d.0, eqb→eq (own_number g one n) s d.1, eqb→eq (own_number g two n) t c.1)

pub stands_make : (g : Game) (s t n : ℕ) → T (is_leaf g n) → own_number g one n ≡ s → own_number g two n ≡ t → T (stands_at g s t n)
unfolding stands_at
stands_make g s t n leaf e f =
    let a = eqb (own_number g one n) s in
    yes_and (is_leaf g n && a) (eqb (own_number g two n) t) (yes_and (is_leaf g n) a leaf (eqb_make (own_number g one n) s e)) (eqb_make (own_number g two n) t f)

-- the weights x are the plan's, by the numbers of p's own sequences
abbrev pub ByNumber : Game → Player → RealizationPlan → (ℕ → ℕ) → Type 0
ByNumber g p plan x = (n : ℕ) → n < g.nodes → x (own_number g p n) ≡ sequence_weight plan (own_sequence_of g p n)

module _ (g : Game) (R : GameRules g) (q : PlanPair) (x y : ℕ → ℕ) (x_is : ByNumber g one (q one) x) (y_is : ByNumber g two (q two) y) (p : Player) where
  -- a leaf of the pair, in the table's sum and in the value
  term : (s t n : ℕ) → n < g.nodes → T (stands_at g s t n) → pos (x s * y t) *ℤ weighted_payoff g p n ≡ value_term g q p n
  unfolding weighted_payoff value_term weight_at
  term s t n l u =
      let e = stands_parts g s t n u in
      let ex : x s ≡ weight_at g (q one) one n = ap x (sym e.1) ∙ x_is n l in
      let ey : y t ≡ weight_at g (q two) two n = ap y (sym e.2) ∙ y_is n l in
      scale_scale (x s * y t) (g.weight n) (g.payoff p n)
      ∙ ap (λ (k : ℕ). pos k *ℤ g.payoff p n)
      (rw (ex, ey) (NatL.mul_comm (weight_at g (q one) one n * weight_at g (q two) two n) (g.weight n) ∙ sym (NatL.mul_assoc (g.weight n) (weight_at g (q one) one n) (weight_at g (q two) two n))))

  -- the sum of a pair's row
  pair_sum_lem : (s t : ℕ) → pos (x s * y t) *ℤ pair_sum g p s t ≡ sum_where g.nodes (stands_at g s t) (value_term g q p)
  unfolding pair_sum
  pair_sum_lem s t =
      where_scale g.nodes (x s * y t) (stands_at g s t) (weighted_payoff g p)
      ∙ where_cong g.nodes (stands_at g s t) _ (value_term g q p) (λ n l u. term s t n l u)

  -- a pair has its row, or no leaf
  rows_sum : (s t : ℕ) → table_sum p x y (rows_at g s t) ≡ sum_where g.nodes (stands_at g s t) (value_term g q p)
  unfolding table_sum rows_at row_at
  rows_sum s t = go (any_to g.nodes (stands_at g s t)) (λ u. u)
    where
      row : (r : Player) → sum_of r (record { sequence1 = s; sequence2 = t; sum1 = pair_sum g one s t; sum2 = pair_sum g two s t }) ≡ pair_sum g r s t
      row one = refl
      row two = refl

      go : (b : Bool) → (T (any_to g.nodes (stands_at g s t)) → T b) → table_sum p x y (cond b (row_at g s t) []) ≡ sum_where g.nodes (stands_at g s t) (value_term g q p)
      go true u = +ℤ_idr _ ∙ ap (λ (z : ℤ). pos (x s * y t) *ℤ z) (row p) ∙ pair_sum_lem s t
      go false u = sym (where_none g.nodes (stands_at g s t) (value_term g q p) (λ n l v. u (any_to_make g.nodes (stands_at g s t) n l v)))

  -- a leaf stands at one pair
  leaf_once : (n : ℕ) (z : ℤ) → n < g.nodes → sum_to (sequence_count g one) (λ s. sum_to (sequence_count g two) (λ t. only_z (stands_at g s t n) z)) ≡ only_z (is_leaf g n) z
  unfolding stands_at
  leaf_once n z l =
      sum_cong (sequence_count g one) _ _ (λ s v. at_second (is_leaf g n && eqb (own_number g one n) s)) ∙ at_first (is_leaf g n)
    where
      at_second : (c : Bool) → sum_to (sequence_count g two) (λ t. only_z (c && eqb (own_number g two n) t) z) ≡ only_z c z
      at_second true = sum_pick (sequence_count g two) (own_number g two n) (λ t. z) (own_number_below g R two n l)
      at_second false = sum_zero (sequence_count g two) _ (λ t v. refl)

      at_first : (c : Bool) → sum_to (sequence_count g one) (λ s. only_z (c && eqb (own_number g one n) s) z) ≡ only_z c z
      at_first true = sum_pick (sequence_count g one) (own_number g one n) (λ s. z) (own_number_below g R one n l)
      at_first false = sum_zero (sequence_count g one) _ (λ s v. refl)

  -- the table gives the value
  pub table_value : table_sum p x y (payoff_table g) ≡ value_count g q p
  unfolding payoff_table value_count
  table_value =
      let S = sequence_count g one in
      let U = sequence_count g two in
      let N = g.nodes in
      let F : ℕ → ℕ → ℕ → ℤ = λ s t n. only_z (stands_at g s t n) (value_term g q p n) in
      table_join p x y S _
      ∙ sum_cong S _ _ (λ s v. table_join p x y U (rows_at g s) ∙ sum_cong U _ _ (λ t u. rows_sum s t ∙ where_z_is N (stands_at g s t) (value_term g q p)) ∙ sum_swap U N (F s))
      ∙ sum_swap S N (λ s n. sum_to U (λ t. F s t n))
      ∙ sum_cong N _ _ (λ n l. leaf_once n (value_term g q p n) l)
      ∙ sym (where_z_is N (is_leaf g) (value_term g q p))

-- the plans' own weights by number do
pub number_weights : (g : Game) → GameRules g → (p : Player) (x : RealizationPlan) → ByNumber g p x (number_weight g p x)
unfolding number_weight
number_weights g R p x n l = ap (sequence_weight x) (own_number_place g R p n l)
