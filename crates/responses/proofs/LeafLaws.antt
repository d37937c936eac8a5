-- Leaves added up by own sequence: leaf by leaf, and all of them as the model does.
use Prim.Native.Nat.{ℕ, ◌+◌, ◌≤◌, ◌<◌}
use mathlib.Core.Path.{◌≡◌, refl, sym, ap, ◌∙◌}
use mathlib.Core.Bool.{Bool, ◌&&◌}
use mathlib.Core.List.{List}
use native.Mathlib.Omega.{arith}
use native.Mathlib.Decide.{ℕ_discrete}
use native.Mathlib.Numerals.{add-one}
use lib.Dec.{eqb, eqb→eq, eqb_refl}
use lib.IntN.{ℤ, pos, ◌+ℤ◌, +ℤ_idr}
use lib.ListN.{length, set, length-set}
use lib.Seq.{get_or-set_same, get_or-set_other}
use mir.Syntax.{w64}
use mir.Val.{SFits}
use Rattle.algebra.specs.Arrays.{item_z, over}
use Rattle.algebra.specs.Bounded.{sum_to, sum_where}
use Rattle.algebra.proofs.Tests.{bool_same, eqb_make, cond_yes, cond_no}
use Rattle.algebra.proofs.Sums.{only_z, only_z_and, sum_suc, sum_cong, where_z_is, where_tests}
use Rattle.algebra.proofs.Fillings.{length_over, over_at}
use Rattle.model.specs.Limits.{weight_limit, GameLimits}
use Rattle.model.specs.Game.{Game, Player, other, is_leaf}
use Rattle.model.specs.Sequences.{same, own_sequence_of, sequence_number, sequence_count}
use Rattle.model.specs.Plan.{RealizationPlan, weight_at}
use Rattle.model.specs.Table.{own_number}
use Rattle.model.specs.Earnings.{leaf_term}
use Rattle.model.specs.BestResponse.{leaves_worth}
use Rattle.model.specs.Rules.{GameRules}
use Rattle.model.specs.Demand2.{sequence_at}
use Rattle.model.proofs.Budget.{response_budget}
use Rattle.model.proofs.Numbers.{number_same}
use Rattle.model.proofs.Sequences.{same→eq, eq→same}
use Rattle.model.proofs.Tree.{own_sequence_lem}
use Rattle.loaded.specs.Leaves.{leaves_of, leaf_of}
use Rattle.loaded.proofs.LeafSums.{leaves_sum, leaves_prefix}
use Rattle.responses.specs.Worths.{HoldsZ, leaves_at}
use Rattle.responses.proofs.SequencesAt.{at_sequence}

-- Player p against y.
module _ (g : Game) (p : Player) (y : RealizationPlan) where
  -- what node n counts at sequence s
  abbrev numbered : (s n : ℕ) → ℤ
  numbered s n = only_z (eqb (own_number g p n) s) (leaf_term g p y n)

  -- what the first k leaves count there
  unfoldable pub leaf_sum_of : (k s : ℕ) → ℤ
  leaf_sum_of k s = sum_to k (λ j. numbered s (leaf_of g j))

  -- no leaf
  pub sum_none : (s : ℕ) → leaf_sum_of 0 s ≡ pos 0
  unfolding leaf_sum_of sum_to
  sum_none s = refl

  -- one leaf more, at its own sequence and at any other
  pub sum_here : (k : ℕ) → leaf_sum_of (k + 1) (own_number g p (leaf_of g k)) ≡ leaf_sum_of k (own_number g p (leaf_of g k)) +ℤ leaf_term g p y (leaf_of g k)
  unfolding leaf_sum_of
  sum_here k =
      let s = own_number g p (leaf_of g k) in
      rw (add-one, sum_suc) (ap (λ (z : ℤ). sum_to k (λ j. numbered s (leaf_of g j)) +ℤ z) (cond_yes (eqb s s) (leaf_term g p y (leaf_of g k)) (pos 0) (eqb_refl s)))

  pub sum_elsewhere : (k s : ℕ) → ¬ (s ≡ own_number g p (leaf_of g k)) → leaf_sum_of k s ≡ leaf_sum_of (k + 1) s
  unfolding leaf_sum_of
  sum_elsewhere k s d = rw (add-one, sum_suc, cond_no (eqb (own_number g p (leaf_of g k)) s) (leaf_term g p y (leaf_of g k)) (pos 0) (λ t. d (sym (eqb→eq (own_number g p (leaf_of g k)) s t)))) (sym (+ℤ_idr _))

  -- One of p's sequences.
  module _ (R : GameRules g) (s : ℕ) (l : s < sequence_count g p) where
    -- the test of the number, and of the sequence
    tests : (n : ℕ) → n < g.nodes → eqb (own_number g p n) s ≡ same (own_sequence_of g p n) (sequence_at g p s)
    unfolding own_number
    tests n b =
        let a = at_sequence g p s l in
        bool_same (eqb (own_number g p n) s) (same (own_sequence_of g p n) (sequence_at g p s))
        (λ t. eq→same (own_sequence_of g p n) (sequence_at g p s) (number_same g p (own_sequence_of g p n) (sequence_at g p s) (own_sequence_lem g R p n b) a.0 (eqb→eq (own_number g p n) s t ∙ sym a.1)))
        (λ t. eqb_make (own_number g p n) s (ap (sequence_number g p) (same→eq (own_sequence_of g p n) (sequence_at g p s) t) ∙ a.1))

    -- the nodes below m
    below : (m : ℕ) → m ≤ g.nodes → sum_where m (is_leaf g) (numbered s) ≡ sum_where m (λ n. is_leaf g n && same (own_sequence_of g p n) (sequence_at g p s)) (leaf_term g p y)
    below m b =
        where_z_is m (is_leaf g) (numbered s)
        ∙ sum_cong m _ _ (λ n v. only_z_and (is_leaf g n) (eqb (own_number g p n) s) (leaf_term g p y n))
        ∙ sym (where_z_is m (λ n. is_leaf g n && eqb (own_number g p n) s) (leaf_term g p y))
        ∙ where_tests m _ _ (leaf_term g p y) (λ n v. ap (λ (t : Bool). is_leaf g n && t) (tests n (omega arith)))

    -- all leaves count what the leaves at the sequence are worth
    pub sum_all : leaf_sum_of (length (leaves_of g)) s ≡ leaves_at g p y s
    unfolding leaf_sum_of leaves_at leaves_worth
    sum_all = leaves_sum g (numbered s) ∙ below g.nodes (omega arith)

    -- and no sum on the way leaves an i64, where the weights are within the limit
    pub sum_fits : GameLimits g → ((n : ℕ) → n < g.nodes → weight_at g y (other p) n ≤ weight_limit) → (k : ℕ) → k ≤ length (leaves_of g) → SFits w64 (leaf_sum_of k s)
    unfolding leaf_sum_of
    sum_fits L small k b =
        let r = leaves_prefix g (numbered s) k b in
        rw (r.2, below r.0 r.1) ((response_budget g R L p y small).leaves (sequence_at g p s) r.0 r.1)

-- An array that holds a number for each sequence: all are 0,
pub holds_zero : {f : ℕ → ℤ} {n : ℕ} {after : List ℤ} (before : List ℤ) → after ≡ over (λ s. pos 0) n before → n ≤ length before → ((s : ℕ) → f s ≡ pos 0) → HoldsZ f n after
holds_zero {f} {n} {after} before e b z = record {
  long = omega (arith, ap length e, length_over (pos 0) (λ s. pos 0) n before b);
  at = λ i v. ap (λ (l : List ℤ). item_z l i) e ∙ over_at (pos 0) (λ s. pos 0) n before i v ∙ sym (z i);
}

-- and one is changed
pub holds_changed : {f h : ℕ → ℤ} {n : ℕ} {l : List ℤ} (s : ℕ) (x : ℤ) → HoldsZ f n l → s < n → x ≡ h s → ((i : ℕ) → ¬ (i ≡ s) → f i ≡ h i) → HoldsZ h n (set l s x)
holds_changed {f} {h} {n} {l} s x holds b e others = record { long = omega (arith, holds.long, length-set l s x); at = each }
  where
    each : (i : ℕ) → i < n → item_z (set l s x) i ≡ h i
    each i v =
        elim (ℕ_discrete i s) [
          | yes q ↦ rw q (get_or-set_same l s x (pos 0) (omega (arith, holds.long)) ∙ e)
          | no q ↦ get_or-set_other l s i x (pos 0) q ∙ holds.at i v ∙ others i q
        ]
