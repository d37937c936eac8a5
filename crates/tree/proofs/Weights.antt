-- Check 10: the sums of the children's weights, and the test for one node.
use Prim.Native.Nat.{ℕ, zero, suc, ◌+◌, ◌*◌, ◌≤◌, ◌<◌}
use mathlib.Core.Path.{◌≡◌, refl, sym, ◌∙◌}
use mathlib.Core.Bool.{true, false, ◌&&◌, and-true, and-false}
use mathlib.Core.List.{List}
use native.Mathlib.Omega.{arith}
use native.Mathlib.Numerals.{add-one}
use lib.Dec.{T, ltb, eqb, eqb→eq}
use lib.ListN.{get_or, set, replicate}
use borrow.Author.Tests.{lt-ltb, eq-eqb, ne_eqb}
use Rattle.algebra.specs.Bounded.{total_to, implies}
use Rattle.algebra.specs.Arrays.{Holds}
use Rattle.algebra.proofs.Tests.{T→true, implies_make, eqb_make}
use Rattle.algebra.proofs.Totals.{only, only_most, count_bound}
use Rattle.algebra.proofs.Fillings.{holds_none, holds_more}
use Rattle.model.specs.Limits.{count_limit}
use Rattle.model.specs.Game.{Game, is_decision, is_chance}
use Rattle.model.specs.GameChecks.{children_weight, weight_inherited, weight_shared}
use Rattle.model.proofs.Tree.{below}
use Rattle.tree.specs.Children.{weight_test}
use Rattle.tree.proofs.Parents.{Hangs}

-- the weights of node n's children among the nodes below i, added up
unfoldable pub weight_to : Game → (i n : ℕ) → ℕ
weight_to g i n = total_to i (λ c. only (below g n c) (g.weight c))

-- where the pass begins
pub sums_first : (g : Game) (sums : List ℕ) → g.nodes ≤ count_limit → sums ≡ replicate count_limit 0 → Holds (weight_to g 1) g.nodes sums
unfolding weight_to total_to
sums_first g sums few e = holds_none (weight_to g 1) g.nodes count_limit sums e few (λ n. refl)

module _ {g : Game} {p i : ℕ} (s : Hangs g p i) where
  -- what node i adds
  weight_more : (n : ℕ) → weight_to g (i + 1) n ≡ weight_to g i n + only (eqb p n) (g.weight i)
  unfolding weight_to total_to
  weight_more n = rw (add-one, lt-ltb 0 i s.after, s.parent)

  -- one node more
  pub sums_more : (sums : List ℕ) (w : ℕ) → Holds (weight_to g i) g.nodes sums → w ≡ g.weight i → Holds (weight_to g (i + 1)) g.nodes (set sums p (get_or sums p 0 + w))
  sums_more sums w held e =
      holds_more (weight_to g i) (weight_to g (i + 1)) g.nodes sums p _ held s.inside
      (rw (held.at p s.inside, e) (sym (weight_more p ∙ rw (eq-eqb p p refl))))
      (λ n o. sym (weight_more n ∙ rw (ne_eqb p n (λ q. o (sym q))) (omega arith)))

-- where it ends
pub sums_last : (g : Game) (i : ℕ) (sums : List ℕ) → i ≡ g.nodes → Holds (weight_to g i) g.nodes sums → Holds (children_weight g) g.nodes sums
unfolding weight_to children_weight
sums_last g i sums e held = rw e at held

-- a sum of small weights is small
pub sum_small : (g : Game) (i n limit : ℕ) → ((c : ℕ) → c < i → g.weight c ≤ limit) → weight_to g i n ≤ i * limit
unfolding weight_to
sum_small g i n limit small = count_bound i limit (λ c. only (below g n c) (g.weight c)) (λ c l. omega (arith, only_most (below g n c) (g.weight c), small c l))

module _ (g : Game) (n : ℕ) where
  -- a weight of zero
  pub no_weight : g.weight n ≡ 0 → false ≡ weight_test g n
  unfolding weight_test
  no_weight e = rw e

  -- a chance node with another weight than its children's together
  pub not_shared : g.kind n ≡ 2 → ¬ (children_weight g n ≡ g.weight n) → false ≡ weight_test g n
  unfolding weight_test weight_shared implies is_chance
  not_shared e d = rw (eq-eqb (g.kind n) 2 e, ne_eqb (children_weight g n) (g.weight n) d) (sym (and-false (ltb 0 (g.weight n) && weight_inherited g n)))

  -- any other node
  shared_passes : (g.kind n ≡ 2 → children_weight g n ≡ g.weight n) → T (weight_shared g n)
  unfolding weight_shared is_chance
  shared_passes shared = implies_make (eqb (g.kind n) 2) _ (λ t. eqb_make _ _ (shared (eqb→eq (g.kind n) 2 t)))

  -- what is left of the test there, where the weight is not zero
  pub only_inherited : ¬ (g.weight n ≡ 0) → (g.kind n ≡ 2 → children_weight g n ≡ g.weight n) → weight_test g n ≡ weight_inherited g n
  unfolding weight_test
  only_inherited d shared = rw (lt-ltb 0 (g.weight n) (omega arith), T→true (weight_shared g n) (shared_passes shared)) (and-true (weight_inherited g n))

  -- the root has the game's weight
  pub root_inherits : n ≡ 0 → eqb (g.weight n) g.root_weight ≡ weight_inherited g n
  unfolding weight_inherited
  root_inherits e = rw e

-- a decision's child has its weight
pub child_inherits : (g : Game) (n : ℕ) {p : ℕ} → ¬ (n ≡ 0) → p ≡ g.parent n → g.kind p ≡ 1 → eqb (g.weight n) (g.weight p) ≡ weight_inherited g n
unfolding weight_inherited implies is_decision
child_inherits g zero z e k = absurd (z refl)
child_inherits g (suc n) z e k = rw (← e, eq-eqb _ 1 k)

-- a child of any other node may have another
pub child_free : (g : Game) (n : ℕ) {p : ℕ} → ¬ (n ≡ 0) → p ≡ g.parent n → ¬ (g.kind p ≡ 1) → true ≡ weight_inherited g n
unfolding weight_inherited implies is_decision
child_free g zero z e k = absurd (z refl)
child_free g (suc n) z e k = rw (← e, ne_eqb _ 1 k)
