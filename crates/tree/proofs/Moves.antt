-- Check 9: the array of the moves met, against the model's test.
use Prim.Native.Nat.{ℕ, zero, suc, ◌+◌, ◌-◌, ◌/◌, ◌%◌, ◌^◌, ◌≤◌, ◌<◌}
use mathlib.Core.Path.{◌≡◌, refl, sym, ap, ◌∙◌}
use mathlib.Core.Bool.{Bool, true, false, not, ◌&&◌, ◌||◌, and_assoc, or-false}
use mathlib.Core.List.{List}
use native.Mathlib.Omega.{arith}
use native.Mathlib.Numerals.{add-one}
use lib.Dec.{T, ltb, ltb→lt, lt→ltb, eqb, eqb→eq}
use lib.ListN.{get_or, set, replicate}
use mir.Facts.{and_yes}
use borrow.Author.Tests.{lt-ltb, eq-eqb, ne_eqb}
use Rattle.algebra.specs.Bounded.{all_to, any_to}
use Rattle.algebra.proofs.Tests.{bool_same, true→T, eqb_make}
use Rattle.algebra.proofs.Totals.{only}
use Rattle.algebra.proofs.Searches.{all_to_at, all_to_make, any_to_find}
use Rattle.algebra.proofs.Fillings.{holds_none, holds_more}
use Rattle.model.specs.Limits.{count_limit}
use Rattle.model.specs.Game.{Game, node_moves}
use Rattle.model.specs.GameChecks.{is_child, share_move, moves_lead_on_of}
use Rattle.model.proofs.Tree.{below, below_is}
use Rattle.std.specs.Prelude.{Ok, Err}
use Rattle.checks.specs.declared.Refusal.{Refusal}
use Rattle.checks.specs.declared.Refusal.TheVariants.{MissingMove}
use Rattle.checks.specs.Answers.{checked_of}
use Rattle.checks.proofs.Chains.{Checked, first_broken, then_second}
use Rattle.loaded.specs.Rooted.{Rooted}
use Rattle.tree.specs.Children.{mask, met, Marked, alone, complete, Swept}
use Rattle.tree.proofs.Parents.{Stands}
use Rattle.tree.proofs.Masks.{mask_cong, mask_none, mask_more, mask_ones, mask_digit, mask_inj}

-- equality, the other way round
eqb_swap : (a b : ℕ) → eqb a b ≡ eqb b a
eqb_swap a b = bool_same (eqb a b) (eqb b a) (λ t. eqb_make b a (sym (eqb→eq a b t))) (λ t. eqb_make a b (sym (eqb→eq b a t)))

-- no number passes one test where not some number passes the other
all_not_any : (n : ℕ) (p q : ℕ → Bool) → ((i : ℕ) → p i ≡ q i) → all_to n (λ i. not (p i)) ≡ not (any_to n q)
unfolding all_to any_to
all_not_any zero p q e = refl
all_not_any (suc n) p q e = rw (all_not_any n p q e, e n) (neither (any_to n q) (q n))
  where
    neither : (a b : Bool) → (not a && not b) ≡ not (a || b)
    neither true b = refl
    neither false b = refl

-- a digit of 0 is of a test that fails
digit_zero : (b : Bool) → only b 1 ≡ 0 → b ≡ false
digit_zero true e = absurd (omega arith)
digit_zero false e = refl

-- any other of one that passes
digit_one : (b : Bool) → ¬ (only b 1 ≡ 0) → b ≡ true
digit_one true e = refl
digit_one false e = absurd (e refl)

module _ {g : Game} {p m i : ℕ} (s : Stands g p m i) where
  -- it stands nowhere else
  child_is : (n k : ℕ) → is_child g n k i ≡ (eqb p n && eqb m k)
  unfolding is_child
  child_is n k = rw (lt-ltb 0 i s.hangs.after, s.hangs.parent, s.move)

  -- what it adds to the moves met
  met_more : (n k : ℕ) → met g (i + 1) n k ≡ (met g i n k || (eqb p n && eqb m k))
  unfolding met any_to
  met_more n k = rw (add-one, child_is n k)

  -- a node shares its move with it where it stands there
  share_is : (b : ℕ) → share_move g b i ≡ is_child g p m b
  unfolding share_move is_child
  share_is b = rw (child_is (g.parent b) (g.move b), eqb_swap p (g.parent b), eqb_swap m (g.move b)) (sym (and_assoc (ltb 0 b) (eqb (g.parent b) p) (eqb (g.move b) m)))

  -- it is alone there where the move was not met before
  pub alone_is : alone g i ≡ not (met g i p m)
  unfolding alone met
  alone_is = all_not_any i (λ b. share_move g b i) (is_child g p m) share_is

  module _ (seen : List ℕ) (marked : Marked g i seen) where
    -- the digit that is read
    digit_is : get_or seen p 0 / 2 ^ m % 2 ≡ only (met g i p m) 1
    digit_is = rw (marked.at p s.hangs.inside) (mask_digit 64 (met g i p) m s.small)

    -- where it is 0
    pub not_met : (b : ℕ) → b ≡ get_or seen p 0 / 2 ^ m % 2 → b ≡ 0 → met g i p m ≡ false
    not_met b e z = digit_zero (met g i p m) (sym digit_is ∙ sym e ∙ z)

    -- where it is not
    pub was_met : (b : ℕ) → b ≡ get_or seen p 0 / 2 ^ m % 2 → ¬ (b ≡ 0) → met g i p m ≡ true
    was_met b e z = digit_one (met g i p m) (λ q. z (e ∙ digit_is ∙ q))

    -- the digit that is added, where the move was not met
    pub digit_more : met g i p m ≡ false → get_or seen p 0 + 2 ^ m ≡ mask 64 (met g (i + 1) p)
    digit_more d =
        ap (λ (x : ℕ). x + 2 ^ m) (marked.at p s.hangs.inside)
        ∙ mask_more 64 (met g i p) m s.small d
        ∙ mask_cong 64 _ (met g (i + 1) p) (λ k l. sym (met_more p k ∙ rw (eq-eqb p p refl)))

    -- one node more
    pub marked_more : met g i p m ≡ false → Marked g (i + 1) (set seen p (get_or seen p 0 + 2 ^ m))
    marked_more d =
        holds_more _ _ g.nodes seen p _ marked s.hangs.inside (digit_more d)
        (λ n o. mask_cong 64 (met g i n) (met g (i + 1) n) (λ k l. sym (met_more n k ∙ rw (ne_eqb p n (λ e. o (sym e))) (or-false (met g i n k)))))

module _ (g : Game) where
  -- where the pass begins, the root is alone
  pub alone_first : all_to 1 (alone g) ≡ true
  unfolding all_to alone
  alone_first = refl

  -- and no move is met
  pub marked_first : (seen : List ℕ) → g.nodes ≤ count_limit → seen ≡ replicate count_limit 0 → Marked g 1 seen
  unfolding met any_to is_child
  marked_first seen few e = holds_none _ g.nodes count_limit seen e few (λ n. mask_none 64 (met g 1 n) (λ m. refl))

  -- what the pass answers where two nodes share a move
  pub swept_not : (seen : List ℕ) → Err MissingMove ≡ checked_of MissingMove (all_to g.nodes (alone g)) → Swept g (Err MissingMove) seen
  swept_not seen e = (e, λ f. absurd cc)

  -- check 9 has two halves: where the first is broken, its answer
  pub moves_broken : {r : Checked} {d : Refusal} → r ≡ checked_of MissingMove (all_to g.nodes (alone g)) → r ≡ Err d → Err d ≡ checked_of MissingMove (moves_lead_on_of g)
  unfolding moves_lead_on_of alone
  moves_broken e f = sym f ∙ first_broken MissingMove (all_to g.nodes (alone g)) _ e f

  -- and where it is fine: the second's
  pub moves_second : {r s : Checked} {u : Unit {0}} → r ≡ checked_of MissingMove (all_to g.nodes (alone g)) → r ≡ Ok u → s ≡ checked_of MissingMove (all_to g.nodes (complete g)) → s ≡ checked_of MissingMove (moves_lead_on_of g)
  unfolding moves_lead_on_of alone complete met
  moves_second e f second = then_second MissingMove (all_to g.nodes (alone g)) (all_to g.nodes (complete g)) e f second

  module _ (R : Rooted g) (n : ℕ) (inside : n < g.nodes) where
    -- a move that is met is one of the node's
    is_move : (m : ℕ) → T (met g g.nodes n m) → m < node_moves g n
    unfolding met is_child
    is_move m t =
        let r = any_to_find g.nodes (is_child g n m) t in
        let a = and_yes (below g n r.0) (eqb (g.move r.0) m) r.2 in
        let b = below_is g n r.0 a.0 in
        go r.0 r.1 b.0 b.1 (eqb→eq (g.move r.0) m a.1)
      where
        go : (c : ℕ) → c < g.nodes → 0 < c → g.parent c ≡ n → g.move c ≡ m → m < node_moves g n
        go zero l z e f = absurd (omega arith)
        go (suc c) l z e f = omega (arith, R.at_move c l, ap (node_moves g) e)

    -- its moves are all met where its mask is a one for each
    pub complete_is : complete g n ≡ eqb (mask 64 (met g g.nodes n)) (2 ^ node_moves g n - 1)
    unfolding complete
    complete_is =
        let k = node_moves g n in
        let ones = mask_ones 64 k (R.few_moves n inside) in
        bool_same (all_to k (met g g.nodes n)) (eqb (mask 64 (met g g.nodes n)) (2 ^ k - 1))
        (λ t. eqb_make _ _ (mask_cong 64 (met g g.nodes n) (λ m. ltb m k) (λ m l. bool_same _ _ (λ u. lt→ltb m k (is_move m u)) (λ u. all_to_at k (met g g.nodes n) t m (ltb→lt m k u))) ∙ ones))
        (λ t. all_to_make k (met g g.nodes n) (λ m l. true→T _ (mask_inj 64 (met g g.nodes n) (λ m. ltb m k) (eqb→eq _ _ t ∙ sym ones) m (omega (arith, R.few_moves n inside)) ∙ lt-ltb m k l)))
