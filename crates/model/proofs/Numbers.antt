-- The numbers of a player's sequences: below their count, and no two the same. All sets' moves are fewer than the nodes.
use Prim.Native.Nat.{ℕ, zero, suc, ◌+◌, ◌≤◌, ◌<◌}
use mathlib.Core.Path.{◌≡◌, refl, sym, ap, ◌∙◌}
use mathlib.Core.Bool.{Bool, true, false, not, cond}
use mathlib.Core.List.{List, [], ◌∷◌, ◌++◌}
use native.Mathlib.Omega.{arith}
use native.Mathlib.Decide.{ℕ_discrete, dec_lt}
use lib.Dec.{T, eqb, eqb→eq, ltb, lt→ltb, T_not}
use lib.ListN.{length, get_or, get_or-append}
use lib.Seq.{get_or-append-add}
use Rattle.algebra.specs.Bounded.{total_to, join_to, list_to}
use Rattle.algebra.proofs.Tests.{cond_yes, cond_no}
use Rattle.algebra.proofs.Totals.{only, only_most, only_swap, count_suc, count_cong, count_le, count_zero, count_ones, count_plus, count_swap, count_less, count_one, count_pick, count_key, count_split}
use Rattle.algebra.proofs.Lists.{length_joins, length_list_to, list_to_at}
use Rattle.model.specs.Game.{Game, Player, one, two, same_player, owns, node_moves, moves_before}
use Rattle.model.specs.Sequences.{Sequence, extended, own_sequence_of, first_node, leading, move_number, sequence_number, leading_number, sequence_count}
use Rattle.model.specs.Table.{own_number}
use Rattle.model.specs.Rules.{GameRules}
use Rattle.model.specs.Demand2.{sequences_of, sequence_at, IsNumber}
use Rattle.model.proofs.Sequences.{number_empty, number_extended}
use Rattle.model.proofs.Tree.{player_refl, IsSequence, empty, after, leading_sequence, own_sequence_lem, TreeRules, tree_rules, tree_parent_in, tree_first_in, tree_first_set, tree_children}

module _ (g : Game) (p : Player) where
  -- the moves of a set of p's come before those of a later set
  pub moves_block : (h k : ℕ) → h < k → T (owns g p h) → moves_before g p h + g.set_moves h ≤ moves_before g p k
  unfolding moves_before
  moves_block h k l o =
      let c : ℕ → ℕ = λ k. cond (owns g p k) (g.set_moves k) 0 in
      omega (arith, count_less k (suc h) c l, count_suc h c, cond_yes (owns g p h) (g.set_moves h) 0 o)

  -- moves of p's with the same number are the same
  pub number_move : (h m k n : ℕ) → T (owns g p h) → T (owns g p k) → m < g.set_moves h → n < g.set_moves k → move_number g p (h, m) ≡ move_number g p (k, n) → (h ≡ k) × (m ≡ n)
  unfolding move_number
  number_move h m k n oh ok lm ln e = let s = set in (s, omega (arith, ap (moves_before g p) s))
    where
      set : h ≡ k
      set =
          elim (ℕ_discrete h k) [
            | yes d ↦ d
            | no d ↦ elim (dec_lt h k) [
              | yes l ↦ absurd (omega (arith, moves_block h k l oh))
              | no l ↦ absurd (omega (arith, moves_block k h (omega arith) ok))
            ]
          ]

  -- a move's number is not 0
  pub number_positive : (h m : ℕ) → ¬ (move_number g p (h, m) ≡ 0)
  unfolding move_number
  number_positive h m e = omega arith

  -- every sequence's number is below their count
  pub number_below : (s : Sequence) → IsSequence g p s → sequence_number g p s < sequence_count g p
  unfolding sequence_count move_number
  number_below s empty = omega (arith, number_empty g p)
  number_below s (after {h = h} {m = m} l o b) = omega (arith, number_extended g p (leading g h) h m, moves_block h g.sets l o)

  -- two sequences with the same number are the same
  pub number_same : (s t : Sequence) → IsSequence g p s → IsSequence g p t → sequence_number g p s ≡ sequence_number g p t → s ≡ t
  number_same s t empty empty e = refl
  number_same s t empty (after {h = k} {m = n} l o b) e = absurd (number_positive k n (sym (number_extended g p (leading g k) k n) ∙ sym e ∙ number_empty g p))
  number_same s t (after {h = h} {m = m} l o b) empty e = absurd (number_positive h m (sym (number_extended g p (leading g h) h m) ∙ e ∙ number_empty g p))
  number_same s t (after {h = h} {m = m} l o b) (after {h = k} {m = n} l' o' b') e =
      let d = number_move h m k n o o' b b' (sym (number_extended g p (leading g h) h m) ∙ e ∙ number_extended g p (leading g k) k n) in
      λ i. extended (leading g (d.0 i)) (d.0 i) (d.1 i)

-- where the elements of one of the joined lists are
joined_at {ℓ} : {A : Type ℓ} (d : A) (n : ℕ) (f : ℕ → List A) (h m : ℕ) → h < n → m < length (f h) → get_or (join_to n f) (total_to h (λ i. length (f i)) + m) d ≡ get_or (f h) m d
unfolding join_to
joined_at d zero f h m l b = absurd (omega arith)
joined_at {A = A} d (suc n) f h m l b =
    let size : ℕ → ℕ = λ i. length (f i) in
    elim (ℕ_discrete h n) [
      | yes e ↦ ap (λ (k : ℕ). get_or (join_to n f ++ f n) (k + m) d) (ap (λ (k : ℕ). total_to k size) e ∙ sym (length_joins n f)) ∙ get_or-append-add (join_to n f) (f n) m d ∙ ap (λ (k : ℕ). get_or (f k) m d) (sym e)
      | no e ↦ get_or-append (join_to n f) (f n) d (total_to h size + m) (omega (arith, length_joins n f, count_less n (suc h) size (omega arith), count_suc h size)) ∙ joined_at d n f h m (omega arith) b
    ]

module _ (g : Game) (p : Player) where
  -- the sequences that end in a move of set h, where it is p's
  abbrev ending : ℕ → List Sequence
  ending h = cond (owns g p h) (list_to (g.set_moves h) (extended (leading g h) h)) []

  -- they are as many as its moves
  length_ending : (h : ℕ) → length (ending h) ≡ cond (owns g p h) (g.set_moves h) 0
  length_ending h = go (owns g p h)
    where
      go : (b : Bool) → length (cond b (list_to (g.set_moves h) (extended (leading g h) h)) []) ≡ cond b (g.set_moves h) 0
      go true = length_list_to (g.set_moves h) (extended (leading g h) h)
      go false = refl

  -- a move's sequence stands at its number
  move_place : (h m : ℕ) → h < g.sets → T (owns g p h) → m < g.set_moves h → get_or ([] ∷ join_to g.sets ending) (move_number g p (h, m)) [] ≡ extended (leading g h) h m
  unfolding move_number moves_before
  move_place h m l o b =
      let own : ending h ≡ list_to (g.set_moves h) (extended (leading g h) h) = cond_yes (owns g p h) _ _ o in
      let before : total_to h (λ i. length (ending i)) ≡ moves_before g p h = count_cong h _ _ (λ i v. length_ending i) in
      let number : move_number g p (h, m) ≡ suc (total_to h (λ i. length (ending i)) + m) = omega (arith, before) in
      ap (λ (k : ℕ). get_or ([] ∷ join_to g.sets ending) k []) number
      ∙ joined_at [] g.sets ending h m l (omega (arith, length_ending h, cond_yes (owns g p h) (g.set_moves h) 0 o))
      ∙ rw own (list_to_at [] (g.set_moves h) (extended (leading g h) h) m b)

  -- so does each of p's sequences
  pub number_place : (s : Sequence) → IsSequence g p s → sequence_at g p (sequence_number g p s) ≡ s
  unfolding sequence_at sequences_of
  number_place s empty = rw (number_empty g p)
  number_place s (after {h = h} {m = m} l o b) = rw (number_extended g p (leading g h) h m) (move_place h m l o b)

-- each move is one player's
split_moves : (g : Game) (k : ℕ) → moves_before g one k + moves_before g two k ≡ total_to k g.set_moves
unfolding moves_before owns
split_moves g k = count_plus k _ _ ∙ count_cong k _ _ (λ h l. go (g.set_player h) (g.set_moves h))
  where
    go : (r : Player) (m : ℕ) → cond (same_player one r) m 0 + cond (same_player two r) m 0 ≡ m
    go one m = omega arith
    go two m = omega arith

module _ (g : Game) (R : TreeRules g) where
  -- every node but the root stands at one move
  nodes_at_moves : total_to g.nodes (node_moves g) + 1 ≡ g.nodes
  nodes_at_moves =
      let N = g.nodes in
      let hung = total_to N (λ c. only (ltb 0 c) 1) in
      let a : hung ≡ total_to N (node_moves g) =
      count_key N N g.parent (λ c. only (ltb 0 c) 1) (tree_parent_in g R)
      ∙ count_cong N _ _ (λ n l. count_cong N _ _ (λ c v. only_swap (eqb (g.parent c) n) (ltb 0 c) 1) ∙ tree_children g R n l (λ m. 1) ∙ count_ones (node_moves g n)) in
      let b = count_split N (ltb 0) (λ n. 1) in
      let c : total_to N (λ n. only (not (ltb 0 n)) 1) ≡ 1 = count_one N (λ n. only (not (ltb 0 n)) 1) 0 R.some_node (λ i l d. cond_no (not (ltb 0 i)) 1 0 (λ t. T_not (ltb 0 i) t (lt→ltb 0 i (omega arith)))) in
      omega (arith, a, b, c, count_ones N)

  -- at most one set begins at a node
  sets_at_node : (n : ℕ) → total_to g.sets (λ h. only (eqb (first_node g h) n) (node_moves g n)) ≤ node_moves g n
  sets_at_node n =
      let f : ℕ → ℕ = λ h. only (eqb (first_node g h) n) (node_moves g n) in
      elim (dec_lt (g.node_set n) g.sets) [
        | yes l ↦ omega (arith, count_one g.sets f (g.node_set n) l elsewhere, only_most (eqb (first_node g (g.node_set n)) n) (node_moves g n))
        | no l ↦ omega (arith, count_zero g.sets f (λ h v. elsewhere h v (λ e. omega arith)))
      ]
    where
      elsewhere : (h : ℕ) → h < g.sets → ¬ (h ≡ g.node_set n) → only (eqb (first_node g h) n) (node_moves g n) ≡ 0
      elsewhere h v d = cond_no (eqb (first_node g h) n) (node_moves g n) 0 (λ t. d (sym (tree_first_set g R h v).1 ∙ ap g.node_set (eqb→eq (first_node g h) n t)))

  -- the moves of all sets together are at most N - 1
  tree_moves_few : total_to g.sets g.set_moves < g.nodes
  tree_moves_few =
      let N = g.nodes in
      let a : total_to g.sets g.set_moves ≡ total_to N (λ n. total_to g.sets (λ h. only (eqb (first_node g h) n) (node_moves g n))) =
      count_cong g.sets _ _ (λ h l. sym (count_pick N (first_node g h) (node_moves g) (tree_first_in g R h l).1 ∙ (tree_first_set g R h l).2))
      ∙ count_swap g.sets N (λ h n. only (eqb (first_node g h) n) (node_moves g n)) in
      omega (arith, a, count_le N _ (node_moves g) (λ n l. sets_at_node n), nodes_at_moves)

  -- so a plan has fewer weights than the game has nodes
  tree_plan_moves_few : moves_before g one g.sets + moves_before g two g.sets < g.nodes
  tree_plan_moves_few = omega (arith, split_moves g g.sets, tree_moves_few)

  -- and each player at most as many sequences
  pub tree_sequences_few : (p : Player) → sequence_count g p ≤ g.nodes
  unfolding sequence_count
  tree_sequences_few one = omega (arith, tree_plan_moves_few)
  tree_sequences_few two = omega (arith, tree_plan_moves_few)

module _ (g : Game) (R : GameRules g) where
  -- the number of an own sequence is its place among the player's
  pub own_number_place : (p : Player) (n : ℕ) → n < g.nodes → sequence_at g p (own_number g p n) ≡ own_sequence_of g p n
  unfolding own_number
  own_number_place p n l = number_place g p (own_sequence_of g p n) (own_sequence_lem g R p n l)

  -- the number of an own sequence is below their count
  pub own_number_below : (p : Player) (n : ℕ) → n < g.nodes → own_number g p n < sequence_count g p
  unfolding own_number
  own_number_below p n l = number_below g p (own_sequence_of g p n) (own_sequence_lem g R p n l)

  -- both, and for the own sequence leading to a set
  pub own_number_lem : (p : Player) (n : ℕ) → n < g.nodes → IsNumber g p (own_number g p n) (own_sequence_of g p n)
  own_number_lem p n l = (own_number_below p n l, own_number_place p n l)

  pub leading_number_lem : (h : ℕ) → h < g.sets → IsNumber g (g.set_player h) (leading_number g h) (leading g h)
  unfolding leading_number owns
  leading_number_lem h l =
      let p = g.set_player h in
      let s = leading_sequence g R p h l (player_refl p) in
      (number_below g p (leading g h) s, number_place g p (leading g h) s)

  -- the moves of all sets together are at most N - 1
  pub moves_few : total_to g.sets g.set_moves < g.nodes
  moves_few = tree_moves_few g (tree_rules R)

  -- so a plan has fewer weights than the game has nodes
  pub plan_moves_few : moves_before g one g.sets + moves_before g two g.sets < g.nodes
  plan_moves_few = tree_plan_moves_few g (tree_rules R)

  -- and each player at most as many sequences
  pub sequences_few : (p : Player) → sequence_count g p ≤ g.nodes
  sequences_few = tree_sequences_few g (tree_rules R)
