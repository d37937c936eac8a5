-- A game that has passed checks 9 and 12 has no more sequences than nodes, and its numbers of sequences are below that.
use Prim.Native.Nat.{ℕ, zero, suc, ◌+◌, ◌≤◌, ◌<◌}
use mathlib.Core.Path.{ap}
use native.Mathlib.Omega.{arith}
use lib.Dec.{T}
use Rattle.algebra.proofs.Tests.{dec}
use Rattle.model.specs.Limits.{count_limit}
use Rattle.model.specs.Game.{Game, Player, owns, moves_before}
use Rattle.model.specs.Sequences.{acts, move_number, sequence_count}
use Rattle.model.specs.Table.{own_number}
use Rattle.model.proofs.Tree.{player_refl, TreeRules, acts_parts, decision_kind, decision_moves, owner}
use Rattle.model.proofs.Numbers.{moves_block, tree_sequences_few}
use Rattle.model.proofs.GameRules.{moves_iff, set_node_iff}
use Rattle.loaded.specs.Rooted.{Rooted}
use Rattle.loaded.specs.Sets.{first_sequence}
use Rattle.sequences.specs.Sets.{Numberable}
use Rattle.sequences.proofs.Own.{number_root, number_here, number_above}

-- what the checks have shown, as rules
tree_rules_shown : {g : Game} → Numberable g → TreeRules g
tree_rules_shown {g} N =
    let R = N.rooted in
    record {
      some_node = R.some_node;
      root_parent = R.root_parent;
      parents = R.parents;
      at_move = R.at_move;
      moves = (moves_iff g (λ n l. (R.parents n l, R.at_move n l))).holds N.moves_lead_on;
      set_node = (set_node_iff g).holds N.sets_non_empty;
    }

-- there are few sequences
pub sequences_few : {g : Game} → Numberable g → (p : Player) → sequence_count g p ≤ count_limit
sequences_few {g} N p = omega (arith, tree_sequences_few g (tree_rules_shown N) p, N.rooted.few_nodes)

-- so the number of a set's first sequence is small
pub start_small : {g : Game} → Numberable g → (h : ℕ) → h < g.sets → first_sequence g h ≤ count_limit
unfolding first_sequence move_number sequence_count owns
start_small {g} N h l = let p = g.set_player h in omega (arith, sequences_few N p, moves_block g p h g.sets l (player_refl p))

module _ (g : Game) (R : Rooted g) (p : Player) where
  -- a number by a move of a set of p's is below the count of his sequences
  move_below : (h m : ℕ) → h < g.sets → T (owns g p h) → m < g.set_moves h → first_sequence g h + m < sequence_count g p
  unfolding first_sequence move_number sequence_count
  move_below h m l o b = omega (arith, moves_block g p h g.sets l o, ap (λ (r : Player). moves_before g r h) (owner g p h o))

  -- so is that of each own sequence, for nodes below a bound
  numbers_below : (k n : ℕ) → n < k → n < g.nodes → own_number g p n < sequence_count g p
  unfolding sequence_count
  numbers_below zero n b l = absurd (omega arith)
  numbers_below (suc k) zero b l = omega (arith, number_root g p)
  numbers_below (suc k) (suc n) b l =
      let up = g.parent (suc n) in
      let a = R.parents n l in
      elim (dec (acts g p up)) [
        | yes t ↦
            let o = acts_parts g p up t in
            let s = move_below (g.node_set up) (g.move (suc n)) (R.decision_set up (omega arith) (decision_kind g up o.0)) o.1 (omega (arith, R.at_move n l, decision_moves g up o.0)) in
            omega (arith, number_here g R p (suc n) (λ e. omega arith) l t)
        | no t ↦ omega (arith, number_above g R p (suc n) (λ e. omega arith) l t, numbers_below k up (omega arith) (omega arith))
      ]

-- the number of an own sequence fits 16 bits
pub own_number_small : {g : Game} → Numberable g → (p : Player) (n : ℕ) → n < g.nodes → own_number g p n < 65536
own_number_small {g} N p n l = omega (arith, numbers_below g N.rooted p (suc n) n (omega arith) l, sequences_few N p)
