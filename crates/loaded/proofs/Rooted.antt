-- What checks 3, 5, 7 and 8 show of a game.
use Prim.Native.Nat.{ℕ, ◌≤◌, ◌<◌}
use mathlib.Core.Path.{◌≡◌}
use mathlib.Core.Bool.{Bool, true, false, cond}
use native.Mathlib.Omega.{arith}
use lib.Dec.{T}
use Rattle.model.specs.Limits.{GameLimits}
use Rattle.model.specs.Game.{Game, is_decision, is_chance, node_moves}
use Rattle.model.specs.GameChecks.{counts_positive_of, set_moves_in_range, payloads_in_range_of, nodes_attached_of}
use Rattle.model.specs.Rules.{GameRules}
use Rattle.model.proofs.Tree.{decision_kind, chance_kind}
use Rattle.model.proofs.GameRules.{counts_iff, set_moves_iff, payloads_iff, attached_iff}
use Rattle.loaded.specs.Rooted.{Rooted}

-- a node's move count is its set's, its own or none
bounded : (a b : Bool) (x y : ℕ) → (T a → x ≤ 64) → (T b → y ≤ 64) → cond a x (cond b y 0) ≤ 64
bounded true b x y h k = h tt
bounded false true x y h k = k tt
bounded false false x y h k = omega arith

module _ {g : Game} (L : GameLimits g) where
  -- a move count is at most 64 where each set's and each chance node's is
  count_small : ((h : ℕ) → h < g.sets → (1 ≤ g.set_moves h) × (g.set_moves h ≤ 64)) → ((n : ℕ) → n < g.nodes → g.kind n ≡ 1 → g.node_set n < g.sets) → ((n : ℕ) → n < g.nodes → g.kind n ≡ 2 → (1 ≤ g.chance_moves n) × (g.chance_moves n ≤ 64)) → (n : ℕ) → n < g.nodes → node_moves g n ≤ 64
  unfolding node_moves
  count_small sets decisions chances n l =
      bounded (is_decision g n) (is_chance g n) _ _ (λ t. (sets _ (decisions n l (decision_kind g n t))).1) (λ t. (chances n l (chance_kind g n t)).1)

  -- a game that passes them
  pub rooted : T (counts_positive_of g) → T (set_moves_in_range g) → T (payloads_in_range_of g) → T (nodes_attached_of g) → Rooted g
  rooted t3 t5 t7 t8 =
      let some = ((counts_iff g).holds t3).0 in
      let sets = (set_moves_iff g).holds t5 in
      let payloads = (payloads_iff g).holds t7 in
      let joined = (attached_iff g some).holds t8 in
      record {
        some_node = some;
        few_nodes = L.nodes;
        few_sets = L.sets;
        root_parent = joined.0.0;
        parents = λ n l. (joined.1 n l).0;
        at_move = λ n l. (joined.1 n l).1;
        few_moves = count_small sets payloads.0 payloads.1;
        set_moves = λ h l. (sets h l).1;
        decision_set = payloads.0;
      }

  -- a game that obeys every rule
  pub rules_rooted : GameRules g → Rooted g
  rules_rooted r = record {
    some_node = r.some_node;
    few_nodes = L.nodes;
    few_sets = L.sets;
    root_parent = r.root.0;
    parents = r.parents;
    at_move = r.at_move;
    few_moves = count_small r.set_moves r.decision_set r.chance_moves;
    set_moves = λ h l. (r.set_moves h l).1;
    decision_set = r.decision_set;
  }
