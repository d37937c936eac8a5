-- A game whose nodes hang together, as the checks of single records leave it for those of the tree.
use Rattle.std.specs.Prelude.{ℕ, suc, ◌≤◌, ◌<◌, ◌≡◌}
use Rattle.model.specs.Limits.{count_limit}
use Rattle.model.specs.Game.{Game, node_moves}

-- what the widths of the fields and checks 3, 5, 7 and 8 have shown
pub record Rooted (g : Game) : Type 0 where
  pub some_node : 0 < g.nodes
  pub few_nodes : g.nodes ≤ count_limit
  pub few_sets : g.sets ≤ count_limit
  pub root_parent : g.parent 0 ≡ 0
  pub parents : (n : ℕ) → suc n < g.nodes → g.parent (suc n) < suc n
  pub at_move : (n : ℕ) → suc n < g.nodes → g.move (suc n) < node_moves g (g.parent (suc n))
  pub few_moves : (n : ℕ) → n < g.nodes → node_moves g n ≤ 64
  pub set_moves : (h : ℕ) → h < g.sets → g.set_moves h ≤ 64
  pub decision_set : (n : ℕ) → n < g.nodes → g.kind n ≡ 1 → g.node_set n < g.sets
