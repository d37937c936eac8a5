-- The limits that contracts name.
use Rattle.std.specs.Prelude.{ℕ, ◌≤◌, nat_abs}
use Rattle.model.specs.Game.{Game, Player}

-- The most nodes, sets and sequences of a game, and the most that a chance weight can be: a count of 12 bits.
abbrev pub count_limit : ℕ
count_limit = 4095

-- The most that contracts allow a weight or a denominator of a plan to be. Document 01's have 12 bits;
-- 16 are allowed, for which every sum stays within an i64, so that a wider edition of the plan file changes no contract.
abbrev pub weight_limit : ℕ
weight_limit = 65535

-- What the widths of its fields make sure of for the game of any file.
pub record GameLimits (g : Game) : Type 0 where
  pub nodes : g.nodes ≤ count_limit
  pub sets : g.sets ≤ count_limit
  pub root : g.root_weight ≤ count_limit
  pub weights : (n : ℕ) → g.weight n ≤ count_limit
  pub payoffs : (p : Player) (n : ℕ) → nat_abs (g.payoff p n) ≤ 32768
