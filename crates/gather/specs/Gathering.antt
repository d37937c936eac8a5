-- A loop over the nodes that adds what it finds at each to sections of its own.
use Rattle.std.specs.Prelude.{ℕ, ◌+◌, ◌≤◌, ◌<◌, ◌≡◌, List}
use Rattle.algebra.specs.Sections.{Apart}
use Rattle.model.specs.Game.{Game}
use Rattle.gather.specs.Numbered.{Numbered}

-- The sections stand from `low` to `high`; what they hold of a game of the nodes below n, in so many places, is `Below`.
module _ (low high : ℕ) (Below : Game → (n count : ℕ) → List ℕ → Type 0) where
  -- node n is added: at most one place more
  pub record Added (n count next : ℕ) (before after : List ℕ) : Type 0 where
    pub once : next ≤ count + 1
    pub apart : Apart low high before after
    pub held : (g : Game) → n < g.nodes → Numbered g before → Below g n count before → Below g (n + 1) next after

  -- of so many nodes those below n are added
  pub record Gathering (nodes n count : ℕ) (before after : List ℕ) : Type 0 where
    pub some : n ≤ nodes
    pub few : count ≤ n
    pub apart : Apart low high before after
    pub held : (g : Game) → nodes ≡ g.nodes → Numbered g before → Below g n count after
