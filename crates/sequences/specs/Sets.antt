-- The set of a node, how many sequences there are, and what makes them few.
use Rattle.std.specs.Prelude.{ℕ, Option, Some, None, T, cond}
use Rattle.model.specs.Game.{Game, one, two, is_decision}
use Rattle.model.specs.Sequences.{sequence_count}
use Rattle.model.specs.GameChecks.{moves_lead_on_of, sets_non_empty_of}
use Rattle.loaded.specs.Rooted.{Rooted}
use Rattle.sequences.specs.declared.SequenceCounts.{SequenceCounts}

-- the set of node n, where it is a decision
unfoldable pub set_of_node : Game → (n : ℕ) → Option ℕ
set_of_node g n = cond (is_decision g n) (Some (g.node_set n)) None

-- how many sequences each player has
unfoldable pub sequence_counts : Game → SequenceCounts
sequence_counts g = record { first = sequence_count g one; second = sequence_count g two }

-- What checks 8, 9 and 12 have shown: a player then has no more sequences than there are nodes, so that their numbers fit 16 bits.
pub record Numberable (g : Game) : Type 0 where
  pub rooted : Rooted g
  pub moves_lead_on : T (moves_lead_on_of g)
  pub sets_non_empty : T (sets_non_empty_of g)
