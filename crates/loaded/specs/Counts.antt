-- How much a game has of each, and what one player's best response takes of it.
use Rattle.std.specs.Prelude.{length}
use Rattle.model.specs.Game.{Game, Player, one, two}
use Rattle.model.specs.Sequences.{sequence_count}
use Rattle.loaded.specs.Leaves.{leaves_of}
use Rattle.loaded.specs.Sections.{leaf_section, payoff_section, head_section_of}
use Rattle.loaded.specs.declared.Counts.{Counts}
use Rattle.loaded.specs.declared.Side.{Side}
use Rattle.loaded.specs.declared.Player.TheVariants.{One, Two}

-- nodes, sets, leaves, each player's sequences, and D0
unfoldable pub counts_of : Game → Counts
counts_of g = record {
  nodes = g.nodes;
  sets = g.sets;
  leaves = length (leaves_of g);
  sequences1 = sequence_count g one;
  sequences2 = sequence_count g two;
  root_weight = g.root_weight;
}

-- a player's side
unfoldable pub side_of : Counts → Player → Side
side_of c one = record { player = One; own = leaf_section one; opponent = leaf_section two; payoffs = payoff_section one; heads = head_section_of one; sequences = c.sequences1 }
side_of c two = record { player = Two; own = leaf_section two; opponent = leaf_section one; payoffs = payoff_section two; heads = head_section_of two; sequences = c.sequences2 }
