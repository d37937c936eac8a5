-- What the two slices of a loaded game hold of it.
use Rattle.std.specs.Prelude.{ℕ, ◌≤◌, ◌≡◌, List, ℤ, length}
use Rattle.algebra.specs.Arrays.{item}
use Rattle.algebra.specs.Sections.{Held}
use Rattle.model.specs.Limits.{count_limit, GameLimits}
use Rattle.model.specs.Game.{Game, Player}
use Rattle.model.specs.Sequences.{first_node, leading_number, sequence_count}
use Rattle.model.specs.Table.{own_number}
use Rattle.model.specs.Writing.{player_field}
use Rattle.model.specs.Rules.{GameRules}
use Rattle.loaded.specs.Sections.{player_section, moves_section, kind_section, parent_section, place_section, weight_section, payload_section, first_node_section, start_section, own_section_of, lead_section, order_section, leaf_section, chance_section, head_section_of, next_section, numbers_room, payoff_section}
use Rattle.loaded.specs.Leaves.{leaves_of, leaf_of}
use Rattle.loaded.specs.Sets.{payload_number, first_sequence, first_led, next_led, set_order}
use Rattle.loaded.specs.Rooted.{Rooted}
use Rattle.loaded.specs.Counts.{counts_of}
use Rattle.loaded.specs.declared.Counts.{Counts}

-- The set entries of a game.
pub record SetsDecoded (g : Game) (numbers : List ℕ) : Type 0 where
  pub players : Held player_section (player_field g) g.sets numbers
  pub moves : Held moves_section g.set_moves g.sets numbers

-- Its node records, without the payoffs.
pub record NodesDecoded (g : Game) (numbers : List ℕ) : Type 0 where
  pub kinds : Held kind_section g.kind g.nodes numbers
  pub parents : Held parent_section g.parent g.nodes numbers
  pub places : Held place_section g.move g.nodes numbers
  pub weights : Held weight_section g.weight g.nodes numbers
  pub payloads : Held payload_section (payload_number g) g.nodes numbers

-- Both: all that the checks of its tree take.
pub record Decoded (g : Game) (numbers : List ℕ) : Type 0 where
  pub few_nodes : g.nodes ≤ count_limit
  pub few_sets : g.sets ≤ count_limit
  pub room : numbers_room ≤ length numbers
  pub sets_decoded : SetsDecoded g numbers
  pub nodes_decoded : NodesDecoded g numbers

-- The sections hold some game of so many nodes and sets whose nodes hang together.
pub record RootedIn (nodes sets : ℕ) (numbers : List ℕ) : Type 0 where
  pub game : Game
  pub nodes_are : nodes ≡ game.nodes
  pub sets_are : sets ≡ game.sets
  pub decoded : Decoded game numbers
  pub rooted : Rooted game

-- The numbers of an accepted game, section by section.
pub record NumbersLoaded (g : Game) (c : Counts) (numbers : List ℕ) : Type 0 where
  pub rules : GameRules g
  pub limits : GameLimits g
  pub counts_are : c ≡ counts_of g
  pub decoded : Decoded g numbers
  pub first_nodes : Held first_node_section (first_node g) g.sets numbers
  pub starts : Held start_section (first_sequence g) g.sets numbers
  pub own : (p : Player) → Held (own_section_of p) (own_number g p) g.nodes numbers
  pub leads : Held lead_section (leading_number g) g.sets numbers
  pub order : Held order_section (item (set_order g)) g.sets numbers
  pub leaves : (p : Player) → Held (leaf_section p) (λ k. own_number g p (leaf_of g k)) (length (leaves_of g)) numbers
  pub chances : Held chance_section (λ k. g.weight (leaf_of g k)) (length (leaves_of g)) numbers
  pub heads : (p : Player) → Held (head_section_of p) (λ s. first_led g p s 0) (sequence_count g p) numbers
  pub nexts : Held next_section (next_led g) g.sets numbers

-- The loaded game: its numbers, and by leaf each player's payoffs.
pub record Loaded (g : Game) (c : Counts) (numbers : List ℕ) (payoffs : List ℤ) : Type 0 where
  pub in_numbers : NumbersLoaded g c numbers
  pub in_payoffs : (p : Player) → Held (payoff_section p) (λ k. g.payoff p (leaf_of g k)) (length (leaves_of g)) payoffs
