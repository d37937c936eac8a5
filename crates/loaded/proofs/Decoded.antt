-- A change after the sections that a game fills leaves these as they were.
use Prim.Native.Nat.{ℕ, ◌≤◌}
use mathlib.Core.List.{List}
use native.Mathlib.Omega.{arith}
use Rattle.algebra.specs.Sections.{Held, Apart}
use Rattle.algebra.proofs.Sections.{held_before}
use Rattle.model.specs.Limits.{count_limit}
use Rattle.model.specs.Game.{Game, Player, one, two}
use Rattle.model.specs.Table.{own_number}
use Rattle.loaded.specs.Sections.{kind_section, first_node_section, own_section_of, lead_section}
use Rattle.loaded.specs.Loaded.{SetsDecoded, Decoded, RootedIn}

module _ {g : Game} {low high : ℕ} {l k : List ℕ} where
  -- set entries stand before node records
  pub sets_apart : SetsDecoded g l → Apart low high l k → kind_section ≤ low → g.sets ≤ count_limit → SetsDecoded g k
  sets_apart S a b few = record { players = held_before S.players a (omega arith); moves = held_before S.moves a (omega arith) }

  -- both before all else
  pub decoded_apart : Decoded g l → Apart low high l k → first_node_section ≤ low → Decoded g k
  decoded_apart D a b = record {
    few_nodes = D.few_nodes;
    few_sets = D.few_sets;
    room = omega (arith, D.room, a.long);
    sets_decoded = sets_apart D.sets_decoded a (omega arith) D.few_sets;
    nodes_decoded = record {
      kinds = held_before D.nodes_decoded.kinds a (omega (arith, D.few_nodes));
      parents = held_before D.nodes_decoded.parents a (omega (arith, D.few_nodes));
      places = held_before D.nodes_decoded.places a (omega (arith, D.few_nodes));
      weights = held_before D.nodes_decoded.weights a (omega (arith, D.few_nodes));
      payloads = held_before D.nodes_decoded.payloads a (omega (arith, D.few_nodes));
    };
  }

-- own sequences of both players stand before leading sequences
pub own_apart : (g : Game) {low high : ℕ} {l k : List ℕ} → ((p : Player) → Held (own_section_of p) (own_number g p) g.nodes l) → Apart low high l k → lead_section ≤ low → g.nodes ≤ count_limit → (p : Player) → Held (own_section_of p) (own_number g p) g.nodes k
own_apart g own a b few one = held_before (own one) a (omega arith)
own_apart g own a b few two = held_before (own two) a (omega arith)

-- some game whose nodes hang together is still there
pub rooted_apart : {nodes sets low high : ℕ} {l k : List ℕ} → RootedIn nodes sets l → Apart low high l k → first_node_section ≤ low → RootedIn nodes sets k
rooted_apart R a b = record { game = R.game; nodes_are = R.nodes_are; sets_are = R.sets_are; decoded = decoded_apart R.decoded a b; rooted = R.rooted }
