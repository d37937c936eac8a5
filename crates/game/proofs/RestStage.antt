-- The sections that no check takes: what each call leaves for the next, and all that is loaded in the end.
use Prim.Native.Nat.{ℕ}
use mathlib.Core.Path.{◌≡◌, ap}
use mathlib.Core.List.{List}
use native.Mathlib.Omega.{arith}
use lib.ListN.{length}
use Rattle.algebra.specs.Arrays.{item}
use Rattle.algebra.specs.Sections.{Held, Apart}
use Rattle.algebra.proofs.Sections.{held_before}
use Rattle.model.specs.Game.{Game, Player, one, two}
use Rattle.model.specs.Sequences.{leading_number, sequence_count}
use Rattle.model.specs.Table.{own_number}
use Rattle.loaded.specs.Sections.{lead_section, order_section, leaf_section, head_section_of, numbers_room}
use Rattle.loaded.specs.Leaves.{leaves_of, leaf_of}
use Rattle.loaded.specs.Sets.{set_order}
use Rattle.loaded.specs.Counts.{counts_of}
use Rattle.loaded.specs.Loaded.{NumbersLoaded}
use Rattle.loaded.specs.declared.Counts.{Counts}
use Rattle.loaded.proofs.Gathered.{all_few}
use Rattle.sequences.proofs.Stored.{filled_apart}
use Rattle.gather.specs.Numbered.{Numbered}
use Rattle.gather.specs.Gathered.{LeavesGathered, Chained}
use Rattle.gather.proofs.Numbered.{numbered_apart}
use Rattle.game.specs.Stages.{Sequenced}

module _ {g : Game} {c : Counts} {l : List ℕ} (S : Sequenced g c l) where
  -- the counts are the game's: nodes, sets, each player's sequences
  pub counted : (c.nodes ≡ g.nodes) × (c.sets ≡ g.sets) × (c.sequences1 ≡ sequence_count g one) × (c.sequences2 ≡ sequence_count g two)
  unfolding counts_of
  counted =
      let e = S.counts_are in
      (ap (λ (c : Counts). c.nodes) e, ap (λ (c : Counts). c.sets) e, ap (λ (c : Counts). c.sequences1) e, ap (λ (c : Counts). c.sequences2) e)

  -- leading sequences are put
  pub numbered : {k : List ℕ} → Apart lead_section order_section l k → Held lead_section (leading_number g) g.sets k → Numbered g k
  numbered a h =
      let F = filled_apart S.sequences.filled a (omega arith) in
      record { rules = S.rules; decoded = F.decoded; first_nodes = F.first_nodes; own = F.own; leads = h }

  -- and the order of the sets, the leaves and the chains
  pub all_loaded : {i j k m : List ℕ} {leaves : ℕ} → Apart lead_section order_section l i → Numbered g i → Apart order_section (leaf_section one) i j → Held order_section (item (set_order g)) g.sets j → Apart (leaf_section one) (head_section_of one) j k → LeavesGathered g leaves k → Apart (head_section_of one) numbers_room k m → Chained g m → NumbersLoaded g c m
  all_loaded {i} {j} {k} {m} a1 N a2 order a3 L a4 C =
      let few = S.sequences.filled.decoded.few_sets in
      let last = numbered_apart (numbered_apart (numbered_apart N a2 (omega arith)) a3 (omega arith)) a4 (omega arith) in
      record {
        rules = S.rules;
        limits = S.limits;
        counts_are = S.counts_are;
        decoded = last.decoded;
        first_nodes = last.first_nodes;
        starts = held_before (held_before (held_before (held_before S.sequences.starts a1 (omega (arith, few))) a2 (omega (arith, few))) a3 (omega (arith, few))) a4 (omega (arith, few));
        own = last.own;
        leads = last.leads;
        order = held_before (held_before order a3 (omega (arith, few))) a4 (omega (arith, few));
        leaves = leaves_still;
        chances = held_before L.chances a4 (omega (arith, all_few g, N.decoded.few_nodes));
        heads = C.heads;
        nexts = C.nexts;
      }
    where
      leaves_still : (p : Player) → Held (leaf_section p) (λ x. own_number g p (leaf_of g x)) (length (leaves_of g)) m
      leaves_still one = held_before (L.leaves one) a4 (omega (arith, all_few g, N.decoded.few_nodes))
      leaves_still two = held_before (L.leaves two) a4 (omega (arith, all_few g, N.decoded.few_nodes))
