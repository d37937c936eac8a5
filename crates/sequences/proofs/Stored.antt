-- Own numbers stored node by node: each store leaves the rest as it was.
use Prim.Native.Nat.{ℕ, ◌+◌, ◌≤◌, ◌<◌}
use mathlib.Core.Path.{◌≡◌, ◌∙◌}
use mathlib.Core.List.{List}
use native.Mathlib.Omega.{arith}
use lib.ListN.{set}
use Rattle.algebra.specs.Sections.{Held, Apart}
use Rattle.algebra.proofs.Sections.{held_none, held_more, held_before, apart_none, apart_set}
use Rattle.model.specs.Game.{Game, Player, one, two}
use Rattle.model.specs.Table.{own_number}
use Rattle.loaded.specs.Sections.{section_room, start_section, own_section_of, lead_section}
use Rattle.loaded.specs.Rooted.{Rooted}
use Rattle.loaded.specs.Sets.{first_sequence}
use Rattle.loaded.specs.Loaded.{Decoded}
use Rattle.loaded.proofs.Decoded.{decoded_apart, own_apart}
use Rattle.sequences.specs.Recall.{OwnStored, OwnFilled}

-- where a player's own numbers begin
pub own_range : (p : Player) → (own_section_of one ≤ own_section_of p) × (own_section_of p ≤ own_section_of two)
own_range one = (omega arith, omega arith)
own_range two = (omega arith, omega arith)

-- no own number is stored yet
pub stored_none : {g : Game} {l : List ℕ} → Decoded g l → Rooted g → Held start_section (first_sequence g) g.sets l → (p : Player) → OwnStored g p 0 l
stored_none D R S p = record { decoded = D; rooted = R; starts = S; own = held_none _ (omega (arith, own_range p, D.room)) }

-- one more own number is stored
pub stored_more : {g : Game} {p : Player} {n : ℕ} {l k : List ℕ} (own x : ℕ) → OwnStored g p n l → n < g.nodes → own ≡ own_section_of p → k ≡ set l (own + n) x → x ≡ own_number g p n → OwnStored g p (n + 1) k
stored_more {p = p} {n} {l} {k} own x S v e s is =
    let q : k ≡ set l (own_section_of p + n) x = s ∙ rw e in
    let a : Apart (own_section_of p) (own_section_of p + section_room) l k = apart_set (own_section_of p + n) x apart_none q (omega arith) (omega (arith, S.decoded.few_nodes)) in
    record {
      decoded = decoded_apart S.decoded a (omega (arith, own_range p));
      rooted = S.rooted;
      starts = held_before S.starts a (omega (arith, own_range p, S.decoded.few_sets));
      own = held_more x S.own (omega (arith, own_range p, S.decoded.room, S.decoded.few_nodes)) q is;
    }

-- a change after the own numbers leaves them, and all before them, as they were
pub filled_apart : {g : Game} {low high : ℕ} {l k : List ℕ} → OwnFilled g l → Apart low high l k → lead_section ≤ low → OwnFilled g k
filled_apart F a b = record {
  decoded = decoded_apart F.decoded a (omega arith);
  rooted = F.rooted;
  sets_non_empty = F.sets_non_empty;
  first_nodes = held_before F.first_nodes a (omega (arith, F.decoded.few_sets));
  own = own_apart _ F.own a b F.decoded.few_nodes;
}
