-- The sequences of a set of a loaded game: as the game has them, and where they stand among its player's.
use Prim.Native.Nat.{ℕ, ◌+◌, ◌≤◌, ◌<◌}
use mathlib.Core.Path.{◌≡◌, ap, ◌∙◌}
use mathlib.Core.Bool.{true, false}
use mathlib.Core.List.{List}
use denote.Enum.Bare.{sameb}
use native.Mathlib.Omega.{arith}
use lib.ListN.{length}
use lib.Dec.{T}
use Rattle.algebra.specs.Arrays.{item}
use Rattle.model.specs.Game.{Game, Player, owns}
use Rattle.model.specs.Sequences.{leading, sequence_number, leading_number, sequence_count}
use Rattle.model.specs.Rules.{GameRules}
use Rattle.model.proofs.Numbers.{moves_block, number_below}
use Rattle.model.proofs.Tree.{owner, leading_sequence}
use Rattle.loaded.specs.Sections.{lead_section, order_section}
use Rattle.loaded.specs.Players.{as_player, owner_in}
use Rattle.loaded.specs.Sets.{set_order}
use Rattle.loaded.specs.SetSequences.{set_sequences_in, set_sequences_of}
use Rattle.loaded.specs.Loaded.{NumbersLoaded}
use Rattle.loaded.specs.declared.Counts.{Counts}
use Rattle.loaded.specs.contracts.Player.{the_type}
use Rattle.loaded.specs.declared.Player as Code
use Rattle.loaded.specs.declared.SetSequences.{SetSequences}
use Rattle.loaded.proofs.Owners.{is_owner, not_owner, own_start}
use Rattle.loaded.proofs.SetOrder.{order_set}

module _ {g : Game} {c : Counts} {numbers : List ℕ} (L : NumbersLoaded g c numbers) {h : ℕ} (l : h < g.sets) where
  -- its last section has a place for the set
  pub set_place : lead_section + h < length numbers
  set_place = omega (arith, L.leads.long)

  -- what is read is what the game has
  pub sequences_read : {s : SetSequences} → s ≡ set_sequences_in numbers h → s ≡ set_sequences_of g h
  unfolding set_sequences_in set_sequences_of
  sequences_read e = e ∙ rw (L.starts.at 0 h l, L.decoded.sets_decoded.moves.at 0 h l, L.leads.at 0 h l)

-- The set at a place of the order of first nodes, as it is read.
module _ {g : Game} {c : Counts} {numbers : List ℕ} (L : NumbersLoaded g c numbers) {i : ℕ} (l : i < g.sets) {h : ℕ} (read : h ≡ item numbers (order_section + i)) where
  -- it is the one that stands there
  pub next_read : h ≡ item (set_order g) i
  next_read = read ∙ L.order.at 0 i l

  -- and one of the game's
  pub next_inside : h < g.sets
  next_inside = omega (arith, next_read, order_set g L.rules i l)

  -- whose it is, by its owner as he is read
  module _ (owner p : Code.Player) (is : as_player owner ≡ owner_in numbers h) where
    pub next_his : true ≡ sameb the_type owner p → T (owns g (as_player p) h)
    next_his e = is_owner g L.decoded.sets_decoded.players next_inside owner p is e

    pub next_not_his : false ≡ sameb the_type owner p → ¬ T (owns g (as_player p) h)
    next_not_his e = not_owner g L.decoded.sets_decoded.players next_inside owner p is e

-- Where the sequences of a set stand among so many.
pub record Stand (count : ℕ) (s : SetSequences) : Type 0 where
  pub few : s.moves ≤ 64
  pub some : 1 ≤ s.moves
  pub first : 1 ≤ s.start
  pub block : s.start + s.moves ≤ count
  pub below : s.lead < count

-- a set of p's stands among his sequences
pub set_stands : {g : Game} → GameRules g → (p : Player) {h : ℕ} → h < g.sets → T (owns g p h) → {s : SetSequences} → s ≡ set_sequences_of g h → Stand (sequence_count g p) s
unfolding set_sequences_of leading_number sequence_count
set_stands {g} R p {h} l o e =
    let last : sequence_number g (g.set_player h) (leading g h) ≡ sequence_number g p (leading g h) = ap (λ (r : Player). sequence_number g r (leading g h)) (owner g p h o) in
    let from = own_start g p h o in
    rw e (record {
      few = (R.set_moves h l).1;
      some = (R.set_moves h l).0;
      first = omega arith;
      block = omega (arith, moves_block g p h g.sets l o);
      below = omega (arith, last, number_below g p (leading g h) (leading_sequence g R p h l o));
    })
