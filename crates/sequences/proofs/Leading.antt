-- Own numbers at the first nodes of sets, by what the sections have.
use Prim.Native.Nat.{ℕ, ◌+◌, ◌<◌}
use mathlib.Core.Path.{◌≡◌, sym, ap, ◌∙◌}
use mathlib.Core.List.{List}
use native.Mathlib.Omega.{arith}
use lib.Dec.{T}
use Rattle.algebra.specs.Arrays.{item}
use Rattle.algebra.specs.Sections.{Held}
use Rattle.algebra.proofs.Searches.{first_to_found}
use Rattle.model.specs.Game.{Game, Player, in_set}
use Rattle.model.specs.Sequences.{first_node, leading, leading_number}
use Rattle.model.specs.Table.{own_number}
use Rattle.model.specs.GameChecks.{sets_non_empty_of}
use Rattle.model.proofs.GameRules.{set_node_iff}
use Rattle.model.proofs.Tree.{first_in_lem}
use Rattle.loaded.specs.Sections.{first_node_section, own_section_of}
use Rattle.loaded.specs.Players.{owner_in}
use Rattle.loaded.specs.Loaded.{Decoded, NumbersLoaded}
use Rattle.loaded.specs.declared.Counts.{Counts}
use Rattle.loaded.proofs.Owners.{player_read}
use Rattle.loaded.proofs.Rooted.{rules_rooted}
use Rattle.sequences.specs.Recall.{OwnStored, OwnFilled}
use Rattle.sequences.proofs.Stored.{stored_none}

-- a set's first node is a node, where check 12 has passed
first_below : (g : Game) → T (sets_non_empty_of g) → (h : ℕ) → h < g.sets → first_node g h < g.nodes
unfolding first_node
first_below g t h l = let n = (set_node_iff g).holds t h l in (first_to_found g.nodes (in_set g h) n.0 n.1 n.2).1

-- The player and the first node of set h are read.
module _ {g : Game} {l : List ℕ} (D : Decoded g l) {h first : ℕ} {p : Player} (v : h < g.sets) (e : p ≡ owner_in l h) (F : Held first_node_section (first_node g) g.sets l) (f : first ≡ item l (first_node_section + h)) where
  -- the first node
  pub first_read : first ≡ first_node g h
  first_read = f ∙ F.at 0 h v

  -- the player's own number there is that of the sequence that leads to the set
  pub leading_is : {r : ℕ} → r ≡ own_number g p first → r ≡ leading_number g h
  unfolding own_number leading leading_number
  leading_is r = r ∙ rw (player_read D v e, first_read)

-- What is read of set h where own numbers are stored.
module _ {g : Game} {l : List ℕ} (F : OwnFilled g l) {h own : ℕ} {p : Player} (v : h < g.sets) (e : p ≡ owner_in l h) (o : own ≡ own_section_of p) where
  -- its player's own number at a node
  pub own_read : {n r : ℕ} → n < g.nodes → r ≡ item l (own + n) → r ≡ own_number g (g.set_player h) n
  own_read {n} w x = x ∙ rw (o, player_read F.decoded v e) ((F.own (g.set_player h)).at 0 n w)

  module _ {first : ℕ} (f : first ≡ item l (first_node_section + h)) where
    -- its first node
    pub first_in_nodes : first < g.nodes
    first_in_nodes = omega (arith, first_read F.decoded v e F.first_nodes f, first_below g F.sets_non_empty h v)

    -- and the number of the sequence that leads to it
    pub lead_read : {r : ℕ} → r ≡ item l (own + first) → r ≡ leading_number g h
    lead_read x = leading_is F.decoded v e F.first_nodes f (own_read first_in_nodes x ∙ ap (λ (p : Player). own_number g p first) (sym (player_read F.decoded v e)))

-- what the walk from a set's first node asks of a loaded game
pub loaded_stored : {g : Game} {c : Counts} {l : List ℕ} → NumbersLoaded g c l → (p : Player) → OwnStored g p 0 l
loaded_stored L p = stored_none L.decoded (rules_rooted L.limits L.rules) L.starts p

-- the first node of a set of a loaded game
pub loaded_first : {g : Game} {c : Counts} {l : List ℕ} → NumbersLoaded g c l → (h : ℕ) → h < g.sets → first_node g h < g.nodes
loaded_first {g} L h v = (first_in_lem g L.rules h v).1
