-- What the last sections hold of a game: as far as they are filled, and in the end.
use Rattle.std.specs.Prelude.{ℕ, zero, suc, ◌+◌, ◌≤◌, ◌<◌, ◌≡◌, List, length, get_or}
use Rattle.algebra.specs.Arrays.{item}
use Rattle.algebra.specs.Bounded.{join_to}
use Rattle.algebra.specs.Sections.{Held}
use Rattle.model.specs.Game.{Game, Player, one, two}
use Rattle.model.specs.Sequences.{sequence_count}
use Rattle.model.specs.Table.{own_number}
use Rattle.loaded.specs.Sections.{order_section, leaf_section, chance_section, head_section_of, next_section}
use Rattle.loaded.specs.Rows.{Rows}
use Rattle.loaded.specs.Leaves.{leaves_below, leaves_of, leaf_of}
use Rattle.loaded.specs.Sets.{first_led, next_led, begins_at, set_order}

module _ (g : Game) where
  -- the three sections by leaf: both players' own sequences, chance weights
  abbrev pub leaf_numbers : (t k : ℕ) → ℕ
  leaf_numbers zero k = own_number g one (leaf_of g k)
  leaf_numbers (suc zero) k = own_number g two (leaf_of g k)
  leaf_numbers (suc (suc t)) k = g.weight (leaf_of g k)

  -- the first `count` leaves stand in their three sections, and are those below node n
  pub record LeavesBelow (n count : ℕ) (numbers : List ℕ) : Type 0 where
    pub counted : count ≡ length (leaves_below g n)
    pub rows : Rows (leaf_section one) 3 leaf_numbers 0 count numbers

  -- all leaves
  pub record LeavesGathered (count : ℕ) (numbers : List ℕ) : Type 0 where
    pub counted : count ≡ length (leaves_of g)
    pub leaves : (p : Player) → Held (leaf_section p) (λ k. own_number g p (leaf_of g k)) (length (leaves_of g)) numbers
    pub chances : Held chance_section (λ k. g.weight (leaf_of g k)) (length (leaves_of g)) numbers

  -- the first `count` sets stand in order, and are those that begin below node n
  pub record OrderBelow (n count : ℕ) (numbers : List ℕ) : Type 0 where
    pub counted : count ≡ length (join_to n (begins_at g))
    pub order : Held order_section (item (set_order g)) count numbers

  -- the chains of the sets from h on are made
  pub record ChainsFrom (h : ℕ) (numbers : List ℕ) : Type 0 where
    pub heads : (p : Player) → Held (head_section_of p) (λ s. first_led g p s h) (sequence_count g p) numbers
    pub nexts : (d k : ℕ) → h ≤ k → k < g.sets → get_or numbers (next_section + k) d ≡ next_led g k

  -- all chains
  pub record Chained (numbers : List ℕ) : Type 0 where
    pub heads : (p : Player) → Held (head_section_of p) (λ s. first_led g p s 0) (sequence_count g p) numbers
    pub nexts : Held next_section (next_led g) g.sets numbers
