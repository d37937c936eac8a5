-- One record put into the sections of a loaded game.
use Rattle.std.specs.Prelude.{ℕ, ◌+◌, cond, List, ℤ, set, eqb}
use Rattle.model.specs.Game.{one, two}
use Rattle.records.specs.declared.game_file.SetEntry.{SetEntry}
use Rattle.records.specs.declared.game_file.NodeRecord.{NodeRecord}
use Rattle.records.specs.Records.{kind_number, kind_in, set_in, moves_in, payoff1_in, payoff2_in}
use Rattle.loaded.specs.Sections.{player_section, moves_section, kind_section, parent_section, place_section, weight_section, payload_section, payoff_section}

-- the entry of set h
unfoldable pub entry_put : SetEntry → (h : ℕ) → List ℕ → List ℕ
entry_put x h l = set (set l (player_section + h) x.player) (moves_section + h) x.moves

-- a node's kind, by its number
abbrev pub kind_put : NodeRecord → ℕ
kind_put x = kind_number (kind_in x.payload)

-- a decision's set, and any other node's move count
unfoldable pub payload_of_kind : NodeRecord → ℕ
payload_of_kind x = cond (eqb (kind_put x) 1) (set_in x.payload) (moves_in x.payload)

-- the record of node n, without the payoffs
unfoldable pub node_put : NodeRecord → (n : ℕ) → List ℕ → List ℕ
node_put x n l =
    let front = set (set l (kind_section + n) (kind_put x)) (parent_section + n) x.parent in
    set (set (set front (place_section + n) x.place) (weight_section + n) x.weight) (payload_section + n) (payload_of_kind x)

-- both payoffs of the leaf at a place
unfoldable pub payoffs_put : (payoff1 payoff2 : ℤ) → (at : ℕ) → List ℤ → List ℤ
payoffs_put payoff1 payoff2 at l = set (set l (payoff_section one + at) payoff1) (payoff_section two + at) payoff2

-- those of a node that is a leaf
unfoldable pub leaf_put : NodeRecord → (at : ℕ) → List ℤ → List ℤ
leaf_put x at l = cond (eqb (kind_put x) 0) (payoffs_put (payoff1_in x.payload) (payoff2_in x.payload) at l) l

-- the place after it
unfoldable pub next_place : NodeRecord → (at : ℕ) → ℕ
next_place x at = cond (eqb (kind_put x) 0) (at + 1) at
