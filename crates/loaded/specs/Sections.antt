-- Where each section of a loaded game begins.
use Rattle.std.specs.Prelude.{ℕ, ◌*◌}
use Rattle.model.specs.Game.{Player, one, two}

-- the places of a section
abbrev pub section_room : ℕ
section_room = 4096

-- by set: its player, its move count
abbrev pub player_section : ℕ
player_section = 0

abbrev pub moves_section : ℕ
moves_section = section_room

-- by node: kind, parent, move at the parent, chance weight, and what its payload counts or names
abbrev pub kind_section : ℕ
kind_section = 2 * section_room

abbrev pub parent_section : ℕ
parent_section = 3 * section_room

abbrev pub place_section : ℕ
place_section = 4 * section_room

abbrev pub weight_section : ℕ
weight_section = 5 * section_room

abbrev pub payload_section : ℕ
payload_section = 6 * section_room

-- by set: its first node, and the number of its first sequence
abbrev pub first_node_section : ℕ
first_node_section = 7 * section_room

abbrev pub start_section : ℕ
start_section = 8 * section_room

-- by node: the number of a player's own sequence to it
abbrev pub own_section_of : Player → ℕ
own_section_of one = 9 * section_room
own_section_of two = 10 * section_room

-- by set: the number of the sequence that leads to it
abbrev pub lead_section : ℕ
lead_section = 11 * section_room

-- the sets in the order of their first nodes
abbrev pub order_section : ℕ
order_section = 12 * section_room

-- by leaf: the number of a player's own sequence to it
abbrev pub leaf_section : Player → ℕ
leaf_section one = 13 * section_room
leaf_section two = 14 * section_room

-- and its chance weight
abbrev pub chance_section : ℕ
chance_section = 15 * section_room

-- by sequence of a player: the first set that it leads to
abbrev pub head_section_of : Player → ℕ
head_section_of one = 16 * section_room
head_section_of two = 17 * section_room

-- by set: the next one that the same sequence leads to
abbrev pub next_section : ℕ
next_section = 18 * section_room

-- how many numbers there are
abbrev pub numbers_room : ℕ
numbers_room = 19 * section_room

-- by leaf: a player's payoff, among the payoffs
abbrev pub payoff_section : Player → ℕ
payoff_section one = 0
payoff_section two = section_room

-- how many payoffs there are
abbrev pub payoffs_room : ℕ
payoffs_room = 2 * section_room
