-- What is written of buffers that hold a game's fields at their fronts.
use Rattle.std.specs.Prelude.{ℕ, take}
use Rattle.model.specs.Writing.{GameFields, game_fields_of}

-- D0, the first h entries of the sets' lists and the first n of the nodes'
abbrev pub fronts : (d h n : ℕ) → GameFields → GameFields
fronts d h n t =
    game_fields_of d
    (take h t.set_players)
    (take h t.set_moves)
    (take n t.kinds)
    (take n t.parents)
    (take n t.moves)
    (take n t.weights)
    (take n t.node_sets)
    (take n t.chance_moves)
    (take n t.payoffs1)
    (take n t.payoffs2)
