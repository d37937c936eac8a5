-- Check 18 of ten buffers.
use Rattle.std.specs.Prelude.{ℕ, Bool, [], ◌∷◌, ◌&&◌, leb, length}
use Rattle.std.specs.List.{list_all}
use Rattle.model.specs.Writing.{GameFields}

-- whether each buffer of the sets has room for h entries, and each of the nodes' for n
abbrev pub roomy : (h n : ℕ) → GameFields → Bool
roomy h n b =
    list_all (λ room. leb h room) (length b.set_players ∷ length b.set_moves ∷ [])
    && list_all (λ room. leb n room) (length b.kinds ∷ length b.parents ∷ length b.moves ∷ length b.weights ∷ length b.node_sets ∷ length b.chance_moves ∷ length b.payoffs1 ∷ length b.payoffs2 ∷ [])
