-- The two stores are the definition's.
use mathlib.Core.List.{List}
use mathlib.Core.Path.{ap, ◌∙◌}
use Prim.Native.Nat.{ℕ, ◌+◌}
use lib.ListN.{set}
use Rattle.loaded.specs.Sections.{moves_section}
use Rattle.decoding.specs.Puts.{entry_put}
use Rattle.decoding.proofs.put_entry.Goals as goal

pub returns : goal.returns
unfolding entry_put
returns c =
    let a = c.args in
    c.put-2.ensures ∙ ap (λ (l : List ℕ). set l (moves_section + a.h) a.entry.moves) c.put.ensures
