-- The own sequence that leads to a set. Its clauses of demand 1 and of demand 2.
use Prim.Native.Nat.{ℕ}
use mathlib.Core.Path.{ap}
use mathlib.Core.List.{List, []}
use Rattle.model.specs.Game.{game_of}
use Rattle.model.specs.Sequences.{leading_number}
use Rattle.model.specs.Call.{Outcome}
use Rattle.model.specs.Calls.Asked.{asked}
use Rattle.model.specs.Calls.OwnSequence.{call, own_sequence_of}
use Rattle.model.specs.Demand1.{Clause, InGame}
use Rattle.model.specs.Demand2.{GivesLeading}
use Rattle.model.proofs.Numbers.{leading_number_lem}
use Rattle.model.proofs.Call.{clause}
use Rattle.model.proofs.Calls.Asked.{asked_decided}

pub demand1 : Clause call (InGame (λ g. g.sets))
unfolding call
demand1 = clause call (asked_decided (λ g. g.sets))

pub demand2 : (game : List ℕ) (set : ℕ) → GivesLeading game set (own_sequence_of game set)
unfolding call
demand2 game set file l =
    let g = game_of game in
    (leading_number g set, ap (λ (o : Outcome [] ℕ). o.answer) (demand1.taken (asked game set) tt (file, l) tt), leading_number_lem g file.rules set l)
