-- The invariant: each set below `h` passes check 5, and its entry is put. A set that fails, or the end of the sets, closes a return.
use Rattle.model.specs.Game.{game_of}
use Rattle.model.specs.GameChecks.{is_move_count_of}
use Rattle.checks.proofs.Passes.{Passed}
use Rattle.decoding.proofs.Entries.{SetsPut}
use Rattle.decoding.proofs.load_sets.Given as goal

abbrev pub invariant-loop-h : goal.invariant-loop-h
invariant-loop-h l = Passed (λ k. is_move_count_of ((game_of l.bytes).set_moves k)) (game_of l.bytes).sets l.h
    × SetsPut (game_of l.bytes) l.h l.initial.numbers l.numbers
