-- The invariant: the places below `h` of both lists are filled. What an entry gives is one place more.
use Rattle.algebra.proofs.Fillings.{Filling}
use Rattle.model.specs.Game.{game_of}
use Rattle.model.specs.Writing.{player_field}
use Rattle.columns.proofs.set_columns.Given as goal

abbrev pub invariant-loop-h : goal.invariant-loop-h
invariant-loop-h l = Filling (player_field (game_of l.bytes)) (game_of l.bytes).sets l.initial.players l.h l.players
    × Filling (game_of l.bytes).set_moves (game_of l.bytes).sets l.initial.moves l.h l.moves
