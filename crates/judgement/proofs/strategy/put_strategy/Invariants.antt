-- The invariant: the moves of the player's sets below `h` are placed, and `at` is how many they are.
use mathlib.Core.Path.{◌≡◌}
use lib.ListN.{length}
use Rattle.algebra.specs.Arrays.{item}
use Rattle.algebra.proofs.Filters.{gathered_below, Gathering}
use Rattle.loaded.specs.Players.{as_player}
use Rattle.judgement.specs.Strategy.{is_own}
use Rattle.judgement.proofs.strategy.put_strategy.Given as goal

abbrev pub invariant-loop-h : goal.invariant-loop-h
invariant-loop-h l = (l.at ≡ length (gathered_below (is_own l.numbers (as_player l.player)) l.h))
    × Gathering (is_own l.numbers (as_player l.player)) (item l.moves) l.h l.initial.out l.out
