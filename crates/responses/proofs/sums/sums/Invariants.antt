-- The invariant: of each game there, the leaves at the places below `k` are added up by own sequence.
use Rattle.algebra.specs.Arrays.{item}
use Rattle.model.specs.Game.{Game, other}
use Rattle.loaded.specs.Players.{as_player}
use Rattle.model.specs.Sequences.{sequence_count}
use Rattle.responses.specs.Responses.{LoadedAs}
use Rattle.loaded.specs.Weights.{plan_by_number, Weights}
use Rattle.responses.specs.Worths.{HoldsZ}
use Rattle.responses.proofs.LeafLaws.{leaf_sum_of}
use Rattle.responses.proofs.sums.sums.Given as goal

abbrev pub invariant-loop-k : goal.invariant-loop-k
invariant-loop-k l =
    (g : Game) → LoadedAs g l.game → Weights g (other (as_player l.fn.player)) l.y → HoldsZ (leaf_sum_of g (as_player l.fn.player) (plan_by_number g (other (as_player l.fn.player)) (item l.y)) l.k) (sequence_count g (as_player l.fn.player)) l.out
