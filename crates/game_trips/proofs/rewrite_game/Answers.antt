-- What is read is written again.
use native.Mathlib.Omega.{arith}
use native.Mathlib.Nat.{le_refl}
use Rattle.model.specs.Limits.{count_limit}
use Rattle.model.specs.Demand2.{IsBytes}
use Rattle.checks.proofs.AnswerLaws.{passed_on}
use Rattle.columns.specs.Buffers.{held}
use Rattle.game_trips.proofs.Games.{rewrite_refused, Read, read_given, rewrite_given}
use Rattle.game_trips.proofs.rewrite_game.Goals as goal
use Rattle.game_trips.proofs.rewrite_game.Goals.{After-shared_slice_known-1, In_ok-counts}

pub returns-in_err-counts : goal.returns-in_err-counts
returns-in_err-counts c =
    rw (passed_on c.from_residual.ensures.1) (rewrite_refused _ _ c.game_fields.ensures.call c.in_err-counts.was (record {
      set_players = le_refl count_limit;
      set_moves = le_refl count_limit;
      kinds = le_refl count_limit;
      parents = le_refl count_limit;
      moves = le_refl count_limit;
      weights = le_refl count_limit;
      node_sets = le_refl count_limit;
      chance_moves = le_refl count_limit;
      payoffs1 = le_refl count_limit;
      payoffs2 = le_refl count_limit;
    }))

-- a lent slice of u8 holds bytes
bytes : (c : After-shared_slice_known-1) → IsBytes c.args.game.now
bytes c i = omega (arith, c.shared_slice_known-1.given i)

-- what is read
read : (c : In_ok-counts) → let r = c.in_ok-counts.counts in Read c.args.game.now r.root_weight r.sets r.nodes (held c.game_fields.new.buffers)
read c = read_given _ _ _ c.game_fields.ensures.call c.in_ok-counts.was

pub returns : goal.returns
returns c =
    rewrite_given _ _ (bytes (goal.at.returns c).After-shared_slice_known-1) (read (goal.at.returns c).In_ok-counts) c.index-h.ensures c.index-n.ensures c.write_fronts.ensures

pub write_fronts-requires : goal.write_fronts-requires
write_fronts-requires c = rw (c.index-h.ensures, c.index-n.ensures) (read (goal.at.write_fronts-requires c).In_ok-counts).room
