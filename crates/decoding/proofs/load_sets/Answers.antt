use Prim.Native.Nat.{◌<◌}
use mathlib.Core.Path.{◌≡◌, sym, ap, ◌∙◌}
use native.Mathlib.Omega.{arith}
use Rattle.algebra.proofs.Tests.{false→not}
use Rattle.model.specs.Game.{game_of}
use Rattle.model.specs.GameChecks.{is_move_count_of, set_moves_in_range}
use Rattle.checks.proofs.Passes.{passed_none, passed_more, passed_false, passed_not, passed_all}
use Rattle.records.proofs.Widths.{few_sets}
use Rattle.decoding.proofs.Filled.{filled_none}
use Rattle.decoding.proofs.Entries.{sets_more, sets_decoded}
use Rattle.decoding.proofs.load_sets.Goals as goal
use Rattle.decoding.proofs.load_sets.Goals.{After-is_move_count, In-loop-h}

-- the loop's set is one of 4,095
small : (c : In-loop-h) → c.loop-h.h < 4095
small c = omega (arith, c.requires.0, few_sets c.args.bytes.now)

-- the test that is made is the model's
made : (c : After-is_move_count) → c.is_move_count.result ≡ is_move_count_of ((game_of c.args.bytes.now).set_moves c.loop-h.h)
made c = c.is_move_count.ensures ∙ ap is_move_count_of c.read-entry.ensures.moves

pub put_entry-requires : goal.put_entry-requires
put_entry-requires c =
    let R = c.read-entry.ensures in
    (omega (arith, R.player_fits), omega (arith, R.moves_fit), omega (arith, small (goal.at.put_entry-requires c).In-loop-h), omega (arith, c.loop-h.invariant.1.apart.long, c.requires.1))

pub loop-h-preserved : goal.loop-h-preserved
loop-h-preserved c =
    let i = c.loop-h.invariant in (
      passed_more _ _ _ _ i.0 (omega arith) (made (goal.at.loop-h-preserved c).After-is_move_count) c.if-not-is_move_count.false,
      sets_more _ _ _ i.1 (omega (arith, small (goal.at.loop-h-preserved c).In-loop-h)) c.read-entry.ensures c.put_entry.ensures,
    )

pub returns-then-not-is_move_count : goal.returns-then-not-is_move_count
unfolding set_moves_in_range
returns-then-not-is_move_count c = record {
  answer = passed_not _ _ _ _ _ (omega arith) (made (goal.at.returns-then-not-is_move_count c).After-is_move_count) c.if-not-is_move_count.true;
  apart = c.loop-h.invariant.1.apart;
  decoded = λ t. absurd (false→not _ (sym (passed_false _ _ _ _ (omega arith) (made (goal.at.returns-then-not-is_move_count c).After-is_move_count) c.if-not-is_move_count.true)) t);
}

pub returns : goal.returns
unfolding set_moves_in_range
returns c =
    let i = c.loop-h.invariant in
    record {
      answer = passed_all _ _ _ _ i.0 (omega arith);
      apart = i.1.apart;
      decoded = λ t. sets_decoded i.1 (omega (arith, i.0.0)) (omega (arith, i.0.0, few_sets c.args.bytes.now));
    }

pub loop-h-init : goal.loop-h-init
loop-h-init c = (passed_none _ _, filled_none (omega (arith, c.requires.1)))

pub read-entry-requires : goal.read-entry-requires
read-entry-requires c = omega (arith, small c)
