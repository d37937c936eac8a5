-- What is read is written again.
use mathlib.Core.Path.{sym, ◌∙◌}
use native.Mathlib.Omega.{arith}
use lib.Seq.{length-take-le}
use Rattle.model.specs.Demand2.{IsBytes}
use Rattle.checks.proofs.AnswerLaws.{passed_on}
use Rattle.plan_trips.proofs.Plans.{rewrite_refused, Read, read_given, rewrite_given}
use Rattle.plan_trips.proofs.rewrite_plan.Goals as goal
use Rattle.plan_trips.proofs.rewrite_plan.Goals.{After-index-n, After-shared_slice_known-2-1, In_ok-read}

pub returns-in_err-read : goal.returns-in_err-read
returns-in_err-read c = rw (passed_on c.from_residual.ensures.1) (rewrite_refused _ _ _ _ (omega arith) c.plan_fields.ensures c.in_err-read.was)

-- what was read
given : (c : In_ok-read) → let r = c.in_ok-read.read in Read c.args.game.now c.args.plan.now c.args.out.now r.d1 r.d2 r.count c.plan_fields.new.weights
given c = read_given _ _ _ _ c.plan_fields.ensures c.in_ok-read.was

-- a lent slice of u8 holds bytes
bytes : (c : After-shared_slice_known-2-1) → IsBytes c.args.plan.now
bytes c i = omega (arith, c.shared_slice_known-2-1.given i)

pub slice_bounds-weights-end : goal.slice_bounds-weights-end
slice_bounds-weights-end c = omega (arith, (given (goal.at.slice_bounds-weights-end c).In_ok-read).small, c.index-n.ensures, c.plan_fields.auto.weights)

pub slice_bounds-write-end : goal.slice_bounds-write-end
slice_bounds-write-end c = sym (length-take-le _ _ (slice_bounds-weights-end (goal.at.slice_bounds-write-end c).After-index-n))

pub returns : goal.returns
returns c = c.write.ensures ∙ rw c.index-n.ensures (rewrite_given _ _ _ (bytes (goal.at.returns c).After-shared_slice_known-2-1) (given (goal.at.returns c).In_ok-read))
