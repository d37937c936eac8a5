-- Player 1's D first; both must be within the limit.
use Rattle.checks.specs.declared.Refusal.TheVariants.{NoDenominator}
use Rattle.checks.proofs.AnswerLaws.{passed_on}
use Rattle.weighing.proofs.Weights.{first_above, second_above, both_within, none_found, some_found}
use Rattle.weighing.proofs.weigh_both.Goals as goal

pub returns-in_err-ok_or : goal.returns-in_err-ok_or
returns-in_err-ok_or c g odds L X Y =
    let found = none_found c.weigh-d1.result NoDenominator c.ok_or.ensures.value c.in_err-ok_or.was in
    rw (passed_on c.from_residual.ensures.1, found.1) (first_above (c.weigh-d1.ensures g odds L X) found.0)

pub returns-in_err-ok_or-2 : goal.returns-in_err-ok_or-2
returns-in_err-ok_or-2 c g odds L X Y =
    let first = some_found c.weigh-d1.result NoDenominator c.ok_or.ensures.value c.in_ok-ok_or.was in
    let found = none_found c.weigh-d2.result NoDenominator c.ok_or-2.ensures.value c.in_err-ok_or-2.was in
    rw (passed_on c.from_residual-in_err-ok_or-2.ensures.1, found.1) (second_above (c.weigh-d1.ensures g odds L X) first (c.weigh-d2.ensures g odds L Y) found.0)

pub returns : goal.returns
returns c g odds L X Y =
    let first = some_found c.weigh-d1.result NoDenominator c.ok_or.ensures.value c.in_ok-ok_or.was in
    let second = some_found c.weigh-d2.result NoDenominator c.ok_or-2.ensures.value c.in_ok-ok_or-2.was in
    both_within (c.weigh-d1.ensures g odds L X) first (c.weigh-d2.ensures g odds L Y) second X.long Y.long

pub weigh-d1-requires : goal.weigh-d1-requires
weigh-d1-requires c = let s = c.requires in (s.0, s.1, s.3, s.4)

pub weigh-d2-requires : goal.weigh-d2-requires
weigh-d2-requires c = let s = c.requires in (s.0, s.2, s.3, s.4)
