-- A decision's moves are its set's; any other node's stand in its payload.
use mathlib.Core.Path.{◌≡◌, ap}
use mathlib.Core.Logic.{inl, inr}
use Rattle.records.specs.declared.game_file.Kind.TheVariants as Kind
use Rattle.records.specs.Records.{kind_in, set_in, moves_in}
use Rattle.records.proofs.Payloads.{decision_count, other_count}
use Rattle.records.proofs.game_file.move_count.Goals as goal
use Rattle.records.proofs.game_file.move_count.Goals.{In-Decision}

decision_is : (c : In-Decision) → kind_in c.read.result.payload ≡ Kind.Decision
unfolding kind_in
decision_is c = ap kind_in c.in-Decision.is

set_is : (c : In-Decision) → set_in c.read.result.payload ≡ c.in-Decision.set
unfolding set_in
set_is c = ap set_in c.in-Decision.is

pub read-requires-in-Decision : goal.read-requires-in-Decision
read-requires-in-Decision c = rw (set_is c) at c.read.ensures.set_fits

pub returns-in-Decision : goal.returns-in-Decision
returns-in-Decision c =
    let d = (goal.at.returns-in-Decision c).In-Decision in
    decision_count c.read.ensures (decision_is d) (set_is d) c.read-in-Decision.ensures.moves

pub returns-in-Chance : goal.returns-in-Chance
unfolding kind_in moves_in
returns-in-Chance c = other_count c.read.ensures c.in-Chance.is (λ e. cc e)

pub returns-in-Leaf : goal.returns-in-Leaf
unfolding kind_in moves_in
returns-in-Leaf c = elim c.in-Leaf.is [ inl (one, two, is) ↦ other_count c.read.ensures is (λ e. cc e) | inr (kind, moves, padding, is) ↦ other_count c.read.ensures is (λ e. cc e) ]
