-- Of each kind its tests, one after the other.
use Rattle.std.proofs.Common.{◌≡◌, refl, sym, ◌∙◌, arith}
use Rattle.std.proofs.lemmas.Grind.{common_steps}
use Rattle.algebra.specs.Arrays.{item}
use Rattle.model.specs.Writing.{kind_fits_of}
use Rattle.records.proofs.KindNumbers.{leaf_number, decision_number, chance_number, unknown_number}
use Rattle.fitting.proofs.NodeKinds.{no_kind}
use Rattle.fitting.proofs.game_lists.GameLists.kind_fits.Goals as goal
use Rattle.fitting.proofs.game_lists.GameLists.kind_fits.Goals.{In-Leaf, In-Decision, In-Chance}

-- the number of node n's kind
leaf_is : (c : In-Leaf) → item c.args.self.now.kinds.now c.args.n ≡ 0
leaf_is c = leaf_number _ (sym c.from.ensures ∙ c.in-Leaf.is)

decision_is : (c : In-Decision) → item c.args.self.now.kinds.now c.args.n ≡ 1
decision_is c = decision_number _ (sym c.from.ensures ∙ c.in-Decision.is)

chance_is : (c : In-Chance) → item c.args.self.now.kinds.now c.args.n ≡ 2
chance_is c = chance_number _ (sym c.from.ensures ∙ c.in-Chance.is)

pub returns-then-no_set : goal.returns-then-no_set
unfolding kind_fits_of
returns-then-no_set c = rw (leaf_is (goal.at.returns-then-no_set c).In-Leaf, c.if-no_set.true) refl

pub returns-else-no_set : goal.returns-else-no_set
unfolding kind_fits_of
returns-else-no_set c = rw (leaf_is (goal.at.returns-else-no_set c).In-Leaf) (grind (arith, common_steps))

pub returns-then-no_moves : goal.returns-then-no_moves
unfolding kind_fits_of
returns-then-no_moves c = rw (decision_is (goal.at.returns-then-no_moves c).In-Decision) (grind (arith, common_steps))

pub returns-else-no_moves : goal.returns-else-no_moves
unfolding kind_fits_of
returns-else-no_moves c = rw (decision_is (goal.at.returns-else-no_moves c).In-Decision) (grind (arith, common_steps))

pub returns-then-no_set-2 : goal.returns-then-no_set-2
unfolding kind_fits_of
returns-then-no_set-2 c = rw (chance_is (goal.at.returns-then-no_set-2 c).In-Chance) (grind (arith, common_steps))

pub returns-else-no_set-2 : goal.returns-else-no_set-2
unfolding kind_fits_of
returns-else-no_set-2 c = rw (chance_is (goal.at.returns-else-no_set-2 c).In-Chance) (grind (arith, common_steps))

pub returns-in-Unknown : goal.returns-in-Unknown
returns-in-Unknown c = no_kind _ _ _ (unknown_number _ (sym c.from.ensures ∙ c.in-Unknown.is))
