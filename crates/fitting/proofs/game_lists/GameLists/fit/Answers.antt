-- The three tests of the model, one after the other.
use Rattle.std.proofs.Common.{arith}
use Rattle.std.proofs.lemmas.Grind.{common_steps}
use Rattle.model.specs.Writing.{game_fields_fit}
use Rattle.fitting.specs.GameLists.{fields_of_lists}
use Rattle.fitting.proofs.GameFits.{beside}
use Rattle.fitting.proofs.game_lists.GameLists.fit.Goals as goal

pub returns-then-numbers_fit : goal.returns-then-numbers_fit
unfolding game_fields_fit
returns-then-numbers_fit c = grind (arith, common_steps)

pub returns-else-numbers_fit : goal.returns-else-numbers_fit
unfolding game_fields_fit
returns-else-numbers_fit c = grind (arith, common_steps)

pub kinds_fit-requires : goal.kinds_fit-requires
kinds_fit-requires c = beside (fields_of_lists c.args.self.now) (grind (arith, common_steps))
