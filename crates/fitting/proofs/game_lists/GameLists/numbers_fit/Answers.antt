-- Twelve tests, one after the other.
use Rattle.std.proofs.Common.{arith}
use Rattle.std.proofs.lemmas.Grind.{common_steps}
use Rattle.model.specs.Writing.{numbers_fit, set_count, node_count}
use Rattle.fitting.proofs.game_lists.GameLists.numbers_fit.Goals as goal

pub returns-then-all_fit_signed : goal.returns-then-all_fit_signed
unfolding numbers_fit set_count node_count
returns-then-all_fit_signed c = grind (arith, common_steps)

pub returns-else-all_fit_signed : goal.returns-else-all_fit_signed
unfolding numbers_fit set_count node_count
returns-else-all_fit_signed c = grind (arith, common_steps)
