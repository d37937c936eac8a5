-- The sequence form of a game that obeys the rules, and of plans that fit it.
use mathlib.Core.Path.{refl}
use Rattle.model.specs.Game.{Game, Player, one, two, other}
use Rattle.model.specs.Plan.{PlanPair, Fits}
use Rattle.model.specs.BestResponse.{best_count}
use Rattle.model.specs.Rules.{GameRules}
use Rattle.model.specs.Demand2.{GameForm, PairForm}
use Rattle.model.proofs.Tree.{own_root, own_step, recalled}
use Rattle.model.proofs.Worths.{worth_sequence, worth_set}
use Rattle.model.proofs.BestResponses.{pure_most, mixed_most, plan_most, response_attains}
use Rattle.model.proofs.Earnings.{own_plan}
use Rattle.model.proofs.Numbers.{own_number_lem, leading_number_lem}
use Rattle.model.proofs.Table.{table_value, number_weights}
use Rattle.model.proofs.TableRows.{table_rows, table_sorted, table_sums}

pub game_form : (g : Game) → GameRules g → GameForm g
game_form g R = record {
  own_root = own_root g;
  own_step = own_step g R.parents;
  recall = recalled g R;
  by_number = own_number_lem g R;
  leading_number = leading_number_lem g R;
  table_rows = table_rows g R;
  table_sorted = table_sorted g;
  table_sums = table_sums g;
}

pub pair_form : (g : Game) → GameRules g → (q : PlanPair) → ((p : Player) → Fits g p (q p)) → PairForm g q
unfolding best_count
pair_form g R q F = record {
  plan = F;
  table = table_value g R q _ _ (number_weights g R one (q one)) (number_weights g R two (q two));
  own_plan = own_plan g q;
  worth_sequence = λ p. worth_sequence g R p (q (other p));
  worth_set = λ p. worth_set g p (q (other p));
  best = λ p. refl;
  most = λ p. pure_most g p (q (other p)) R;
  most_mixed = λ p. mixed_most g p (q (other p)) R;
  most_plan = λ p. plan_most g p (q (other p)) R;
  attained = λ p. response_attains g p (q (other p)) R;
}
