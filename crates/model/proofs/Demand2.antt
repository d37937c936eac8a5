-- Demand 2, clause by clause.
use Rattle.model.specs.Game.{game_of}
use Rattle.model.specs.Plan.{plan_pair_of}
use Rattle.model.specs.Demand2.{RoundTrips, Demand2}
use Rattle.model.proofs.SequenceForm.{game_form, pair_form}
use Rattle.model.proofs.Theorem266.{theorem266}
use Rattle.model.proofs.Calls.OwnSequence as OwnSequence
use Rattle.model.proofs.Calls.Values as Values
use Rattle.model.proofs.Calls.RewriteGame as RewriteGame
use Rattle.model.proofs.Calls.RewritePlan as RewritePlan
use Rattle.model.proofs.Calls.RereadGame as RereadGame
use Rattle.model.proofs.Calls.RereadPlan as RereadPlan

round_trips : RoundTrips
round_trips = record {
  game_file = RewriteGame.demand2;
  plan_file = RewritePlan.demand2;
  game_fields = RereadGame.demand2;
  plan_fields = RereadPlan.demand2;
}

pub demand2 : Demand2
demand2 = record {
  game = λ game file. game_form (game_of game) file.rules;
  pair = λ game plan good. pair_form (game_of game) good.0.rules (plan_pair_of (game_of game) plan) good.1.fit;
  own_sequence = OwnSequence.demand2;
  values = Values.demand2;
  theorem266 = theorem266;
  trips = round_trips;
}
