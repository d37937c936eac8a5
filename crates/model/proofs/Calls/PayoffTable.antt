-- The payoff table, in rows and in columns. Its clauses of demand 1.
use Rattle.model.specs.Rules.{GameFile}
use Rattle.model.specs.Calls.PayoffTable.{rows_call, columns_call}
use Rattle.model.specs.Demand1.{Clause}
use Rattle.model.proofs.Checks.{game_decided}
use Rattle.model.proofs.Call.{clause}

pub rows_demand1 : Clause rows_call GameFile
unfolding rows_call
rows_demand1 = clause rows_call game_decided

pub columns_demand1 : Clause columns_call GameFile
unfolding columns_call
columns_demand1 = clause columns_call game_decided
