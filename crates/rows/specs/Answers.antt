-- What a row of the call is in the model.
use Rattle.model.specs.Table.{TableRow}
use Rattle.rows.specs.declared.Row.{Row}

-- the same numbers as a row of the payoff table
abbrev pub model_row : Row → TableRow
model_row r = record { sequence1 = r.sequence1; sequence2 = r.sequence2; sum1 = r.sum1; sum2 = r.sum2 }
