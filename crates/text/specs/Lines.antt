-- Lines of the report by their parts.
use Rattle.std.specs.Prelude.{ℕ, List, ◌++◌}
use Rattle.model.specs.Earnings.{Fraction}
use Rattle.model.specs.Report.{decimal, amount, line}

-- the line of a player's amount: "value 1", "best 1" or "deviation player 1 gain", and then the amount
unfoldable pub amount_line : (label : List ℕ) → (number : ℕ) → (between : List ℕ) → Fraction → List ℕ
amount_line label number between a = line (label ++ decimal number ++ between ++ amount a)
