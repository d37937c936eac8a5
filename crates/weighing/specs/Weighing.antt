-- What is left of a sheet that is weighed: the answer, and both players' arrays.
use Rattle.std.specs.Prelude.{ℕ, ◌≡◌, List, Result, OnOk}
use Rattle.algebra.specs.Arrays.{Holds}
use Rattle.model.specs.Game.{Game, game_of, one, two}
use Rattle.model.specs.Sequences.{sequence_count}
use Rattle.model.specs.Sheet.{Odds, odds_of, smallest_in_limit}
use Rattle.model.specs.Rows.{refusal}
use Rattle.model.specs.Calls.PlanFromSheet.{SheetFiles, odds_in, sheet_rows}
use Rattle.checks.specs.declared.Refusal.{Refusal}
use Rattle.checks.specs.declared.Refusal.TheVariants.{NoDenominator}
use Rattle.checks.specs.Answers.{checked_of, number_of}
use Rattle.sheets.specs.OddsByNumber.{OddsByNumber}
use Rattle.smallest.specs.Multiples.{smallest_weight}

-- Both players' odds are read.
pub record BothRead (g : Game) (width : ℕ) (sheet x y : List ℕ) : Type 0 where
  pub first : OddsByNumber g one (odds_of g width sheet) x
  pub second : OddsByNumber g two (odds_of g width sheet) y

-- the arrays hold both players' weights over their smallest D
pub record BothHeld (g : Game) (odds : Odds) (x y : List ℕ) : Type 0 where
  pub first : Holds (smallest_weight g odds one) (sequence_count g one) x
  pub second : Holds (smallest_weight g odds two) (sequence_count g two) y

-- After check 21: its answer, and where it holds both players' weights.
pub record BothWeighed (g : Game) (odds : Odds) (limit : ℕ) (r : Result (Unit {0}) Refusal) (x y : List ℕ) : Type 0 where
  pub answer : r ≡ checked_of NoDenominator (smallest_in_limit g odds limit)
  pub weights : OnOk r (BothHeld g odds x y)

-- After checks 19 to 21: the first refusal, and where there is none both players' weights.
pub record SheetWeighed (width limit : ℕ) (f : SheetFiles) (r : Result (Unit {0}) Refusal) (x y : List ℕ) : Type 0 where
  pub answer : number_of r ≡ refusal (sheet_rows width limit) f
  pub weights : OnOk r (BothHeld (game_of f.game) (odds_in width f) x y)
