-- The answer to both files, and what is left of them.
use Rattle.std.specs.Prelude.{ℕ, ◌≡◌, List, ℤ, Result}
use Rattle.model.specs.Game.{one, two, game_of}
use Rattle.model.specs.Checks.{game_refusal, pair_refusal}
use Rattle.model.specs.Call.{answer_of}
use Rattle.model.specs.Exported.{same}
use Rattle.checks.specs.declared.Refusal.{Refusal}
use Rattle.checks.specs.Answers.{answered}
use Rattle.loaded.specs.Counts.{counts_of}
use Rattle.loaded.specs.Loaded.{Loaded}
use Rattle.records.specs.PlanRecords.{denominators_of}
use Rattle.plan.specs.Refusals.{weights_after}
use Rattle.pair.specs.declared.PairHeader.{PairHeader}

-- what is given of both files
abbrev pub pair_header : (game plan : List ℕ) → PairHeader
pair_header game plan = record { counts = counts_of (game_of game); denominators = denominators_of plan }

-- After all checks of both files: an accepted game is loaded too.
pub record PairRead (game plan : List ℕ) (r : Result PairHeader Refusal) (numbers : List ℕ) (payoffs : List ℤ) (x x' y y' : List ℕ) : Type 0 where
  pub answer : answered same r ≡ answer_of (pair_refusal game plan) (pair_header game plan)
  pub first : x' ≡ weights_after (pair_refusal game plan) game plan one x
  pub second : y' ≡ weights_after (pair_refusal game plan) game plan two y
  pub loaded : game_refusal game ≡ 0 → Loaded (game_of game) (counts_of (game_of game)) numbers payoffs
