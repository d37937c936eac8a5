-- The answer to a game file that is loaded, and what the two slices then hold.
use Rattle.std.specs.Prelude.{ℕ, ◌≡◌, List, ℤ, Result}
use Rattle.model.specs.Game.{game_of}
use Rattle.model.specs.Checks.{game_refusal}
use Rattle.model.specs.Call.{answer_of}
use Rattle.model.specs.Exported.{same}
use Rattle.checks.specs.declared.Refusal.{Refusal}
use Rattle.checks.specs.Answers.{answered}
use Rattle.loaded.specs.Counts.{counts_of}
use Rattle.loaded.specs.declared.Counts.{Counts}
use Rattle.loaded.specs.Loaded as loaded

-- After a file is loaded: the answer, and where it is accepted its game in both slices.
pub record LoadedBy (bytes : List ℕ) (r : Result Counts Refusal) (numbers : List ℕ) (payoffs : List ℤ) : Type 0 where
  pub answer : answered same r ≡ answer_of (game_refusal bytes) (counts_of (game_of bytes))
  pub loaded : game_refusal bytes ≡ 0 → loaded.Loaded (game_of bytes) (counts_of (game_of bytes)) numbers payoffs
