-- W-201: what is promised of play sheets. That both calls take what is good, and refuse with the first refusal that applies, is in demand 1.
use Rattle.std.specs.Prelude.{ℕ, ◌/◌, ◌<◌, ◌≡◌, ◌↔◌, cond, List, T}
use Rattle.algebra.specs.Divisors.{gcd_to}
use Rattle.model.specs.Game.{Game, Player, owns}
use Rattle.model.specs.Sequences.{leading}
use Rattle.model.specs.Plan.{RealizationPlan, weight_width, largest_denominator}
use Rattle.model.specs.PlanChecks.{files}
use Rattle.model.specs.Sheet.{Odds, no_zero_odds, plan_from, odds_given, odds_at, OverSmallest, plan_divisor}
use Rattle.model.specs.Rules.{GameRules}
use Rattle.model.specs.Exported.{exported, same}
use Rattle.model.specs.Calls.PlanFromSheet.{sheet_files, Makes, MakesIn, plan_from_sheet_of}
use Rattle.model.specs.Calls.SheetFromPlan.{Returns, ReturnsIn, sheet_from_plan_of}

-- what the two calls' outcomes mean, for every input
pub record Sheets : Type 0 where
  -- a plan made of a sheet: it is accepted, plays exactly what the odds say, over the smallest D; and 21 is "given exactly then"
  pub made : (game sheet out : List ℕ) → Makes weight_width largest_denominator (sheet_files game sheet) out (plan_from_sheet_of game sheet out)
  -- "Plan to sheet to plan must give equal probabilities over the smallest D, and a plan already over the smallest D must come back bit for bit"
  pub returned : (game plan out : List ℕ) → Returns weight_width largest_denominator (files game plan) out (sheet_from_plan_of game plan out)
  -- how to tell "a plan already over the smallest D": its denominator and all its weights have no common divisor but 1
  pub over_smallest : (g : Game) (p : Player) (x : RealizationPlan) → 0 < x.denominator → OverSmallest g p x ↔ (plan_divisor g p x ≡ 1)
  -- a sheet made a plan and a sheet again: at a set that is arrived at the odds come back divided by their greatest common divisor, elsewhere zeros
  pub sheet_again : (g : Game) → GameRules g → (odds : Odds) (p : Player) → T (odds_given g odds) → (h m : ℕ) → h < g.sets → T (owns g p h) → m < g.set_moves h → odds_at g (plan_from g odds p) h m ≡ cond (no_zero_odds g odds (leading g h)) (odds h m / gcd_to (g.set_moves h) (odds h)) 0
  -- both as they are exported
  pub made_in : (game sheet : List ℕ) (before : ℕ) (out : List ℕ) → MakesIn weight_width largest_denominator (sheet_files game sheet) out (exported same before (plan_from_sheet_of game sheet out))
  pub returned_in : (game plan : List ℕ) (before : ℕ) (out : List ℕ) → ReturnsIn weight_width largest_denominator (files game plan) out (exported same before (sheet_from_plan_of game plan out))
