-- Arrays that hold a plan file's weights by number serve for its plans: values and best responses are the same.
use Prim.Native.Nat.{ℕ}
use mathlib.Core.Path.{◌≡◌, ◌∙◌}
use mathlib.Core.Bool.{true}
use mathlib.Core.List.{List}
use Rattle.algebra.specs.Arrays.{item, Holds}
use Rattle.algebra.proofs.Tests.{T→true}
use Rattle.model.specs.Game.{Game, Player, one, two, other, game_of}
use Rattle.model.specs.Sequences.{own_sequence_of, sequence_count}
use Rattle.model.specs.Plan.{weight_at, pair_fits_of, plan_pair_of}
use Rattle.model.specs.Checks.{pair_refusal}
use Rattle.model.specs.Earnings.{value_count}
use Rattle.model.specs.BestResponse.{best_count, best_move}
use Rattle.model.specs.Rules.{GameRules}
use Rattle.model.proofs.SamePlans.{SameWeights, best_count_agrees, best_move_agrees, value_count_agrees}
use Rattle.model.proofs.Checks.{game_rules, plan_rules, pair_parts}
use Rattle.model.proofs.Numbers.{number_below}
use Rattle.model.proofs.PlanRules.{pair_fits_iff}
use Rattle.model.proofs.Tree.{own_sequence_lem}
use Rattle.plan.specs.Weights.{weight_by_number}
use Rattle.loaded.specs.Weights.{plan_by_number, pair_by_number}
use Rattle.loaded.proofs.Weights.{weight_at_lem}
use Rattle.plan.proofs.ByNumber.{weight_is, same_pair_fits}

-- One player's array.
module _ (g : Game) (rules : GameRules g) (plan : List ℕ) (p : Player) {x : List ℕ} (held : Holds (weight_by_number g plan p) (sequence_count g p) x) where
  -- the own sequence to each node has the file's weight
  pub stored_weight : SameWeights g p (plan_by_number g p (item x)) (plan_pair_of g plan p)
  unfolding weight_at
  stored_weight n l =
      let s = own_sequence_of g p n in
      weight_at_lem g p (item x) s ∙ held.at _ (number_below g p s (own_sequence_lem g rules p n l)) ∙ weight_is g plan p s

-- Player p against the other's array.
module _ (g : Game) (rules : GameRules g) (plan : List ℕ) (p : Player) {y : List ℕ} (held : Holds (weight_by_number g plan (other p)) (sequence_count g (other p)) y) where
  -- his best moves
  pub stored_best_move : (h : ℕ) → best_move g p (plan_by_number g (other p) (item y)) h ≡ best_move g p (plan_pair_of g plan (other p)) h
  stored_best_move h = best_move_agrees g p _ _ (stored_weight g rules plan (other p) held) h

-- Both players' arrays.
module _ (g : Game) (rules : GameRules g) (plan : List ℕ) {x y : List ℕ} (held1 : Holds (weight_by_number g plan one) (sequence_count g one) x) (held2 : Holds (weight_by_number g plan two) (sequence_count g two) y) where
  -- the own sequences to each node have the file's weights
  pub stored_weights : (p : Player) → SameWeights g p (pair_by_number g (item x) (item y) p) (plan_pair_of g plan p)
  unfolding pair_by_number
  stored_weights one = stored_weight g rules plan one held1
  stored_weights two = stored_weight g rules plan two held2

  -- each player's value
  pub stored_value : (p : Player) → value_count g (pair_by_number g (item x) (item y)) p ≡ value_count g (plan_pair_of g plan) p
  stored_value p = value_count_agrees g (pair_by_number g (item x) (item y)) (plan_pair_of g plan) stored_weights p

  -- his best value against the other's plan
  pub stored_best : (p : Player) → best_count g p (pair_by_number g (item x) (item y) (other p)) ≡ best_count g p (plan_pair_of g plan (other p))
  stored_best p = best_count_agrees g p _ _ (stored_weights (other p))

-- the arrays of two files that are not sent back give a pair that fits
pub stored_fits : (game plan : List ℕ) {x y : List ℕ} → pair_refusal game plan ≡ 0 → Holds (weight_by_number (game_of game) plan one) (sequence_count (game_of game) one) x → Holds (weight_by_number (game_of game) plan two) (sequence_count (game_of game) two) y → pair_fits_of (game_of game) (pair_by_number (game_of game) (item x) (item y)) ≡ true
stored_fits game plan none held1 held2 =
    let g = game_of game in
    let parts = (pair_parts game plan).0 none in
    same_pair_fits g (game_rules game parts.0) plan held1 held2
    ∙ T→true (pair_fits_of g (plan_pair_of g plan)) ((pair_fits_iff g (plan_pair_of g plan)).passes (plan_rules game plan parts.1).fit)
