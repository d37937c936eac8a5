-- Document 01, "The two files" and "Sequence form": realization plans, one for each player.
-- Document 01's "plan" of a player is his realization plan; its plan file holds a pair of them.
use Rattle.std.specs.Prelude.{ℕ, ◌+◌, ◌*◌, ◌-◌, ◌^◌, ◌<◌, ◌≡◌, Bool, ◌&&◌, List, T, eqb}
use Rattle.algebra.specs.Bounded.{total_to, all_to, implies}
use Rattle.model.specs.Bits.{field, fields}
use Rattle.model.specs.Game.{Game, Player, one, two, owns, moves_before}
use Rattle.model.specs.Sequences.{Sequence, by_last_move, own_sequence_of, leading}

-- One player's realization plan: whole numbers over a denominator, document 01's D1 or D2.
pub record RealizationPlan : Type 0 where
  pub denominator : ℕ
  pub move_weight : (h m : ℕ) → ℕ  -- the weight of the sequence that ends in move m of set h

-- a realization plan for each player
abbrev pub PlanPair : Type 0
PlanPair = Player → RealizationPlan

-- the weight of a sequence: "The empty sequence's weight is D1 or D2"; any other has its last move's
unfoldable pub sequence_weight : RealizationPlan → Sequence → ℕ
sequence_weight x s = by_last_move x.denominator (λ last. x.move_weight last.0 last.1) s

module _ (g : Game) where
  -- "Each player's plan weight at a leaf is that of his own sequence to it."
  unfoldable pub weight_at : RealizationPlan → Player → ℕ → ℕ
  weight_at x p n = sequence_weight x (own_sequence_of g p n)

  -- at set h "the move weights add up to the weight of the own sequence leading to the set"
  unfoldable pub balanced : RealizationPlan → ℕ → Bool
  balanced x h = eqb (total_to (g.set_moves h) (x.move_weight h)) (sequence_weight x (leading g h))

  -- "A plan fits when, in each set, .." : p's plan, in each of p's sets
  unfoldable pub fits : Player → RealizationPlan → Bool
  fits p x = all_to g.sets (λ h. implies (owns g p h) (balanced x h))

  -- both plans of a pair fit
  unfoldable pub pair_fits_of : PlanPair → Bool
  pair_fits_of q = fits one (q one) && fits two (q two)

-- "A plan fits when, in each set, the move weights add up to the weight of the own sequence leading to the set": p's plan, as a proposition
abbrev pub Fits : Game → Player → RealizationPlan → Type 0
Fits g p x = (h : ℕ) → h < g.sets → T (owns g p h) → total_to (g.set_moves h) (x.move_weight h) ≡ sequence_weight x (leading g h)

-- Plan file. Header, 32 bits: edition (4), D1 (12), D2 (12), four zero bits. Then 12 bits for each move of each set.
-- the bits of a denominator, and of a weight
abbrev pub weight_width : ℕ
weight_width = 12

-- the largest denominator that has so many: 4,095
abbrev pub largest_denominator : ℕ
largest_denominator = 2 ^ weight_width - 1

-- where a player's denominator begins
abbrev pub denominator_at : Player → ℕ
denominator_at one = 4
denominator_at two = 16

-- where the four zero bits begin
abbrev pub header_zeros_at : ℕ
header_zeros_at = 28

-- the first bit of the weight at a place among all weights
unfoldable pub weight_bit : ℕ → ℕ
weight_bit place = 32 + weight_width * place

module _ (g : Game) where
  -- "the weights of player 1's moves, sets rising and moves rising, then player 2's likewise": how many stand before p's
  unfoldable pub weights_before : Player → ℕ
  weights_before one = 0
  weights_before two = moves_before g one g.sets

  -- how many weights the file has
  unfoldable pub plan_moves : ℕ
  plan_moves = moves_before g one g.sets + moves_before g two g.sets

  -- the place of the weight of p's set h, move m among them
  unfoldable pub weight_place : Player → (h m : ℕ) → ℕ
  weight_place p h m = weights_before p + moves_before g p h + m

  -- the pair that a plan file holds
  unfoldable pub plan_pair_of : List ℕ → PlanPair
  plan_pair_of bytes p = record {
    denominator = field bytes (denominator_at p) weight_width;
    move_weight = λ h m. field bytes (weight_bit (weight_place p h m)) weight_width;
  }

  -- all its weights in file order
  unfoldable pub plan_weights : List ℕ → List ℕ
  plan_weights bytes = fields bytes (weight_bit 0) weight_width plan_moves

-- To unfold this is to unfold all of this file: for closed computation.
unfoldable pub opened : Unit {0}
unfolding sequence_weight weight_at balanced fits pair_fits_of weights_before plan_moves weight_place weight_bit plan_pair_of plan_weights
opened = tt
