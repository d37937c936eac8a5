-- Document 01, "Sequence form": worths, best value, and the best response that is shown.
-- A sequence's "worth" is what a best response earns from it on; a set's "worthiest" move is a best one.
use Rattle.std.specs.Prelude.{ℕ, zero, suc, pred, Bool, ◌&&◌, cond, List, [], ◌∷◌, ℤ, pos, ◌+ℤ◌}
use Rattle.std.specs.Int.Signed.{le_z}
use Rattle.algebra.specs.Bounded.{sum_where, max_through, first_to, join_to}
use Rattle.model.specs.Game.{Game, Player, owns, is_leaf}
use Rattle.model.specs.Sequences.{Move, Sequence, extended, same, own_sequence_of, leading}
use Rattle.model.specs.Plan.{RealizationPlan}
use Rattle.model.specs.Earnings.{leaf_term, against_base, Fraction}

-- set h is one of "each own set it leads to": an information set of p's that the sequence s leads to
unfoldable pub leads_to : Game → Player → Sequence → ℕ → Bool
leads_to g p s h = owns g p h && same (leading g h) s

-- "A set is worth its worthiest move": the greatest worth of its moves, by the worth of sequences
unfoldable pub greatest_worth : Game → (Sequence → ℤ) → ℕ → ℤ
greatest_worth g worth_of h = max_through (pred (g.set_moves h)) (λ m. worth_of (extended (leading g h) h m))

-- Player p against the other's realization plan y.
module _ (g : Game) (p : Player) (y : RealizationPlan) where
  -- "chance weight × other's plan weight × payoff of the leaves at that very sequence"
  unfoldable pub leaves_worth : Sequence → ℤ
  leaves_worth s = sum_where g.nodes (λ n. is_leaf g n && same (own_sequence_of g p n) s) (leaf_term g p y)

  -- "a sequence is worth the .. leaves at that very sequence, plus the worth of each own set it leads to",
  -- here counting only leaves that are fewer than `steps` own moves on
  unfoldable pub worth_in : (steps : ℕ) → Sequence → ℤ
  worth_in zero s = pos 0
  worth_in (suc steps) s = leaves_worth s +ℤ sum_where g.sets (leads_to g p s) (greatest_worth g (worth_in steps))

  -- No sequence has as many moves as there are nodes, so that many steps are enough: a law has the document's two equations.
  unfoldable pub worth : Sequence → ℤ
  worth s = worth_in g.nodes s

  -- the worth of set h
  unfoldable pub set_worth : ℕ → ℤ
  set_worth h = greatest_worth g worth h

  -- "The empty sequence's worth is the best value", "counted over D0 × the other's D"
  unfoldable pub best_count : ℤ
  best_count = worth []

  -- the best value as a fraction
  unfoldable pub best_value : Fraction
  best_value = record { numerator = best_count; denominator = against_base g y }

  -- "the lowest-numbered worthiest move" of set h
  unfoldable pub best_move : ℕ → ℕ
  best_move h = first_to (g.set_moves h) (λ m. le_z (set_worth h) (worth (extended (leading g h) h m)))

  -- set h with its best move
  unfoldable pub best_at : ℕ → List Move
  best_at h = (h, best_move h) ∷ []

  -- "The shown strategy takes in every set of that player, reached or not, the lowest-numbered worthiest move."
  unfoldable pub best_response : List Move
  best_response = join_to g.sets (λ h. cond (owns g p h) (best_at h) [])

-- To unfold this is to unfold all of this file: for closed computation.
unfoldable pub opened : Unit {0}
unfolding leads_to greatest_worth leaves_worth worth_in worth set_worth best_count best_value best_move best_at best_response
opened = tt
