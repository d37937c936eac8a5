-- The strategy that is put: the moves of the model's best response.
use Prim.Native.Nat.{ℕ, ◌<◌}
use mathlib.Core.Path.{◌≡◌, sym, ap, ◌∙◌}
use mathlib.Core.Bool.{cond}
use mathlib.Core.List.{List, [], ◌∷◌, map}
use lib.Dec.{T}
use Rattle.algebra.specs.Arrays.{item, Holds}
use Rattle.algebra.proofs.Lists.{join_to_cong, map_join_to}
use Rattle.algebra.proofs.Tests.{dec, cond_yes, cond_no}
use Rattle.model.specs.Game.{Game, Player, owns}
use Rattle.model.specs.Sequences.{Move}
use Rattle.model.specs.Plan.{RealizationPlan}
use Rattle.model.specs.Earnings.{sets_of}
use Rattle.model.specs.BestResponse.{best_move, best_at, best_response}
use Rattle.responses.specs.BestMoves.{own_best_move}

-- Moves by set number that are p's best moves against y.
module _ (g : Game) (p : Player) (y : RealizationPlan) where
  -- his sets' moves are those of the best response
  pub strategy_is : (moves : List ℕ) → Holds (own_best_move g p y) g.sets moves → map (item moves) (sets_of g p) ≡ map (λ (x : Move). x.1) (best_response g p y)
  unfolding sets_of best_response best_at own_best_move
  strategy_is moves held =
      map_join_to (item moves) g.sets _
      ∙ join_to_cong g.sets _ _ (λ h l. at_set h l (dec (owns g p h)))
      ∙ sym (map_join_to (λ (x : Move). x.1) g.sets _)
    where
      at_set : (h : ℕ) → h < g.sets → Dec (T (owns g p h)) → map (item moves) (cond (owns g p h) (h ∷ []) []) ≡ map (λ (x : Move). x.1) (cond (owns g p h) (best_at g p y h) [])
      at_set h l (yes o) =
          rw (cond_yes (owns g p h) (h ∷ []) [] o, cond_yes {A = List Move} (owns g p h) ((h, best_move g p y h) ∷ []) [] o)
          (ap (λ (m : ℕ). m ∷ []) (held.at h l ∙ cond_yes (owns g p h) (best_move g p y h) 0 o))
      at_set h l (no o) = rw (cond_no (owns g p h) (h ∷ []) [] o, cond_no {A = List Move} (owns g p h) ((h, best_move g p y h) ∷ []) [] o)
