-- What is read of a set and of stored worths gives the model's best move.
use Prim.Native.Nat.{ℕ, pred, ◌+◌, ◌≤◌, ◌<◌}
use mathlib.Core.Path.{◌≡◌, sym, ap, ◌∙◌}
use mathlib.Core.List.{List}
use native.Mathlib.Omega.{arith}
use lib.Dec.{T}
use lib.IntN.{ℤ}
use lib.ListN.{length}
use lib.Signed.{le_z}
use Rattle.algebra.specs.Arrays.{item, item_z}
use Rattle.algebra.specs.Bounded.{max_through}
use Rattle.algebra.proofs.Tests.{cond_yes, cond_no}
use Rattle.algebra.proofs.Searches.{max_through_cong, first_to_cong}
use Rattle.model.specs.Game.{Game, Player, owns}
use Rattle.model.specs.Sequences.{extended, leading}
use Rattle.model.specs.Plan.{RealizationPlan}
use Rattle.model.specs.BestResponse.{worth, set_worth, best_move}
use Rattle.model.proofs.Worths.{worth_set}
use Rattle.loaded.specs.Sections.{moves_section, start_section}
use Rattle.loaded.specs.Sets.{first_sequence}
use Rattle.loaded.specs.declared.Counts.{Counts}
use Rattle.responses.specs.Worths.{WorthsHeld}
use Rattle.responses.specs.BestMoves.{own_best_move, first_greatest, best_stored}
use Rattle.responses.proofs.SequencesAt.{move_below, move_worth_lem}

module _ {c : Counts} {g : Game} {p : Player} {y : RealizationPlan} {numbers : List ℕ} {worths : List ℤ} (W : WorthsHeld g p y c numbers worths) (h : ℕ) (l : h < g.sets) where
  -- at the other player's sets the answer is 0
  pub best_other : ¬ T (owns g p h) → 0 ≡ own_best_move g p y h
  unfolding own_best_move
  best_other o = sym (cond_no (owns g p h) (best_move g p y h) 0 o)

  module _ (o : T (owns g p h)) {start count : ℕ} (s : start ≡ item numbers (start_section + h)) (n : count ≡ item numbers (moves_section + h)) where
    start_is : start ≡ first_sequence g h
    start_is = s ∙ W.loaded.starts.at 0 h l

    count_is : count ≡ g.set_moves h
    count_is = n ∙ W.loaded.decoded.sets_decoded.moves.at 0 h l

    some_move : 0 < g.set_moves h
    some_move = (W.loaded.rules.set_moves h l).0

    -- the worths of its moves are stored
    pub moves_stored : (0 < count) × (count < 65536) × (start + count ≤ length worths)
    moves_stored =
        let last = move_below g p h (pred (g.set_moves h)) l o (omega (arith, some_move)) in (
          omega (arith, count_is, some_move),
          omega (arith, count_is, (W.loaded.rules.set_moves h l).1),
          omega (arith, count_is, start_is, some_move, last, W.held.long),
        )

    stored_worth : (m : ℕ) → m < g.set_moves h → item_z worths (first_sequence g h + m) ≡ worth g p y (extended (leading g h) h m)
    stored_worth m b = W.held.at (first_sequence g h + m) (move_below g p h m l o b) ∙ move_worth_lem g p y h m l o b

    -- the lowest-numbered worthiest of them is the best move
    stored_best : best_stored worths (first_sequence g h) (g.set_moves h) ≡ best_move g p y h
    unfolding best_stored first_greatest best_move
    stored_best =
        let top : max_through (pred (g.set_moves h)) (λ m. item_z worths (first_sequence g h + m)) ≡ set_worth g p y h = max_through_cong (pred (g.set_moves h)) _ _ (λ m b. stored_worth m (omega (arith, some_move))) ∙ sym (worth_set g p y h) in
        rw top (first_to_cong (g.set_moves h) _ _ (λ m b. ap (le_z (set_worth g p y h)) (stored_worth m b)))

    pub best_own : {r : ℕ} → r ≡ best_stored worths start count → r ≡ own_best_move g p y h
    unfolding own_best_move
    best_own e = e ∙ rw (start_is, count_is) (stored_best ∙ sym (cond_yes (owns g p h) (best_move g p y h) 0 o))
