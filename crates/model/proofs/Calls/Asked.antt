-- The look-ups: 1 to 13, then 17, are decided.
use Prim.Native.Nat.{ℕ}
use Rattle.model.specs.Game.{Game, game_of}
use Rattle.model.specs.Rows.{of}
use Rattle.model.specs.Checks.{game_rows}
use Rattle.model.specs.Calls.Asked.{Asked, asked_rows}
use Rattle.model.specs.Demand1.{InGame}
use Rattle.model.proofs.Decisions.{ltb_iff, ltb_fails}
use Rattle.model.proofs.Rows.{Decided, Any, decided_one, decided_of, decided_append}
use Rattle.model.proofs.Checks.{game_decided}

pub asked_decided : (count : Game → ℕ) → Decided Any (asked_rows count) (InGame count)
unfolding asked_rows
asked_decided count =
    decided_append (of (λ a. a.game) game_rows) _ (decided_of (λ (a : Asked). a.game) game_rows game_decided)
    (decided_one 17 _ tt (λ a k. ltb_iff a.number (count (game_of a.game))) (λ a k. ltb_fails a.number (count (game_of a.game))))
