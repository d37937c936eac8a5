-- What is gathered of the leaves, by player.
use Prim.Native.Nat.{ℕ, ◌<◌}
use mathlib.Core.List.{List}
use lib.ListN.{length}
use lib.IntN.{ℤ}
use Rattle.algebra.specs.Arrays.{item}
use Rattle.model.specs.Game.{Game, Player, one, two, other}
use Rattle.model.specs.Sequences.{sequence_count}
use Rattle.model.specs.Table.{own_number}
use Rattle.model.specs.Rules.{GameRules}
use Rattle.model.proofs.Numbers.{own_number_below}
use Rattle.loaded.specs.Leaves.{leaves_of, leaf_of, Column, Gathered, PlayerLeaves}
use Rattle.loaded.proofs.LeafSums.{leaf_in}

-- what is p's, of what player 1 and player 2 have
abbrev pub of_player : {A : Type 0} → Player → (a b : A) → A
of_player one a b = a
of_player two a b = b

-- each player's part of them
pub player_leaves : (g : Game) (p : Player) {count : ℕ} {first second chance : List ℕ} {payoffs1 payoffs2 : List ℤ} → Gathered g count first second chance payoffs1 payoffs2 → PlayerLeaves g p count (of_player p first second) (of_player (other p) first second) chance (of_player p payoffs1 payoffs2)
player_leaves g one L = record { counted = L.counted; own_is = L.first_is; opponent_is = L.second_is; chance_is = L.chance_is; payoffs_is = L.payoffs1_is }
player_leaves g two L = record { counted = L.counted; own_is = L.second_is; opponent_is = L.first_is; chance_is = L.chance_is; payoffs_is = L.payoffs2_is }

-- a column of p's sequence numbers
pub column_below : (g : Game) → GameRules g → (p : Player) {l : List ℕ} → Column g (own_number g p) l → (k : ℕ) → k < length (leaves_of g) → item l k < sequence_count g p
column_below g R p C k v = rw (C.at 0 k v) (own_number_below g R p (leaf_of g k) (leaf_in g k v))
