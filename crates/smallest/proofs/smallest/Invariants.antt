-- The invariant: the sets before place i are taken (`Taken`).
use Prim.Native.Nat.{ℕ}
use mathlib.Core.Path.{◌≡◌}
use mathlib.Core.List.{List}
use lib.ListN.{length}
use Rattle.model.specs.Game.{Game, Player}
use Rattle.model.specs.Sheet.{Odds}
use Rattle.loaded.specs.declared.Counts.{Counts}
use Rattle.loaded.specs.Players.{as_player}
use Rattle.loaded.specs.Loaded.{NumbersLoaded}
use Rattle.sheets.specs.OddsByNumber.{OddsByNumber}
use Rattle.smallest.proofs.Orders.{Taken}
use Rattle.smallest.proofs.smallest.Given as goal

-- What the loop keeps.
pub record Kept (numbers : List ℕ) (sets : ℕ) (p : Player) (odds numerators₀ denominators₀ : List ℕ) (limit : ℕ) (numerators denominators : List ℕ) (multiple i : ℕ) : Type 0 where
  pub long1 : length numerators ≡ length numerators₀
  pub long2 : length denominators ≡ length denominators₀
  pub taken : (g : Game) → (c : Counts) → (given : Odds) → (L : NumbersLoaded g c numbers) → sets ≡ g.sets → OddsByNumber g p given odds → Taken L.rules given p limit i multiple numerators denominators

abbrev pub invariant-loop-i : goal.invariant-loop-i
invariant-loop-i l = Kept l.numbers l.sets (as_player l.player) l.x l.initial.numerators l.initial.denominators l.limit l.numerators l.denominators l.multiple l.i
