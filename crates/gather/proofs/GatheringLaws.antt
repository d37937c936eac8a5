-- A loop over the nodes that adds what it finds at each: where it begins, and a turn.
use Prim.Native.Nat.{ℕ, ◌+◌, ◌≤◌, ◌<◌}
use mathlib.Core.List.{List}
use native.Mathlib.Omega.{arith}
use Rattle.algebra.proofs.Sections.{apart_none, apart_twice}
use Rattle.model.specs.Game.{Game}
use Rattle.loaded.specs.Sections.{order_section}
use Rattle.gather.specs.Numbered.{Numbered}
use Rattle.gather.specs.Gathering.{Added, Gathering}
use Rattle.gather.proofs.Numbered.{numbered_apart}

module _ {low high : ℕ} {Below : Game → (n count : ℕ) → List ℕ → Type 0} where
  -- no node is added yet
  pub gathering_none : {nodes : ℕ} {l : List ℕ} → ((g : Game) → Numbered g l → Below g 0 0 l) → Gathering low high Below nodes 0 0 l l
  gathering_none none = record { some = omega arith; few = omega arith; apart = apart_none; held = λ g e N. none g N }

  -- one more, after which the game is still there
  pub gathering_more : {nodes n count next : ℕ} {l m k : List ℕ} → Gathering low high Below nodes n count l m → n < nodes → Added low high Below n count next m k → order_section ≤ low → Gathering low high Below nodes (n + 1) next l k
  gathering_more T v S b = record {
    some = omega arith;
    few = omega (arith, T.few, S.once);
    apart = apart_twice low high T.apart S.apart (omega arith) (omega arith) (omega arith) (omega arith);
    held = λ g e N. S.held g (omega (arith, e)) (numbered_apart N T.apart b) (T.held g e N);
  }
