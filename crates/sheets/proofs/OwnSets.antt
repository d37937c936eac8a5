-- What it says that a set of the order is a player's, or that it is not.
use Prim.Native.Nat.{ℕ}
use mathlib.Core.Path.{◌≡◌, sym, ap, ◌∙◌}
use mathlib.Core.Bool.{Bool, true, false, cond}
use lib.Dec.{T}
use Rattle.std.specs.Prelude.{Option, Some, None}
use Rattle.algebra.specs.Arrays.{item}
use Rattle.algebra.proofs.Tests.{cond_yes, cond_no, dec}
use Rattle.model.specs.Game.{Game, Player, owns}
use Rattle.loaded.specs.declared.SetSequences.{SetSequences}
use Rattle.loaded.specs.Sets.{set_order}
use Rattle.loaded.specs.SetSequences.{set_sequences_of}
use Rattle.sheets.specs.OwnSets.{own_set_of}

module _ (g : Game) (p : Player) (i : ℕ) {h : ℕ} (at : h ≡ item (set_order g) i) where
  -- the set that stands there is his
  pub own_set_is : T (owns g p h) → {s : SetSequences} → s ≡ set_sequences_of g h → Some s ≡ own_set_of g p i
  unfolding own_set_of
  own_set_is o e = rw (e, ← at) (sym (cond_yes (owns g p h) (Some (set_sequences_of g h)) None o))

  -- or the other's
  pub own_set_not : ¬ T (owns g p h) → None ≡ own_set_of g p i
  unfolding own_set_of
  own_set_not o = rw (← at) (sym (cond_no (owns g p h) (Some (set_sequences_of g h)) None o))

module _ (g : Game) (p : Player) (i : ℕ) {r : Option SetSequences} (is : r ≡ own_set_of g p i) where
  -- where there is one, it is the set that stands there, and his
  pub own_set_some : {s : SetSequences} → r ≡ Some s → T (owns g p (item (set_order g) i)) × (s ≡ set_sequences_of g (item (set_order g) i))
  unfolding own_set_of
  own_set_some {s} e = go (owns g p (item (set_order g) i)) (sym e ∙ is)
    where
      go : (b : Bool) → Some s ≡ cond b (Some (set_sequences_of g (item (set_order g) i))) None → T b × (s ≡ set_sequences_of g (item (set_order g) i))
      go true f = (tt, cc)
      go false f = absurd cc

  -- where there is none, it is the other's
  pub own_set_none : r ≡ None → ¬ T (owns g p (item (set_order g) i))
  unfolding own_set_of
  own_set_none e = go (owns g p (item (set_order g) i)) (sym e ∙ is)
    where
      go : (b : Bool) → None ≡ cond b (Some (set_sequences_of g (item (set_order g) i))) None → ¬ T b
      go true f t = absurd cc
      go false f t = t
