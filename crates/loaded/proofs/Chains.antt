-- Laws of the chains of sets that a sequence leads to.
use Prim.Native.Nat.{ℕ, ◌+◌, ◌<◌}
use mathlib.Core.Path.{◌≡◌}
use lib.Dec.{T, eqb, eqb_refl}
use mir.Facts.{yes_and}
use Rattle.algebra.proofs.Searches.{from_end, from_here, from_next}
use Rattle.model.specs.Game.{Game, Player, same_player, owns}
use Rattle.model.specs.Sequences.{leading_number}
use Rattle.model.proofs.Tree.{player_refl}
use Rattle.loaded.specs.Sets.{lead_by, first_led}

module _ (g : Game) where
  -- from the end on a sequence leads to no set
  pub led_end : (p : Player) (s : ℕ) → first_led g p s g.sets ≡ g.sets
  unfolding first_led
  led_end p s = from_end (lead_by g p s) g.sets

  -- a set is the first from itself on that its own leading sequence leads to
  pub led_here : (h : ℕ) → h < g.sets → first_led g (g.set_player h) (leading_number g h) h ≡ h
  unfolding first_led lead_by owns
  led_here h l =
      let p = g.set_player h in
      let s = leading_number g h in
      from_here (lead_by g p s) g.sets h l (yes_and (same_player p p) (eqb s s) (player_refl p) (eqb_refl s))

  -- any other sequence passes it over
  pub led_next : (p : Player) (s h : ℕ) → h < g.sets → ¬ T (lead_by g p s h) → first_led g p s (h + 1) ≡ first_led g p s h
  unfolding first_led
  led_next p s h l t = from_next (lead_by g p s) g.sets h l t
