-- Whose set it is, by the section of players.
use Prim.Native.Nat.{ℕ, ◌+◌, ◌<◌}
use mathlib.Core.Path.{◌≡◌, refl, sym, ap, ◌∙◌, subst}
use mathlib.Core.Bool.{true, false}
use mathlib.Core.List.{List}
use denote.Enum.Bare.{sameb}
use native.Mathlib.Omega.{arith}
use lib.Dec.{T}
use Rattle.algebra.specs.Arrays.{item}
use Rattle.algebra.specs.Sections.{Held}
use Rattle.model.specs.Game.{Game, one, two, same_player, player_of, player_bit, owns, moves_before}
use Rattle.model.specs.Game as Model
use Rattle.model.specs.Sequences.{move_number}
use Rattle.model.specs.Writing.{player_field}
use Rattle.model.proofs.Tree.{owner, bit_below}
use Rattle.loaded.specs.Sections.{player_section}
use Rattle.loaded.specs.Sets.{first_sequence}
use Rattle.loaded.specs.Players.{as_player, owner_in}
use Rattle.loaded.specs.Loaded.{Decoded}
use Rattle.loaded.specs.contracts.Player.{the_type}
use Rattle.loaded.specs.declared.Player.{Player}
use Rattle.loaded.specs.declared.Player.TheVariants.{One, Two}

-- a player is the one with his bit
bit_player : (q : Model.Player) → player_of (player_bit q) ≡ q
bit_player one = refl
bit_player two = refl

-- the test of two players of the code is the model's
same_is : (read p : Player) → sameb the_type read p ≡ same_player (as_player p) (as_player read)
same_is One One = refl
same_is One Two = refl
same_is Two One = refl
same_is Two Two = refl

-- so the test of the player who is read as r is that of r
pub same_read : (read p : Player) {r : Model.Player} → as_player read ≡ r → sameb the_type read p ≡ same_player (as_player p) r
same_read read p is = same_is read p ∙ ap (same_player (as_player p)) is

-- The section of players holds the game's.
module _ (g : Game) {numbers : List ℕ} (held : Held player_section (player_field g) g.sets numbers) {h : ℕ} (v : h < g.sets) where
  -- it tells the set's player
  pub owner_held : owner_in numbers h ≡ g.set_player h
  unfolding player_field
  owner_held = ap player_of (held.at 0 h v) ∙ bit_player (g.set_player h)

  -- so a set is his whom it tells
  pub owner_at : (p : Model.Player) → same_player p (owner_in numbers h) ≡ owns g p h
  unfolding owns
  owner_at p = ap (same_player p) owner_held

  -- The owner of set h is read, and tested against a player.
  module _ (read p : Player) (is : as_player read ≡ owner_in numbers h) where
    -- the test is whether the set is that player's
    pub owner_test : sameb the_type read p ≡ owns g (as_player p) h
    owner_test = same_read read p is ∙ owner_at (as_player p)

    -- where it succeeds, it is
    pub is_owner : true ≡ sameb the_type read p → T (owns g (as_player p) h)
    is_owner e = subst T (e ∙ owner_test) tt

    -- and where it fails, it is not
    pub not_owner : false ≡ sameb the_type read p → ¬ T (owns g (as_player p) h)
    not_owner e t = subst T (sym (e ∙ owner_test)) t

-- the first sequence of a set of p's, by his moves before it
pub own_start : (g : Game) (p : Model.Player) (h : ℕ) → T (owns g p h) → first_sequence g h ≡ 1 + moves_before g p h
unfolding first_sequence move_number
own_start g p h o = omega (arith, ap (λ (r : Model.Player). moves_before g r h) (owner g p h o))

module _ {g : Game} {numbers : List ℕ} (D : Decoded g numbers) {h : ℕ} (v : h < g.sets) where
  -- the owner that is read of set h is the set's player
  pub player_read : {p : Model.Player} → p ≡ owner_in numbers h → p ≡ g.set_player h
  player_read is = is ∙ owner_held g D.sets_decoded.players v

  -- The bit of set h is read.
  module _ {b : ℕ} (e : b ≡ item numbers (player_section + h)) where
    -- it is that of the set's player
    pub bit_read : b ≡ player_field g h
    bit_read = e ∙ D.sets_decoded.players.at 0 h v

    -- so it is 0 or 1
    pub bit_small : b < 2
    unfolding player_field
    bit_small = omega (arith, bit_read, bit_below (g.set_player h))
