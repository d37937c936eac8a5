-- The numbers of a record that was read are the game's fields.
use Prim.Native.Nat.{ℕ, zero, suc, ◌+◌, ◌≤◌}
use mathlib.Core.Path.{◌≡◌, refl, sym, ap, ◌∙◌}
use mathlib.Core.List.{List}
use mathlib.Core.Bool.{cond}
use native.Mathlib.Omega.{arith}
use lib.IntN.{ℤ, pos}
use lib.Dec.{eqb, eqb→eq}
use mir.Syntax.{w16, w64}
use mir.Val.{SFits, to_z, of_z}
use mir.Facts.{to_z-of_z, sfits_widen}
use Rattle.algebra.proofs.Tests.{cond_no}
use Rattle.model.specs.Bits.{field, signed}
use Rattle.model.specs.Game.{game_of, node_at, one, two, player_of, player_bit, is_leaf, is_decision, is_chance}
use Rattle.model.specs.Writing.{payoff_field, player_field, set_field, moves_field}
use Rattle.records.specs.declared.game_file.SetEntry.{SetEntry}
use Rattle.records.specs.declared.game_file.NodeRecord.{NodeRecord}
use Rattle.records.specs.Records.{SetRead, NodeRead, kind_of, set_in, moves_in, payoff1_in, payoff2_in, payload_by, payload_of}

-- a number of 16 bits, read from its bits, fits 64, and is there the same number
pub widens : {z : ℤ} → SFits w16 z → SFits w64 (to_z w16 (of_z w16 z))
widens f = rw (to_z-of_z f) (sfits_widen tt f)

pub widened : {z : ℤ} → SFits w16 z → to_z w64 (of_z w64 (to_z w16 (of_z w16 z))) ≡ z
widened f = rw (to_z-of_z f) (to_z-of_z {w = w64} (sfits_widen tt f))

-- a bit is its player's
bit_player : (b : ℕ) → b ≤ 1 → b ≡ player_bit (player_of b)
bit_player zero l = refl
bit_player (suc zero) l = refl
bit_player (suc (suc b)) l = absurd (omega arith)

-- the player of a set entry
pub set_player_lem : (bytes : List ℕ) (h : ℕ) (r : SetEntry) → SetRead bytes h r → r.player ≡ player_field (game_of bytes) h
unfolding player_field game_of
set_player_lem bytes h r e = bit_player r.player (omega (arith, e.player_fits)) ∙ ap (λ (b : ℕ). player_bit (player_of b)) e.player

-- a kind past 2 is none of those before
other_kind : {A : Type 0} (k j : ℕ) (x y : A) → j ≤ 2 → y ≡ cond (eqb (suc (suc (suc k))) j) x y
other_kind k j x y l = sym (cond_no (eqb (suc (suc (suc k))) j) x y (λ t. omega (arith, eqb→eq (suc (suc (suc k))) j t)))

-- a payload's set and moves, by kind
set_by_kind : (bytes : List ℕ) (n kind : ℕ) → set_in (payload_of bytes (node_at bytes n + 32) kind) ≡ cond (eqb kind 1) ((game_of bytes).node_set n) 0
unfolding set_in kind_of payload_by payload_of game_of
set_by_kind bytes n zero = refl
set_by_kind bytes n (suc zero) = refl
set_by_kind bytes n (suc (suc zero)) = refl
set_by_kind bytes n (suc (suc (suc k))) = other_kind k 1 _ 0 (omega arith)

pub moves_by_kind : (bytes : List ℕ) (n kind : ℕ) → moves_in (payload_of bytes (node_at bytes n + 32) kind) ≡ cond (eqb kind 2) ((game_of bytes).chance_moves n) 0
unfolding moves_in kind_of payload_by payload_of game_of
moves_by_kind bytes n zero = refl
moves_by_kind bytes n (suc zero) = refl
moves_by_kind bytes n (suc (suc zero)) = refl
moves_by_kind bytes n (suc (suc (suc k))) = other_kind k 2 _ 0 (omega arith)

-- a payload's payoffs, by kind
payoff1_by_kind : (bytes : List ℕ) (n kind : ℕ) → payoff1_in (payload_of bytes (node_at bytes n + 32) kind) ≡ cond (eqb kind 0) ((game_of bytes).payoff one n) (pos 0)
unfolding payoff1_in kind_of payload_by payload_of game_of
payoff1_by_kind bytes n zero = refl
payoff1_by_kind bytes n (suc zero) = refl
payoff1_by_kind bytes n (suc (suc zero)) = refl
payoff1_by_kind bytes n (suc (suc (suc k))) = other_kind k 0 _ (pos 0) (omega arith)

payoff2_by_kind : (bytes : List ℕ) (n kind : ℕ) → payoff2_in (payload_of bytes (node_at bytes n + 32) kind) ≡ cond (eqb kind 0) ((game_of bytes).payoff two n) (pos 0)
unfolding payoff2_in kind_of payload_by payload_of game_of
payoff2_by_kind bytes n zero =
    let e : node_at bytes n + 32 + 16 ≡ node_at bytes n + 48 = omega arith in
    ap (λ (i : ℕ). signed 16 (field bytes i 16)) e
payoff2_by_kind bytes n (suc zero) = refl
payoff2_by_kind bytes n (suc (suc zero)) = refl
payoff2_by_kind bytes n (suc (suc (suc k))) = other_kind k 0 _ (pos 0) (omega arith)

-- what a node record has by its kind
module _ (bytes : List ℕ) (n : ℕ) (r : NodeRecord) (e : NodeRead bytes n r) where
  pub node_set_lem : set_in r.payload ≡ set_field (game_of bytes) n
  unfolding set_field is_decision
  node_set_lem = ap set_in e.payload ∙ set_by_kind bytes n ((game_of bytes).kind n)

  pub node_moves_lem : moves_in r.payload ≡ moves_field (game_of bytes) n
  unfolding moves_field is_chance
  node_moves_lem = ap moves_in e.payload ∙ moves_by_kind bytes n ((game_of bytes).kind n)

  pub node_payoff1 : payoff1_in r.payload ≡ payoff_field (game_of bytes) one n
  unfolding payoff_field is_leaf
  node_payoff1 = ap payoff1_in e.payload ∙ payoff1_by_kind bytes n ((game_of bytes).kind n)

  pub node_payoff2 : payoff2_in r.payload ≡ payoff_field (game_of bytes) two n
  unfolding payoff_field is_leaf
  node_payoff2 = ap payoff2_in e.payload ∙ payoff2_by_kind bytes n ((game_of bytes).kind n)
