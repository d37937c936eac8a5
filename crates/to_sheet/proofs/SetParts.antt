-- A set's odds: where its weights stand and its odds go, and how those of all sets come to stand one after the other.
use Prim.Native.Nat.{ℕ, suc, ◌+◌, ◌-◌, ◌/◌, ◌≤◌, ◌<◌}
use mathlib.Core.Path.{◌≡◌, ap, ◌∙◌}
use mathlib.Core.Bool.{true, false, cond}
use mathlib.Core.List.{List, [], ◌++◌}
use denote.Enum.Bare.{sameb}
use native.Mathlib.Omega.{arith}
use native.Mathlib.Numerals.{add-one}
use lib.ListN.{length}
use lib.Dec.{T}
use Rattle.algebra.specs.Arrays.{item, placed}
use Rattle.algebra.specs.Bounded.{join_to, list_to}
use Rattle.algebra.specs.Divisors.{gcd_to}
use Rattle.algebra.proofs.Tests.{cond_yes, cond_no}
use Rattle.algebra.proofs.Totals.{count_less}
use Rattle.algebra.proofs.Lists.{join_to_suc}
use Rattle.algebra.proofs.Arrays.{length_placed, placed_none, placed_twice}
use Rattle.model.specs.Limits.{count_limit}
use Rattle.model.specs.Game.{Game, Player, one, two, owns, moves_before}
use Rattle.model.specs.Sequences.{move_number}
use Rattle.model.specs.Plan.{plan_moves}
use Rattle.model.proofs.Numbers.{moves_block, plan_moves_few}
use Rattle.model.proofs.PlanOrder.{block, length_before}
use Rattle.loaded.specs.declared.Counts.{Counts}
use Rattle.loaded.specs.Counts.{counts_of}
use Rattle.loaded.specs.Players.{as_player, owner_in}
use Rattle.loaded.specs.SetSequences.{set_sequences_in, set_sequences_of}
use Rattle.loaded.specs.contracts.Player.{the_type}
use Rattle.loaded.specs.declared.Player as Code
use Rattle.loaded.specs.declared.SetSequences.{SetSequences}
use Rattle.loaded.specs.Weights.{plan_by_number}
use Rattle.loaded.proofs.Owners.{is_owner, not_owner, own_start}
use Rattle.plan.specs.Loaded.{LoadedIn, SetsLoaded}
use Rattle.plan.proofs.Balance.{sequences_read, loaded_sets}
use Rattle.plan.proofs.Refusals.{counted, few_sequences, room}
use Rattle.to_sheet.specs.Parts.{parts_of, parts_at, player_parts, PartsAsked}

module _ (g : Game) (p : Player) (x : List ℕ) where
  -- a set of p's, and one that is not
  pub parts_own : (h : ℕ) → T (owns g p h) → parts_at g p x h ≡ list_to (g.set_moves h) (parts_of g (plan_by_number g p (item x)) h)
  unfolding parts_at
  parts_own h o = cond_yes (owns g p h) (list_to (g.set_moves h) (parts_of g (plan_by_number g p (item x)) h)) [] o

  pub parts_other : (h : ℕ) → ¬ T (owns g p h) → parts_at g p x h ≡ []
  unfolding parts_at
  parts_other h n = cond_no (owns g p h) (list_to (g.set_moves h) (parts_of g (plan_by_number g p (item x)) h)) [] n

  -- as many numbers as moves
  length_below : (h : ℕ) → length (join_to h (parts_at g p x)) ≡ moves_before g p h
  unfolding parts_at block
  length_below h = length_before g (parts_of g (plan_by_number g p (item x))) p h

  length_player : length (player_parts g p x) ≡ moves_before g p g.sets
  unfolding player_parts
  length_player = length_below g.sets

-- The owner of set h is read, and tested against a player.
module _ {h : ℕ} (read player : Code.Player) {numbers : List ℕ} (is : as_player read ≡ owner_in numbers h) where
  -- it is his: its odds have room
  pub set_room : {before : ℕ} {x out : List ℕ} → PartsAsked (suc h) (as_player player) numbers x before out → true ≡ sameb the_type read player → {s : SetSequences} → s ≡ set_sequences_in numbers h → (1 ≤ s.start) × (before + s.start - 1 + s.moves ≤ length out)
  unfolding set_sequences_of
  set_room A t {s} q =
      let F = A.asked in
      let g = F.game in
      let S = F.sets_loaded in
      let p = as_player player in
      let l : h < g.sets = omega (arith, F.sets_in) in
      let o = is_owner g S.players l read player is t in
      let at = sequences_read S l q in
      let from : s.start ≡ 1 + moves_before g p h = ap (λ (r : SetSequences). r.start) at ∙ own_start g p h o in
      let to : s.moves ≡ g.set_moves h = ap (λ (r : SetSequences). r.moves) at in
      let last = moves_block g p h g.sets l o in
      (omega arith, omega (arith, A.room))

  -- What is put of it.
  module _ (g : Game) (S : SetsLoaded g numbers) (l : h < g.sets) (x : List ℕ) (before : ℕ) (out : List ℕ) where
    -- it is not the player's: nothing
    pub other_put : false ≡ sameb the_type read player → out ≡ placed (before + moves_before g (as_player player) h) (parts_at g (as_player player) x h) out
    other_put d = rw (parts_other g (as_player player) x h (not_owner g S.players l read player is d)) (placed_none _ out)

    -- it is his: its weights divided, in their places
    pub own_put : true ≡ sameb the_type read player → {s : SetSequences} → s ≡ set_sequences_in numbers h → {divisor : ℕ} {after : List ℕ} → divisor ≡ gcd_to s.moves (λ m. item x (s.start + m)) → after ≡ placed (before + s.start - 1) (list_to s.moves (λ m. item x (s.start + m) / divisor)) out → after ≡ placed (before + moves_before g (as_player player) h) (parts_at g (as_player player) x h) out
    unfolding parts_of plan_by_number move_number set_sequences_of
    own_put t {s} q divides put =
        let p = as_player player in
        let o = is_owner g S.players l read player is t in
        let at = sequences_read S l q in
        let from : s.start ≡ 1 + moves_before g p h = ap (λ (r : SetSequences). r.start) at ∙ own_start g p h o in
        let to : s.moves ≡ g.set_moves h = ap (λ (r : SetSequences). r.moves) at in
        let place : before + (1 + moves_before g p h) - 1 ≡ before + moves_before g p h = omega arith in
        put ∙ rw (divides, from, to, place, parts_own g p x h o)

-- The loop over the sets: those of p's below h have put theirs.
pub record PutBelow (g : Game) (p : Player) (x : List ℕ) (before : ℕ) (out : List ℕ) (h : ℕ) (after : List ℕ) : Type 0 where
  pub is : after ≡ placed before (join_to h (parts_at g p x)) out

module _ {g : Game} {p : Player} {x : List ℕ} {before : ℕ} {out : List ℕ} where
  -- where it begins
  pub below_none : PutBelow g p x before out 0 out
  unfolding join_to
  below_none = record { is = placed_none before out }

  -- a turn
  pub below_more : {h : ℕ} {mid after : List ℕ} → PutBelow g p x before out h mid → before ≤ length out → after ≡ placed (before + moves_before g p h) (parts_at g p x h) mid → PutBelow g p x before out (h + 1) after
  below_more {h} B b put =
      let l = join_to h (parts_at g p x) in
      record { is = put ∙ rw (B.is, ← length_below g p x h, placed_twice before l (parts_at g p x h) out b, add-one, join_to_suc) }

  -- the buffer keeps its length
  below_long : {h : ℕ} {after : List ℕ} → PutBelow g p x before out h after → before + moves_before g p h ≤ length out → length after ≡ length out
  below_long {h} B b = ap length B.is ∙ length_placed before (join_to h (parts_at g p x)) out (omega (arith, length_below g p x h))

  -- the end
  pub below_all : {h : ℕ} {after : List ℕ} → PutBelow g p x before out h after → h ≡ g.sets → after ≡ placed before (player_parts g p x) out
  unfolding player_parts
  below_all B e = rw e at B.is

-- What is asked at a turn.
module _ {sets : ℕ} {p : Player} {before : ℕ} {numbers x out : List ℕ} (A : PartsAsked sets p numbers x before out) where
  -- the buffer is as long as at first
  pub turn_long : {h : ℕ} {after : List ℕ} → ((g : Game) → SetsLoaded g numbers → sets ≤ g.sets → PutBelow g p x before out h after) → h ≤ sets → length after ≡ length out
  unfolding moves_before
  turn_long {h} B l =
      let F = A.asked in
      let g = F.game in
      below_long (B g F.sets_loaded F.sets_in) (omega (arith, A.room, count_less g.sets h (λ k. cond (owns g p k) (g.set_moves k) 0) (omega (arith, F.sets_in))))

  -- so it has room for the set's odds
  pub turn_asks : (h : ℕ) → h < sets → {after : List ℕ} → length after ≡ length out → PartsAsked (suc h) p numbers x before after
  turn_asks h l e = let F = A.asked in record {
    asked = record { game = F.game; sets_loaded = F.sets_loaded; sets_in = omega (arith, F.sets_in); weights_long = F.weights_long };
    room = omega (arith, e, A.room);
  }

-- What is asked of both players' sets of a loaded game, with an array for all moves.
module _ {c : Counts} {numbers : List ℕ} (L : LoadedIn c numbers) where
  -- one player's, after so many others
  asked_of : (p : Player) {x : List ℕ} → count_limit ≤ length x → (before : ℕ) {out : List ℕ} → before + moves_before L.game p L.game.sets ≤ length out → PartsAsked c.sets p numbers x before out
  asked_of p {x} l before r = record {
    asked = record {
      game = L.game;
      sets_loaded = loaded_sets L.loaded;
      sets_in = omega (arith, (counted L.loaded.counts_are).sets_are);
      weights_long = room L.loaded.rules L.loaded.limits p x l;
    };
    room = r;
  }

  few : moves_before L.game one L.game.sets + moves_before L.game two L.game.sets ≤ count_limit
  unfolding plan_moves
  few = omega (arith, plan_moves_few L.game L.loaded.rules, L.loaded.limits.nodes)

  -- player 1 has a sequence at least
  pub some_sequence : 1 ≤ c.sequences1
  some_sequence = (few_sequences L.loaded.rules L.loaded.limits L.loaded.counts_are).some1

  pub first_asks : {x out : List ℕ} → count_limit ≤ length x → count_limit ≤ length out → PartsAsked c.sets one numbers x 0 out
  first_asks l r = asked_of one l 0 (omega (arith, few))

  pub second_asks : {y out : List ℕ} → count_limit ≤ length y → count_limit ≤ length out → PartsAsked c.sets two numbers y (c.sequences1 - 1) out
  second_asks l r = asked_of two l (c.sequences1 - 1) (omega (arith, few, (counted L.loaded.counts_are).moves1))

-- player 2's odds after player 1's
pub both_put : (g : Game) {c : Counts} → c ≡ counts_of g → (x y out : List ℕ) {mid after : List ℕ} → mid ≡ placed 0 (player_parts g one x) out → after ≡ placed (c.sequences1 - 1) (player_parts g two y) mid → after ≡ placed 0 (player_parts g one x ++ player_parts g two y) out
both_put g {c} e x y out first second =
    let size : c.sequences1 - 1 ≡ 0 + length (player_parts g one x) = omega (arith, (counted e).moves1, length_player g one x) in
    second ∙ rw (first, size) (placed_twice 0 (player_parts g one x) (player_parts g two y) out (omega arith))
