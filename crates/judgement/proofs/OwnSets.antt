-- A player's sets, one by one.
use Prim.Native.Nat.{ℕ, zero, suc, ◌+◌, ◌≤◌, ◌<◌}
use mathlib.Core.Path.{◌≡◌, refl, sym, ap, ◌∙◌, subst}
use mathlib.Core.Bool.{Bool, true, false, cond}
use mathlib.Core.List.{List, [], ◌∷◌, ◌++◌, map}
use native.Mathlib.Omega.{arith}
use denote.Enum.Bare.{sameb}
use lib.Dec.{T}
use lib.ListN.{length, set}
use Rattle.std.specs.List.{filter, range_with_len}
use Rattle.std.proofs.lemmas.List.Elements.{filter-append}
use Rattle.algebra.specs.Arrays.{placed}
use Rattle.algebra.specs.Bounded.{join_to}
use Rattle.algebra.specs.Sections.{Held}
use Rattle.algebra.proofs.Filters.{gathered_at, gathered_below, next_yes, next_no, column_yes, column_no}
use Rattle.algebra.proofs.Lists.{join_to_cong}
use Rattle.model.specs.Game.{Game}
use Rattle.model.specs.Game as Model
use Rattle.model.specs.Earnings.{sets_of}
use Rattle.model.specs.Writing.{player_field}
use Rattle.loaded.specs.Sections.{player_section}
use Rattle.loaded.specs.Players.{as_player, owner_in}
use Rattle.loaded.specs.contracts.Player.{the_type}
use Rattle.loaded.specs.declared.Player.{Player}
use Rattle.loaded.proofs.Owners.{same_read, owner_at}
use Rattle.judgement.specs.Strategy.{is_own, own_alone, StrategyAsked}

-- The owner of set h is read, and tested against a player.
module _ (numbers : List ℕ) (read p : Player) (h : ℕ) (is : as_player read ≡ owner_in numbers h) where
  own : true ≡ sameb the_type read p → T (is_own numbers (as_player p) h)
  own e = subst T (e ∙ same_read read p is) tt

  not_own : false ≡ sameb the_type read p → ¬ T (is_own numbers (as_player p) h)
  not_own e t = subst T (sym (e ∙ same_read read p is)) t

  -- the place after set h
  pub next_own : (at : ℕ) → true ≡ sameb the_type read p → at + 1 ≡ at + length (own_alone numbers (as_player p) h)
  unfolding own_alone
  next_own at q = next_yes (is_own numbers (as_player p)) h at (own q)

  pub next_other : (at : ℕ) → false ≡ sameb the_type read p → at ≡ at + length (own_alone numbers (as_player p) h)
  unfolding own_alone
  next_other at d = next_no (is_own numbers (as_player p)) h at (not_own d)

  -- place `at` after it, with a number of the set's
  pub put_own : (f : ℕ → ℕ) (at : ℕ) (before after : List ℕ) (x : ℕ) → after ≡ set before at x → true ≡ sameb the_type read p → at < length before → x ≡ f h → after ≡ placed at (map f (own_alone numbers (as_player p) h)) before
  unfolding own_alone
  put_own f at before after x s q l v = column_yes (is_own numbers (as_player p)) f h at before after x s (own q) l v

  pub put_other : (f : ℕ → ℕ) (at : ℕ) (out : List ℕ) → false ≡ sameb the_type read p → out ≡ placed at (map f (own_alone numbers (as_player p) h)) out
  unfolding own_alone
  put_other f at out d = column_no (is_own numbers (as_player p)) f h at out (not_own d)

-- a range that is one longer
range_more : (a n next : ℕ) → next ≡ a + n → range_with_len a (suc n) ≡ range_with_len a n ++ next ∷ []
range_more a zero next e = ap (λ (k : ℕ). k ∷ []) (omega (arith, e))
range_more a (suc n) next e = ap (λ (l : List ℕ). a ∷ l) (range_more (a + 1) n next (omega (arith, e)))

-- the numbers below n that pass a test, as a chain of iterators leaves them
range_kept : (test : ℕ → Bool) (n : ℕ) → filter test (range_with_len 0 n) ≡ gathered_below test n
unfolding join_to
range_kept test zero = refl
range_kept test (suc n) = ap (filter test) (range_more 0 n n (omega arith)) ∙ filter-append test (range_with_len 0 n) (n ∷ []) ∙ ap (λ (l : List ℕ). l ++ gathered_at test n) (range_kept test n)

-- all that are p's
pub sets_are_own : (g : Game) {numbers : List ℕ} → Held player_section (player_field g) g.sets numbers → (p : Model.Player) → gathered_below (is_own numbers p) g.sets ≡ sets_of g p
unfolding sets_of
sets_are_own g held p = join_to_cong g.sets _ _ (λ h v. ap (λ (b : Bool). cond b (h ∷ []) []) (owner_at g held v p))

-- and as a chain of iterators leaves them
pub sets_kept : (g : Game) {numbers : List ℕ} → Held player_section (player_field g) g.sets numbers → (p : Model.Player) → {sets : ℕ} → sets ≡ g.sets → filter (is_own numbers p) (range_with_len 0 sets) ≡ sets_of g p
sets_kept g {numbers} held p {sets} e = range_kept (is_own numbers p) sets ∙ ap (gathered_below (is_own numbers p)) e ∙ sets_are_own g held p

-- there is room for their moves
pub own_room : {numbers : List ℕ} {sets : ℕ} (p : Model.Player) {moves out : List ℕ} → StrategyAsked numbers sets p moves out → length (gathered_below (is_own numbers p) sets) ≤ length out
own_room p asked = rw (asked.sets_are, sets_are_own asked.game asked.players p) asked.room
