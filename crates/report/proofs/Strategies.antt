-- The lines of a player's sets: one by one as they are put, and those of the model's best response.
use Prim.Native.Nat.{ℕ, zero, suc, ◌+◌, ◌*◌, ◌≤◌, ◌<◌}
use mathlib.Core.Path.{◌≡◌, refl, sym, ap, ◌∙◌}
use mathlib.Core.Bool.{Bool, true, false, cond}
use mathlib.Core.List.{List, [], ◌∷◌, ◌++◌, flat_map, append-nil, append_assoc}
use native.Mathlib.Omega.{arith}
use native.Mathlib.Decide.{ℕ_discrete}
use native.Mathlib.Numerals.{add-one}
use denote.Enum.Bare.{sameb}
use lib.Dec.{T}
use lib.ListN.{length, length-append}
use Rattle.algebra.specs.Arrays.{item, Holds}
use Rattle.algebra.specs.Sections.{Held}
use Rattle.algebra.specs.Bounded.{join_to}
use Rattle.algebra.proofs.Lists.{join_to_suc, join_to_cong}
use Rattle.algebra.proofs.Tests.{dec, cond_yes, cond_no}
use Rattle.model.specs.Game.{Game, Player, owns}
use Rattle.model.specs.Sequences.{Move}
use Rattle.model.specs.Plan.{RealizationPlan}
use Rattle.model.specs.BestResponse.{best_move, best_at, best_response}
use Rattle.model.specs.Report.{move_line}
use Rattle.model.specs.Writing.{player_field}
use Rattle.loaded.specs.Sections.{player_section}
use Rattle.loaded.specs.Players.{as_player, owner_in}
use Rattle.loaded.specs.contracts.Player.{the_type}
use Rattle.loaded.specs.declared.Player as Code
use Rattle.loaded.proofs.Owners.{same_read, owner_at}
use Rattle.responses.specs.BestMoves.{own_best_move}
use Rattle.text.specs.Text.{TextFits, Put}
use Rattle.report.specs.Whole.{set_line, strategy_lines}
use Rattle.text.proofs.Puts.{put_none, room_then, put_then}

-- lists below n and list n are part of the lists below any later bound
joined_part : {A : Type 0} (f : ℕ → List A) (n bound : ℕ) → n < bound → length (join_to n f ++ f n) ≤ length (join_to bound f)
unfolding join_to
joined_part f n zero l = absurd (omega arith)
joined_part f n (suc bound) l =
    elim (ℕ_discrete n bound) [
      | yes e ↦ rw e (omega arith)
      | no e ↦ omega (arith, length-append (join_to bound f) (f bound), joined_part f n bound (omega arith))
    ]

-- lists of at most c elements
pub joined_most : {A : Type 0} (c n : ℕ) (f : ℕ → List A) → ((i : ℕ) → i < n → length (f i) ≤ c) → length (join_to n f) ≤ c * n
unfolding join_to
joined_most c zero f h = omega arith
joined_most c (suc n) f h = omega (arith, length-append (join_to n f) (f n), joined_most c n f (λ i l. h i (omega arith)), h n (omega arith))

-- A loop that puts one text after the other.
module _ (f : ℕ → List ℕ) {at : ℕ} {before : List ℕ} where
  -- where it begins
  pub joined_none : Put at (join_to 0 f) before before at
  unfolding join_to
  joined_none = put_none at before

  module _ {n bound : ℕ} (l : n < bound) (r : TextFits at (join_to bound f) before) where
    next_room : TextFits at (join_to n f ++ f n) before
    next_room = record { fits = omega (arith, r.fits, joined_part f n bound l) }

    module _ {mid : List ℕ} {k : ℕ} (p : Put at (join_to n f) before mid k) where
      -- there is room for the next text
      pub joined_room : TextFits k (f n) mid
      joined_room = room_then p (f n) next_room

      -- a turn: it is put
      pub joined_more : {after : List ℕ} {m : ℕ} → Put k (f n) mid after m → Put at (join_to (n + 1) f) before after m
      joined_more q = rw (add-one, join_to_suc n f) (put_then p next_room q)

-- texts of joined lists
flat_map_append : {A B : Type 0} (f : A → List B) (k l : List A) → flat_map f (k ++ l) ≡ flat_map f k ++ flat_map f l
unfolding flat_map
flat_map_append f [] l = refl
flat_map_append f (x ∷ k) l = rw (flat_map_append f k l, append_assoc (f x) (flat_map f k) (flat_map f l))

pub flat_map_join_to : {A B : Type 0} (f : A → List B) (n : ℕ) (k : ℕ → List A) → flat_map f (join_to n k) ≡ join_to n (λ i. flat_map f (k i))
unfolding flat_map join_to
flat_map_join_to f zero k = refl
flat_map_join_to f (suc n) k = flat_map_append f (join_to n k) (k n) ∙ rw (flat_map_join_to f n k)

-- The line of set h, by the test of the owner that was read.
module _ (numbers : List ℕ) (read p : Code.Player) (moves : List ℕ) (h : ℕ) (is : as_player read ≡ owner_in numbers h) where
  pub line_own : true ≡ sameb the_type read p → set_line numbers (as_player p) moves h ≡ move_line (h, item moves h)
  unfolding set_line
  line_own e = rw (sym (e ∙ same_read read p is))

  pub line_other : false ≡ sameb the_type read p → set_line numbers (as_player p) moves h ≡ []
  unfolding set_line
  line_other e = rw (sym (e ∙ same_read read p is))

-- The best response of p to y.
module _ (g : Game) (p : Player) (y : RealizationPlan) where
  -- a set's line in the model's text
  abbrev pub response_line : ℕ → List ℕ
  response_line h = flat_map move_line (cond (owns g p h) (best_at g p y h) [])

  pub response_own : (h : ℕ) → T (owns g p h) → response_line h ≡ move_line (h, best_move g p y h)
  unfolding flat_map best_at
  response_own h o = rw (cond_yes {A = List Move} (owns g p h) ((h, best_move g p y h) ∷ []) [] o) (append-nil (move_line (h, best_move g p y h)))

  pub response_other : (h : ℕ) → ¬ T (owns g p h) → response_line h ≡ []
  unfolding flat_map
  response_other h o = rw (cond_no {A = List Move} (owns g p h) (best_at g p y h) [] o)

  pub response_lines : flat_map move_line (best_response g p y) ≡ join_to g.sets response_line
  unfolding best_response
  response_lines = flat_map_join_to move_line g.sets (λ h. cond (owns g p h) (best_at g p y h) [])

-- Where the players of a game's sets stand in the numbers and the moves are a player's best, his sets' lines are those of his best response.
pub strategy_lines_lem : (g : Game) {numbers : List ℕ} → Held player_section (player_field g) g.sets numbers → (p : Player) → (y : RealizationPlan) {moves : List ℕ} → Holds (own_best_move g p y) g.sets moves → strategy_lines numbers g.sets p moves ≡ flat_map move_line (best_response g p y)
unfolding strategy_lines set_line own_best_move
strategy_lines_lem g {numbers} players p y {moves} held = join_to_cong g.sets _ _ (λ h l. ap (λ (own : Bool). cond own (move_line (h, item moves h)) []) (owner_at g players l p) ∙ at_set h l (dec (owns g p h))) ∙ sym (response_lines g p y)
  where
    at_set : (h : ℕ) → h < g.sets → Dec (T (owns g p h)) → cond (owns g p h) (move_line (h, item moves h)) [] ≡ response_line g p y h
    at_set h l (yes o) =
        let best : item moves h ≡ best_move g p y h = held.at h l ∙ cond_yes (owns g p h) (best_move g p y h) 0 o in
        cond_yes (owns g p h) (move_line (h, item moves h)) [] o ∙ ap (λ (m : ℕ). move_line (h, m)) best ∙ sym (response_own g p y h o)
    at_set h l (no o) = cond_no (owns g p h) (move_line (h, item moves h)) [] o ∙ sym (response_other g p y h o)
