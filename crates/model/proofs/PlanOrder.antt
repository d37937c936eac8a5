-- Numbers in plan order: the number of each move stands at its place, and every place is that of a move.
use Prim.Native.Nat.{ℕ, suc, ◌+◌, ◌-◌, ◌<◌}
use mathlib.Core.Path.{◌≡◌, sym, ap, ◌∙◌, subst}
use mathlib.Core.Bool.{cond}
use mathlib.Core.List.{List, [], ◌++◌}
use native.Mathlib.Omega.{arith}
use native.Mathlib.Decide.{dec_lt}
use lib.Dec.{T}
use lib.ListN.{length, get_or, length-append, get_or-append, get_or-eq_default}
use lib.Seq.{get_or-append-add, ext_get_or}
use Rattle.algebra.specs.Bounded.{join_to, list_to}
use Rattle.algebra.proofs.Tests.{dec, cond_yes, cond_no}
use Rattle.algebra.proofs.Totals.{count_cong}
use Rattle.algebra.proofs.Lists.{join_to_suc, join_to_front, length_joins, length_list_to, list_to_at}
use Rattle.model.specs.Game.{Game, Player, one, two, owns, moves_before}
use Rattle.model.specs.Plan.{weights_before, plan_moves, weight_place}
use Rattle.model.specs.PlanOrder.{moves_in_order, in_plan_order}
use Rattle.model.proofs.Reached.{move_found}

module _ (g : Game) (f : (h m : ℕ) → ℕ) where
  -- p's numbers of a set
  unfoldable pub block : Player → ℕ → List ℕ
  block p h = cond (owns g p h) (list_to (g.set_moves h) (f h)) []

  length_block : (p : Player) (h : ℕ) → length (block p h) ≡ cond (owns g p h) (g.set_moves h) 0
  unfolding block
  length_block p h =
      elim (dec (owns g p h)) [
        | yes o ↦ rw (cond_yes (owns g p h) (list_to (g.set_moves h) (f h)) [] o, cond_yes {A = ℕ} (owns g p h) (g.set_moves h) 0 o) (length_list_to (g.set_moves h) (f h))
        | no o ↦ rw (cond_no (owns g p h) (list_to (g.set_moves h) (f h)) [] o, cond_no {A = ℕ} (owns g p h) (g.set_moves h) 0 o)
      ]

  -- those of the sets before h are as many as their moves
  pub length_before : (p : Player) (h : ℕ) → length (join_to h (block p)) ≡ moves_before g p h
  unfolding moves_before
  length_before p h = length_joins h (block p) ∙ count_cong h _ _ (λ k l. length_block p k)

  -- as many numbers as moves
  length_moves : (p : Player) → length (moves_in_order g p f) ≡ moves_before g p g.sets
  unfolding moves_in_order block
  length_moves p = length_before p g.sets

  pub length_order : length (in_plan_order g f) ≡ plan_moves g
  unfolding in_plan_order plan_moves
  length_order = length-append (moves_in_order g one f) (moves_in_order g two f) ∙ (λ i. length_moves one i + length_moves two i)

  -- the number of a move stands at its place
  moves_at : (p : Player) (h m : ℕ) → h < g.sets → T (owns g p h) → m < g.set_moves h → (get_or (moves_in_order g p f) (moves_before g p h + m) 0 ≡ f h m) × (moves_before g p h + m < moves_before g p g.sets)
  unfolding moves_in_order block
  moves_at p h m l o v =
      let B = block p in
      let front = join_to_front g.sets (suc h) B l in
      let here : B h ≡ list_to (g.set_moves h) (f h) = cond_yes (owns g p h) (list_to (g.set_moves h) (f h)) [] o in
      let size : length (B h) ≡ g.set_moves h = ap {B = ℕ} length here ∙ length_list_to (g.set_moves h) (f h) in
      let upto : length (join_to (suc h) B) ≡ moves_before g p h + g.set_moves h = ap {B = ℕ} length (join_to_suc h B) ∙ length-append (join_to h B) (B h) ∙ (λ i. length_before p h i + size i) in
      let all : length (join_to g.sets B) ≡ length (join_to (suc h) B) + length front.0 = ap {B = ℕ} length front.1 ∙ length-append (join_to (suc h) B) front.0 in
      let k = moves_before g p h + m in (
        ap (λ (x : List ℕ). get_or x k 0) front.1
            ∙ get_or-append (join_to (suc h) B) front.0 0 k (omega (arith, upto))
            ∙ ap (λ (x : List ℕ). get_or x k 0) (join_to_suc h B)
            ∙ ap (λ (j : ℕ). get_or (join_to h B ++ B h) (j + m) 0) (sym (length_before p h))
            ∙ get_or-append-add (join_to h B) (B h) m 0
            ∙ ap (λ (x : List ℕ). get_or x m 0) here
            ∙ list_to_at 0 (g.set_moves h) (f h) m v,
        omega (arith, upto, all, length_before p g.sets),
      )

  pub order_at : (p : Player) (h m : ℕ) → h < g.sets → T (owns g p h) → m < g.set_moves h → get_or (in_plan_order g f) (weight_place g p h m) 0 ≡ f h m
  unfolding in_plan_order weight_place weights_before
  order_at one h m l o v =
      let a = moves_at one h m l o v in
      let e : 0 + moves_before g one h + m ≡ moves_before g one h + m = omega arith in
      rw e (get_or-append (moves_in_order g one f) (moves_in_order g two f) 0 (moves_before g one h + m) (omega (arith, a.1, length_moves one)) ∙ a.0)
  order_at two h m l o v =
      let e : moves_before g one g.sets + moves_before g two h + m ≡ length (moves_in_order g one f) + (moves_before g two h + m) = omega (arith, length_moves one) in
      rw e (get_or-append-add (moves_in_order g one f) (moves_in_order g two f) (moves_before g two h + m) 0 ∙ (moves_at two h m l o v).0)

-- the place of a move is one of the places
pub place_below : (g : Game) (p : Player) (h m : ℕ) → h < g.sets → T (owns g p h) → m < g.set_moves h → weight_place g p h m < plan_moves g
unfolding weight_place weights_before plan_moves
place_below g one h m l o v = omega (arith, (moves_at g (λ h m. 0) one h m l o v).1)
place_below g two h m l o v = omega (arith, (moves_at g (λ h m. 0) two h m l o v).1)

-- Every place is that of a move.
pub record MoveAt (g : Game) (i : ℕ) : Type 0 where
  pub player : Player
  pub set : ℕ
  pub move : ℕ
  pub below : set < g.sets
  pub owned : T (owns g player set)
  pub one_of : move < g.set_moves set
  pub is : i ≡ weight_place g player set move

place_found : (g : Game) (i : ℕ) → i < plan_moves g → MoveAt g i
unfolding plan_moves weight_place weights_before
place_found g i l =
    elim (dec_lt i (moves_before g one g.sets)) [
      | yes b ↦ let r = move_found g one g.sets i b in record { player = one; set = r.set; move = r.move; below = r.below; owned = r.owned; one_of = r.one_of; is = omega (arith, r.is) }
      | no b ↦ let r = move_found g two g.sets (i - moves_before g one g.sets) (omega arith) in record { player = two; set = r.set; move = r.move; below = r.below; owned = r.owned; one_of = r.one_of; is = omega (arith, r.is) }
    ]

-- a list with the number of each move at its place is the list in plan order
pub order_is : (g : Game) (f : (h m : ℕ) → ℕ) (l : List ℕ) → length l ≡ plan_moves g → ((p : Player) (h m : ℕ) → h < g.sets → T (owns g p h) → m < g.set_moves h → f h m ≡ get_or l (weight_place g p h m) 0) → in_plan_order g f ≡ l
order_is g f l size e =
    ext_get_or 0 (in_plan_order g f) l (length_order g f ∙ sym size) (λ i v.
    let r = place_found g i (omega (arith, length_order g f)) in
    ap (λ (k : ℕ). get_or (in_plan_order g f) k 0) r.is
    ∙ order_at g f r.player r.set r.move r.below r.owned r.one_of
    ∙ e r.player r.set r.move r.below r.owned r.one_of
    ∙ ap (λ (k : ℕ). get_or l k 0) (sym r.is))

-- what is true of every move's number is true of every entry, and of the 0 past the end
pub order_each : (g : Game) (f : (h m : ℕ) → ℕ) (P : ℕ → Type 0) → P 0 → ((p : Player) (h m : ℕ) → h < g.sets → T (owns g p h) → m < g.set_moves h → P (f h m)) → (i : ℕ) → P (get_or (in_plan_order g f) i 0)
order_each g f P none each i =
    elim (dec_lt i (plan_moves g)) [
      | yes l ↦
          let r = place_found g i l in
          subst P (sym (ap (λ (k : ℕ). get_or (in_plan_order g f) k 0) r.is ∙ order_at g f r.player r.set r.move r.below r.owned r.one_of))
          (each r.player r.set r.move r.below r.owned r.one_of)
      | no n ↦ subst P (sym (get_or-eq_default (in_plan_order g f) 0 {n = i} (omega (arith, length_order g f)))) none
    ]
