-- A run of odds put after the first place is the odds by number.
use Prim.Native.Nat.{ℕ, ◌+◌, ◌*◌, ◌≤◌, ◌<◌}
use mathlib.Core.Path.{◌≡◌, sym, ap, ◌∙◌}
use mathlib.Core.List.{List}
use native.Mathlib.Omega.{arith}
use native.Mathlib.Nat as NatL
use lib.ListN.{length}
use lib.Dec.{T}
use Rattle.algebra.specs.Arrays.{item, placed}
use Rattle.algebra.specs.Bounded.{total_to}
use Rattle.algebra.proofs.Arrays.{length_placed, placed_from}
use Rattle.model.specs.Bits.{field, fields}
use Rattle.model.specs.Game.{Game, Player, owns, moves_before}
use Rattle.model.specs.Sequences.{move_number, sequence_count}
use Rattle.model.specs.Plan.{weights_before, weight_place}
use Rattle.model.specs.Sheet.{Odds, odds_of, odds_total}
use Rattle.model.proofs.Bits.{fields_at, length_fields}
use Rattle.model.proofs.Numbers.{moves_block}
use Rattle.model.proofs.Tree.{owner}
use Rattle.algebra.proofs.Totals.{count_cong}
use Rattle.loaded.specs.Sets.{first_sequence}
use Rattle.loaded.proofs.Owners.{own_start}
use Rattle.sheets.specs.OddsByNumber.{OddsByNumber}

-- p's odds, where they are read from the place at which his begin
pub odds_read : (g : Game) (p : Player) (width : ℕ) (sheet l : List ℕ) {before moves : ℕ} {x : List ℕ} → x ≡ placed 1 (fields sheet (width * before) width moves) l → before ≡ weights_before g p → moves ≡ moves_before g p g.sets → sequence_count g p ≤ length l → OddsByNumber g p (odds_of g width sheet) x
unfolding sequence_count odds_of weight_place move_number
odds_read g p width sheet l {before} {moves} {x} e b n room =
    let run = fields sheet (width * before) width moves in
    let size : length run ≡ moves = length_fields sheet (width * before) width moves in
    record {
      long = rw e (omega (arith, length_placed 1 run l (omega (arith, size))));
      at = λ h m v.
          let i = moves_before g p h + m in
          let inside = moves_block g p h g.sets v.set v.owned in
          let w = v.move in
          let place : 1 + moves_before g p h + m ≡ 1 + i = omega arith in
          let whole : width * before + width * i ≡ width * (weights_before g p + moves_before g p h + m) = ap (λ (k : ℕ). width * k + width * i) b ∙ sym (NatL.mul-add width (weights_before g p) i) ∙ ap (λ (k : ℕ). width * k) (sym (NatL.add_assoc (weights_before g p) (moves_before g p h) m)) in
          rw (e, place) (placed_from 0 1 run l i (omega arith) (omega (arith, size)))
          ∙ fields_at sheet (width * before) width moves i (omega arith)
          ∙ ap (λ (k : ℕ). field sheet k width) whole
          ∙ ap (λ (r : Player). field sheet (width * (weights_before g r + moves_before g r h + m)) width) (sym (owner g p h v.owned));
    }

-- The odds of a set of p's, from its first sequence on.
module _ {g : Game} {p : Player} {odds : Odds} {x : List ℕ} (X : OddsByNumber g p odds x) {h : ℕ} (l : h < g.sets) (o : T (owns g p h)) where
  pub set_odds : (m : ℕ) → m < g.set_moves h → item x (first_sequence g h + m) ≡ odds h m
  unfolding move_number
  set_odds m v = ap (λ (k : ℕ). item x (k + m)) (own_start g p h o) ∙ X.at h m (record { set = l; owned = o; move = v })

  -- their total
  pub set_total : total_to (g.set_moves h) (λ m. item x (first_sequence g h + m)) ≡ odds_total g odds h
  unfolding odds_total
  set_total = count_cong (g.set_moves h) _ (odds h) set_odds
