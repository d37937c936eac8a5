-- The rows that are filled from the leaves are the call's.
use Prim.Native.Nat.{ℕ, zero, suc}
use mathlib.Core.Path.{◌≡◌, refl, sym, ap, ◌∙◌}
use mathlib.Core.Bool.{and-true}
use mathlib.Core.List.{List, [], ◌∷◌, map, map-append}
use lib.Dec.{leb}
use lib.ListN.{length, drop, length-map}
use Rattle.std.specs.Prelude.{Result, Ok, Err}
use Rattle.std.specs.Result.{result_unwrap_or}
use Rattle.algebra.specs.Bounded.{list_to}
use Rattle.algebra.specs.Arrays.{over}
use Rattle.algebra.proofs.Lists.{map_join_to}
use Rattle.algebra.proofs.Fillings.{over_none}
use Rattle.model.specs.Game.{game_of}
use Rattle.model.specs.Table.{TableRow, payoff_table}
use Rattle.model.specs.Call.{Buffers, long_enough, after_call, outcome}
use Rattle.model.specs.Exported.{same}
use Rattle.model.specs.Calls.PayoffTable.{rows_call, payoff_rows_of}
use Rattle.model.proofs.Checks.{game_refusal_lem, game_named}
use Rattle.checks.specs.declared.Refusal.{Refusal}
use Rattle.checks.specs.Answers.{answered}
use Rattle.checks.proofs.Rooms.{over_after}
use Rattle.payoff.specs.Table.{Leaves, TableLaid}
use Rattle.rows.specs.declared.Row.{Row}
use Rattle.rows.specs.Answers.{model_row}
use Rattle.rows.specs.Rows.{TableMade, row_made}
use Rattle.rows.proofs.Answers.{rows_laid, call_filled, call_kept}

-- a function of each element, of lists filled anew
module _ {A B : Type 0} (f : A → B) where
  map_drop : (n : ℕ) (l : List A) → map f (drop n l) ≡ drop n (map f l)
  map_drop zero l = refl
  map_drop (suc n) [] = refl
  map_drop (suc n) (x ∷ l) = map_drop n l

  map_over : (g : ℕ → A) (n : ℕ) (l : List A) → map f (over g n l) ≡ over (λ i. f (g i)) n (map f l)
  unfolding over list_to
  map_over g n l = map-append f (list_to n g) (drop n l) ∙ rw (map_join_to f n (λ i. g i ∷ []), map_drop n l)

-- filled from leaves that are laid out, the rows begin with the table
rows_are : {t : List TableRow} {n : ℕ} {l : Leaves} → TableLaid t n l → (ys : List Row) → map model_row (over (row_made l) n ys) ≡ after_call 0 t (map model_row ys)
rows_are {n = n} {l} h ys =
    map_over model_row (row_made l) n ys
    ∙ over_after (λ i. model_row (row_made l i)) n (map model_row ys)
    ∙ ap (λ (k : List TableRow). after_call 0 k (map model_row ys)) h.rows_are

-- the rows that an answer gives, filled from the leaves, are the call's; where it refuses, none is filled
pub rows_call_lem : (bytes : List ℕ) (ys : List Row) (r : Result ℕ Refusal) {l : Leaves} → TableMade bytes (length ys) r l → {n : ℕ} → n ≡ result_unwrap_or r 0 → {xs : List Row} → xs ≡ over (row_made l) n ys → outcome (answered same r) (map model_row xs, tt) ≡ payoff_rows_of bytes (map model_row ys)
unfolding rows_call
rows_call_lem bytes ys r {l} M {n} e {xs} f = go r refl
  where
    lent : Buffers (TableRow ∷ [])
    lent = (map model_row ys, tt)

    fits : long_enough (length (payoff_table (game_of bytes)) ∷ []) (length (map model_row ys) ∷ []) ≡ leb (length (payoff_table (game_of bytes))) (length ys)
    fits = rw (length-map ys model_row) (and-true (leb (length (payoff_table (game_of bytes))) (length ys)))

    go : (k : Result ℕ Refusal) → r ≡ k → outcome (answered same k) (map model_row xs, tt) ≡ payoff_rows_of bytes (map model_row ys)
    go (Ok m) k =
        let count : n ≡ m = e ∙ ap (λ (q : Result ℕ Refusal). result_unwrap_or q 0) k in
        call_filled bytes (length ys) M rows_call game_named (sym (game_refusal_lem bytes)) refl lent fits k (rw (f, count, rows_are (rows_laid bytes (length ys) M k) ys))
    go (Err d) k =
        let none : n ≡ 0 = e ∙ ap (λ (q : Result ℕ Refusal). result_unwrap_or q 0) k in
        rw (f, none, ← over_none (row_made l 0) (row_made l) ys) (call_kept bytes (length ys) M rows_call game_named (sym (game_refusal_lem bytes)) refl lent fits k)
