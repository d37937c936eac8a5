-- What the leaves that are laid out say of a call that makes the payoff table of them, in rows or in columns.
use Prim.Native.Nat.{ℕ, zero, suc, ◌≤◌, ◌<◌}
use mathlib.Core.Path.{◌≡◌, refl, sym, ap, ◌∙◌}
use mathlib.Core.Bool.{Bool, true, false}
use mathlib.Core.List.{List}
use native.Mathlib.Omega.{arith}
use lib.Dec.{T, leb, leb→le}
use lib.ListN.{length}
use Rattle.std.specs.Prelude.{Result, Ok, Err}
use Rattle.model.specs.Game.{game_of}
use Rattle.model.specs.Checks.{game_refusal}
use Rattle.model.specs.Table.{TableRow, payoff_table}
use Rattle.model.specs.Rows.{refusal}
use Rattle.model.specs.Call.{given, refused, Buffers, lengths, long_enough, after_all, Call, outcome, run}
use Rattle.model.specs.Exported.{same}
use Rattle.model.proofs.Rows.{named}
use Rattle.checks.specs.declared.Refusal.{Refusal}
use Rattle.checks.specs.declared.Refusal.TheVariants.{Room}
use Rattle.checks.specs.Answers.{refusal_number, checked_of, answered}
use Rattle.checks.proofs.Chains.{Checked, is_broken, fine_holds, broken_fails, number_some, call_refuses, call_short, call_gives}
use Rattle.payoff.specs.Table.{Leaves, RowReady, TableLaid}
use Rattle.rows.specs.Rows.{table_answer, TableMade}

-- The ends of `laid_out`.
module _ (bytes : List ℕ) (room : ℕ) {l : Leaves} where
  -- the file is refused
  pub file_refused : (d : Refusal) → refusal_number d ≡ game_refusal bytes → TableMade bytes room (Err d) l
  file_refused d e = go (game_refusal bytes) refl
    where
      go : (k : ℕ) → game_refusal bytes ≡ k → TableMade bytes room (Err d) l
      go zero f = absurd (number_some d (e ∙ f))
      go (suc k) f = record { answer = rw (e, f); laid = λ z. absurd (omega arith) }

  -- its leaves are laid out
  module _ (fine : game_refusal bytes ≡ 0) {rows : ℕ} (laid : TableLaid (payoff_table (game_of bytes)) rows l) {r : Checked} (checked : r ≡ checked_of Room (leb rows room)) where
    laid_as : (t : Bool) → leb rows room ≡ t → table_answer (game_refusal bytes) (leb (length (payoff_table (game_of bytes))) room) (length (payoff_table (game_of bytes))) ≡ table_answer 0 t rows
    laid_as t e = rw (fine, ← laid.counted, e)

    -- there is no room for the rows
    pub laid_short : {d : Refusal} → r ≡ Err d → TableMade bytes room (Err d) l
    laid_short {d} e =
        let b = broken_fails Room (leb rows room) checked e in
        record { answer = ap (λ (k : Refusal). refused (refusal_number k)) b.1 ∙ sym (laid_as false b.0); laid = λ y. rw (← laid.counted) laid }

    -- there is
    pub laid_given : {u : Unit {0}} → r ≡ Ok u → TableMade bytes room (Ok rows) l
    laid_given e = record { answer = sym (laid_as true (fine_holds Room (leb rows room) checked e)); laid = λ y. rw (← laid.counted) laid }

module _ (bytes : List ℕ) (room : ℕ) {r : Result ℕ Refusal} {l : Leaves} (M : TableMade bytes room r l) where
  abbrev table : List TableRow
  table = payoff_table (game_of bytes)

  abbrev all : ℕ
  all = length table

  -- What an answer that gives rows says.
  pub record RowsGiven (n : ℕ) : Type 0 where
    pub fine : game_refusal bytes ≡ 0
    pub roomy : leb all room ≡ true
    pub counted : n ≡ all

  pub rows_given : {n : ℕ} → r ≡ Ok n → RowsGiven n
  rows_given {n} e = go (game_refusal bytes) refl (leb all room) refl (sym (ap (answered same) e) ∙ M.answer)
    where
      go : (k : ℕ) → game_refusal bytes ≡ k → (t : Bool) → leb all room ≡ t → given n ≡ table_answer k t all → RowsGiven n
      go zero z true f g = record { fine = z; roomy = f; counted = cc }
      go zero z false f g = absurd cc
      go (suc k) z t f g = absurd cc

  -- the leaves of the rows that are given
  pub rows_laid : {n : ℕ} → r ≡ Ok n → TableLaid table n l
  rows_laid e = let G = rows_given e in rw (G.counted) (M.laid G.fine)

  -- there is room for them, and each can be made
  pub rows_ready : {n : ℕ} → r ≡ Ok n → (n ≤ room) × ((k : ℕ) → k < n → RowReady l k)
  rows_ready e = let G = rows_given e in (omega (arith, G.counted, leb→le all room (rw G.roomy tt)), (rows_laid e).ready)

  -- A call that refuses as the game does, gives how many rows there are, and has room where there is room for so many.
  module _ {shape : List (Type 0)} (c : Call (List ℕ) shape ℕ) (some : T (named c.rows)) (alike : refusal c.rows bytes ≡ game_refusal bytes) (count : c.result bytes ≡ all) (b : Buffers shape) (fits : long_enough (lengths shape (c.written bytes)) (lengths shape b) ≡ leb all room) where
    -- it refuses, and keeps what is lent
    pub call_kept : {d : Refusal} → r ≡ Err d → outcome (answered (same {A = ℕ}) (Err d)) b ≡ run c bytes b
    call_kept {d} e = go (game_refusal bytes) refl (leb all room) refl (sym (ap (answered same) e) ∙ M.answer)
      where
        go : (k : ℕ) → game_refusal bytes ≡ k → (t : Bool) → leb all room ≡ t → refused (refusal_number d) ≡ table_answer k t all → outcome (refused (refusal_number d)) b ≡ run c bytes b
        go zero z true f g = absurd cc
        go zero z false f g = rw g (sym (call_short c some bytes b (alike ∙ z) {r = Err Room} {d = Room} (is_broken Room (fits ∙ f)) refl))
        go (suc k) z t f g = rw g (sym (call_refuses c some bytes b (record { is = alike ∙ z; some = λ y. omega arith })))

    -- it gives, and writes what it is to write
    pub call_filled : {n : ℕ} → r ≡ Ok n → {out : Buffers shape} → out ≡ after_all shape 0 (c.written bytes) b → outcome (answered (same {A = ℕ}) (Ok n)) out ≡ run c bytes b
    call_filled e {out} filled =
        let G = rows_given e in
        rw (G.counted, filled, ← count) (sym (call_gives c some bytes b (alike ∙ G.fine) (fits ∙ G.roomy)))
