-- Columns filled row by row from the leaves are what the call in columns leaves.
use Prim.Native.Nat.{ℕ, ◌≤◌}
use mathlib.Core.Path.{◌≡◌, refl, sym, ap, ◌∙◌}
use mathlib.Core.Bool.{Bool, true, false, ◌&&◌}
use mathlib.Core.List.{List, [], ◌∷◌, map}
use native.Mathlib.Omega.{arith}
use mir.Facts.{and_yes, yes_and}
use lib.Dec.{leb, le→leb, leb→le}
use lib.IntN.{ℤ}
use lib.ListN.{length, length-map}
use Rattle.std.specs.Prelude.{Result, Ok, Err, min}
use Rattle.algebra.specs.Bounded.{list_to}
use Rattle.algebra.specs.Arrays.{over}
use Rattle.algebra.proofs.Tests.{bool_same, T→true}
use Rattle.algebra.proofs.Lists.{map_join_to}
use Rattle.model.specs.Game.{game_of}
use Rattle.model.specs.Table.{TableRow, payoff_table}
use Rattle.model.specs.Call.{Buffers, lengths, long_enough, after_call, outcome}
use Rattle.model.specs.Exported.{same}
use Rattle.model.specs.Calls.PayoffTable.{shape, columns, columns_call, payoff_columns}
use Rattle.model.proofs.Checks.{game_refusal_lem, game_named}
use Rattle.checks.specs.declared.Refusal.{Refusal}
use Rattle.checks.specs.Answers.{answered}
use Rattle.checks.proofs.Rooms.{split, over_after}
use Rattle.payoff.specs.Table.{Leaves, row_from, TableLaid}
use Rattle.rows.specs.Rows.{TableMade}
use Rattle.rows.proofs.Answers.{rows_laid, call_kept, call_filled}

-- so much fits the shorter of two lengths as fits both
min_fits : (n a b : ℕ) → leb n (min a b) ≡ (leb n a && leb n b)
min_fits n a b = bool_same (leb n (min a b)) (leb n a && leb n b) (λ t. yes_and (leb n a) (leb n b) (le→leb n a (omega (arith, leb→le n (min a b) t))) (le→leb n b (omega (arith, leb→le n (min a b) t)))) (λ t. let both = and_yes (leb n a) (leb n b) t in le→leb n (min a b) (omega (arith, leb→le n a both.0, leb→le n b both.1)))

-- and the shortest of four as fits each
pub shortest_of_four : (n a b c d : ℕ) → leb n (min (min (min a b) c) d) ≡ long_enough (n ∷ n ∷ n ∷ n ∷ []) (a ∷ b ∷ c ∷ d ∷ [])
shortest_of_four n a b c d = rw (min_fits n (min (min a b) c) d, min_fits n (min a b) c, min_fits n a b) (grouped (leb n a) (leb n b) (leb n c) (leb n d))
  where
    grouped : (p q r s : Bool) → (((p && q) && r) && s) ≡ (p && (q && (r && (s && true))))
    grouped true true true true = refl
    grouped true true true false = refl
    grouped true true false s = refl
    grouped true false r s = refl
    grouped false q r s = refl

-- what fits the shortest of four fits each of them
pub all_long : (a b c d room : ℕ) → ((n : ℕ) → leb n room ≡ long_enough (n ∷ n ∷ n ∷ n ∷ []) (a ∷ b ∷ c ∷ d ∷ [])) → (n : ℕ) → n ≤ room → (n ≤ a) × (n ≤ b) × (n ≤ c) × (n ≤ d)
all_long a b c d room fits n l =
    let t0 = split n a (sym (fits n) ∙ T→true (leb n room) (le→leb n room l)) in
    let t1 = split n b t0.1 in
    let t2 = split n c t1.1 in
    (t0.0, t1.0, t2.0, (split n d t2.1).0)

-- one column of the rows, of leaves that are laid out
column_after : {A : Type 0} (f : TableRow → A) {t : List TableRow} {n : ℕ} {l : Leaves} → TableLaid t n l → (b : List A) → over (λ k. f (row_from l k)) n b ≡ after_call 0 (map f t) b
unfolding list_to
column_after f {n = n} {l} h b =
    over_after (λ k. f (row_from l k)) n b
    ∙ ap (λ c. after_call 0 c b) (sym (map_join_to f n (λ k. row_from l k ∷ [])) ∙ ap (map f) h.rows_are)

-- Of columns in which so many rows fit as there is room for.
module _ (bytes : List ℕ) (b₁ b₂ : List ℕ) (b₃ b₄ : List ℤ) {room : ℕ} (fits : (n : ℕ) → leb n room ≡ long_enough (n ∷ n ∷ n ∷ n ∷ []) (length b₁ ∷ length b₂ ∷ length b₃ ∷ length b₄ ∷ [])) {r : Result ℕ Refusal} {l : Leaves} (M : TableMade bytes room r l) where
  abbrev lent : Buffers shape
  lent = (b₁, (b₂, (b₃, (b₄, tt))))

  measured : let t = payoff_table (game_of bytes) in long_enough (lengths shape (columns t)) (lengths shape lent) ≡ leb (length t) room
  measured =
      let t = payoff_table (game_of bytes) in
      rw (length-map t (λ r. r.sequence1), length-map t (λ r. r.sequence2), length-map t (λ r. r.sum1), length-map t (λ r. r.sum2)) (sym (fits (length t)))

  -- a refusal keeps them
  pub columns_kept : {d : Refusal} → r ≡ Err d → outcome (answered (same {A = ℕ}) (Err d)) lent ≡ payoff_columns bytes lent
  unfolding columns_call
  columns_kept e = call_kept bytes room M columns_call game_named (sym (game_refusal_lem bytes)) refl lent measured e

  -- filled from the leaves of the rows that are given, they are the call's
  pub columns_filled : {n : ℕ} → r ≡ Ok n → {a₁ a₂ : List ℕ} {a₃ a₄ : List ℤ}
      → a₁ ≡ over (λ k. (row_from l k).sequence1) n b₁ → a₂ ≡ over (λ k. (row_from l k).sequence2) n b₂ → a₃ ≡ over (λ k. (row_from l k).sum1) n b₃ → a₄ ≡ over (λ k. (row_from l k).sum2) n b₄
      → outcome (answered (same {A = ℕ}) (Ok n)) (a₁, (a₂, (a₃, (a₄, tt)))) ≡ payoff_columns bytes lent
  unfolding columns_call
  columns_filled e e₁ e₂ e₃ e₄ =
      let h = rows_laid bytes room M e in
      call_filled bytes room M columns_call game_named (sym (game_refusal_lem bytes)) refl lent measured e
      (rw (e₁, e₂, e₃, e₄, column_after (λ r. r.sequence1) h b₁, column_after (λ r. r.sequence2) h b₂, column_after (λ r. r.sum1) h b₃, column_after (λ r. r.sum2) h b₄))
