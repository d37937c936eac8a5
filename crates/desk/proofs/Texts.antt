-- What is printed for two files is what is printed for as much of them as the buffers take.
use Prim.Native.Nat.{ℕ, suc, ◌≤◌}
use mathlib.Core.Path.{sym, ◌∙◌, subst}
use mathlib.Core.List.{List}
use lib.ListN.{length, take}
use Rattle.model.specs.Report.{longest_game, longest_plan, printed}
use Rattle.model.proofs.Cut.{cut_printed}
use Rattle.text.specs.Text.{Put}
use Rattle.desk.specs.Files.{Loaded}

-- the text for what was read is the text for the files
pub put_files : (game plan : List ℕ) (m n : ℕ) {before after : List ℕ} {r : ℕ} → suc longest_game ≤ length game → suc longest_plan ≤ length plan → Put 0 (printed (take m game) (take n plan)) before after r → (g p : List ℕ) → Loaded g m game → Loaded p n plan → Put 0 (printed g p) before after r
put_files game plan m n {before} {after} {r} l k put g p e f = subst (λ (text : List ℕ). Put 0 text before after r) ((λ i. printed (sym e i) (sym f i)) ∙ cut_printed (length game) (length plan) g p l k) put
