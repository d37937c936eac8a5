-- The stages of a game file's checks one after the other: 1 to 4, 5 and 6, 7 to 11, 12 and 13.
use Prim.Native.Nat.{ℕ}
use mathlib.Core.Path.{◌≡◌, sym, ap, ◌∙◌}
use mathlib.Core.List.{List, ◌++◌}
use lib.IntN.{ℤ}
use lib.ListN.{length}
use Rattle.std.specs.Prelude.{Result, Ok, Err}
use Rattle.model.specs.Game.{game_of}
use Rattle.model.specs.Call.{answer_of}
use Rattle.model.specs.Exported.{same}
use Rattle.model.specs.Rows.{refusal}
use Rattle.model.specs.Checks.{header_rows, record_rows, tree_rows, game_rows, game_refusal}
use Rattle.model.proofs.Rows.{none}
use Rattle.model.proofs.Budget.{game_limits}
use Rattle.checks.specs.declared.Refusal.{Refusal}
use Rattle.checks.specs.Answers.{refusal_number, number_of}
use Rattle.checks.proofs.Chains.{Checked, Refuses, Left, begin, passes_all, stops_in, number_some}
use Rattle.checks.proofs.AnswerLaws.{gives, refuses, refused_is, number_ok}
use Rattle.records.specs.declared.game_file.Header.{Header}
use Rattle.records.specs.Records.{header_of}
use Rattle.loaded.specs.Leaves.{leaves_of}
use Rattle.loaded.specs.Counts.{counts_of}
use Rattle.loaded.specs.Loaded.{Decoded}
use Rattle.loaded.specs.declared.Counts.{Counts}
use Rattle.loaded.proofs.Rooted.{rooted}
use Rattle.decoding.specs.Decoding.{PayoffsLoaded}
use Rattle.game.specs.Stages.{record_part, tree_part, set_part, RecordsLoaded, FileDecoded, FileRooted, SequencesLoaded, FileChecked}
use Rattle.game.proofs.Parts.{one_broken}

module _ (b : List ℕ) where
  -- a stage refuses
  refused_file : {d : Refusal} (l : List ℕ) (p : List ℤ) → Refuses game_rows b (refusal_number d) → FileChecked b (Err d) l p
  unfolding game_refusal
  refused_file {d} l p s = record {
    answer = refused_is same (game_refusal b) (counts_of (game_of b)) d s.is;
    sequences = λ e. absurd (s.some (sym s.is ∙ e));
    by_leaf = λ e. absurd (s.some (sym s.is ∙ e));
  }

  pub header_refuses : {r : Checked} {d : Refusal} (l : List ℕ) (p : List ℤ) → number_of r ≡ refusal header_rows b → r ≡ Err d → FileChecked b (Err d) l p
  unfolding game_rows header_rows
  header_refuses l p e f = refused_file l p (stops_in header_rows (record_rows ++ tree_rows) tt (begin game_rows b) (one_broken header_rows b e f))

  -- 1 to 4 have passed
  module _ {r1 : Checked} {u1 : Unit {0}} (e1 : number_of r1 ≡ refusal header_rows b) (o1 : r1 ≡ Ok u1) where
    header_fine : refusal header_rows b ≡ 0
    header_fine = number_ok e1 o1

    past_header : Left game_rows (record_part ++ (tree_part ++ set_part)) b
    unfolding game_rows header_rows record_rows tree_rows record_part tree_part set_part
    past_header = passes_all header_rows (record_part ++ (tree_part ++ set_part)) tt (begin game_rows b) header_fine

    pub records_refuse : {r : Result ℕ Refusal} {d : Refusal} {l : List ℕ} {p : List ℤ} → RecordsLoaded b r l p → r ≡ Err d → FileChecked b (Err d) l p
    unfolding record_part record_rows
    records_refuse {d = d} {l = l} {p = p} R f =
        let is = refuses same (refusal record_part b) (length (leaves_of (game_of b))) R.answer f in
        refused_file l p (stops_in record_part (tree_part ++ set_part) tt past_header (record { is = is; some = number_some d }))

    -- and 5 and 6
    module _ {header : Header} (h : header ≡ header_of b) {r2 : Result ℕ Refusal} {leaves : ℕ} {l : List ℕ} {p : List ℤ} (R : RecordsLoaded b r2 l p) (o2 : r2 ≡ Ok leaves) where
      records_fine : (refusal record_part b ≡ 0) × (leaves ≡ length (leaves_of (game_of b)))
      records_fine = gives same (refusal record_part b) (length (leaves_of (game_of b))) R.answer o2

      past_records : Left game_rows (tree_part ++ set_part) b
      unfolding record_part record_rows
      past_records = passes_all record_part (tree_part ++ set_part) tt past_header records_fine.0

      -- what they leave for 7 to 11
      pub file_decoded : FileDecoded b header l
      unfolding header_rows record_part record_rows
      file_decoded = record { header_is = h; counts = ((none header_rows b tt).0 header_fine).1.1.0; set_moves = ((none record_part b tt).0 records_fine.0).0; decoded = R.decoded records_fine.0 }

      module _ {r3 : Checked} (e3 : (b : List ℕ) → FileDecoded b header l → number_of r3 ≡ refusal tree_part b) where
        pub tree_refuses : {d : Refusal} → r3 ≡ Err d → FileChecked b (Err d) l p
        unfolding tree_part record_rows tree_rows
        tree_refuses f = refused_file l p (stops_in tree_part set_part tt past_records (one_broken tree_part b (e3 b file_decoded) f))

        -- and 7 to 11
        module _ {u3 : Unit {0}} (o3 : r3 ≡ Ok u3) where
          tree_fine : refusal tree_part b ≡ 0
          tree_fine = number_ok (e3 b file_decoded) o3

          past_tree : Left game_rows set_part b
          unfolding tree_part record_rows tree_rows
          past_tree = passes_all tree_part set_part tt past_records tree_fine

          -- what they leave for 12 and 13
          pub file_rooted : FileRooted b header l
          unfolding tree_part record_rows tree_rows
          file_rooted =
              let F = file_decoded in
              let s = (none tree_part b tt).0 tree_fine in
              record {
                header_is = F.header_is;
                rooted = rooted (game_limits b) F.counts F.set_moves s.0 s.1.0;
                moves_lead_on = s.1.1.0;
                decoded = F.decoded;
              }

          -- the answer is theirs
          pub file_checked : {x : Result Counts Refusal} {k : List ℕ} → ((b : List ℕ) → FileRooted b header l → leaves ≡ length (leaves_of (game_of b)) → SequencesLoaded b x k) → FileChecked b x k p
          unfolding game_refusal
          file_checked Q =
              let q = Q b file_rooted records_fine.1 in
              record {
                answer = q.answer ∙ ap (λ (k : ℕ). answer_of k (counts_of (game_of b))) (sym past_tree.same);
                sequences = λ e. q.sequences (sym past_tree.same ∙ e);
                by_leaf = λ e. R.by_leaf records_fine.0;
              }
