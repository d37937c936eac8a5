-- The stage of checks 5 and 6: set entries, then node records.
use Prim.Native.Nat.{ℕ, ◌≤◌}
use mathlib.Core.Path.{◌≡◌, refl, sym, ap, ◌∙◌}
use mathlib.Core.Bool.{Bool, true, false, cond}
use mathlib.Core.List.{List}
use native.Mathlib.Omega.{arith}
use lib.IntN.{ℤ}
use lib.ListN.{length}
use Rattle.std.specs.Prelude.{Result, Ok, Err}
use Rattle.model.specs.Game.{game_of}
use Rattle.model.specs.GameChecks.{records_well_formed}
use Rattle.model.specs.Call.{answer_of}
use Rattle.model.specs.Exported.{same}
use Rattle.model.specs.Rows.{refusal}
use Rattle.model.specs.Checks.{record_rows}
use Rattle.model.proofs.Rows.{none}
use Rattle.model.proofs.Budget.{game_limits}
use Rattle.checks.specs.declared.Refusal.{Refusal}
use Rattle.checks.specs.declared.Refusal.TheVariants.{SetMoves}
use Rattle.checks.specs.Answers.{answered}
use Rattle.checks.proofs.Chains.{Checked, begin, passes, stops}
use Rattle.checks.proofs.AnswerLaws.{refused_is}
use Rattle.loaded.specs.Sections.{numbers_room}
use Rattle.loaded.specs.Leaves.{leaves_of}
use Rattle.loaded.proofs.Decoded.{sets_apart}
use Rattle.decoding.specs.Decoding.{SetsLoaded, NodesLoaded, nodes_answer}
use Rattle.game.specs.Stages.{record_part, RecordsLoaded}

module _ (bytes : List ℕ) {r : Checked} {before middle : List ℕ} (S : SetsLoaded (game_of bytes) r before middle) where
  -- 5 is broken
  pub sets_broken : {d : Refusal} (payoffs : List ℤ) → r ≡ Err d → RecordsLoaded bytes (Err d) middle payoffs
  unfolding record_part record_rows
  sets_broken {d} payoffs f =
      let s = stops SetMoves (begin record_part bytes) refl S.answer f in
      record {
        answer = refused_is same (refusal record_part bytes) (length (leaves_of (game_of bytes))) d s.is;
        decoded = λ e. absurd (s.some (sym s.is ∙ e));
        by_leaf = λ e. absurd (s.some (sym s.is ∙ e));
      }

  -- 5 is fine, and the answer is that of 6
  pub nodes_after : {u : Unit {0}} {x : Result ℕ Refusal} {after : List ℕ} {payoffs : List ℤ} → r ≡ Ok u → numbers_room ≤ length before → NodesLoaded bytes x middle after payoffs → RecordsLoaded bytes x after payoffs
  unfolding record_part record_rows refusal
  nodes_after f room N = record {
    answer = ap (answered same) N.answer ∙ go (records_well_formed bytes) (length (leaves_of (game_of bytes))) ∙ ap (λ (k : ℕ). answer_of k (length (leaves_of (game_of bytes)))) (sym (passes _ (begin record_part bytes) S.answer f).same);
    decoded = λ e.
        let t = (none record_part bytes tt).0 e in
        record {
          few_nodes = (game_limits bytes).nodes;
          few_sets = (game_limits bytes).sets;
          room = omega (arith, S.apart.long, N.apart.long);
          sets_decoded = sets_apart (S.decoded t.0) N.apart (omega arith) (game_limits bytes).sets;
          nodes_decoded = N.decoded t.1.0;
        };
    by_leaf = λ e. N.by_leaf ((none record_part bytes tt).0 e).1.0;
  }
    where
      go : (b : Bool) (leaves : ℕ) → answered same (nodes_answer b leaves) ≡ answer_of (cond b 0 6) leaves
      go true leaves = refl
      go false leaves = refl
