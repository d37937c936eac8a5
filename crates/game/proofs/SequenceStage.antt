-- The stage of checks 12 and 13, and the sections that no check takes: what each call leaves for the next.
use Prim.Native.Nat.{ℕ, ◌+◌}
use mathlib.Core.Path.{◌≡◌, refl, sym, ap, ◌∙◌}
use mathlib.Core.List.{List}
use native.Mathlib.Omega.{arith}
use lib.ListN.{length}
use lib.Dec.{T}
use Rattle.algebra.specs.Sections.{Held, Apart}
use Rattle.algebra.proofs.Sections.{held_before}
use Rattle.model.specs.Game.{Game, Player, one, two, game_of}
use Rattle.model.specs.Sequences.{first_node}
use Rattle.model.specs.Table.{own_number}
use Rattle.model.specs.GameChecks.{sets_non_empty_of, perfect_recall_of}
use Rattle.model.specs.Checks.{tree_rows}
use Rattle.std.specs.Prelude.{Ok, Err}
use Rattle.model.specs.Call.{given, answer_of}
use Rattle.model.specs.Exported.{same}
use Rattle.model.specs.Rows.{refusal}
use Rattle.checks.specs.declared.Refusal.{Refusal}
use Rattle.checks.specs.declared.Refusal.TheVariants.{EmptySet, Recall}
use Rattle.checks.specs.Answers.{refusal_number, checked_of}
use Rattle.checks.proofs.Chains.{Checked, Refuses, begin, passes, stops, ends, fine_test}
use Rattle.checks.proofs.AnswerLaws.{given_is, refused_is}
use Rattle.records.specs.declared.game_file.Header.{Header}
use Rattle.records.proofs.Headers.{header_nodes, header_sets, header_weight}
use Rattle.loaded.specs.Sections.{section_room, first_node_section, start_section, own_section_of, lead_section}
use Rattle.loaded.specs.Leaves.{leaves_of}
use Rattle.loaded.specs.Sets.{first_sequence}
use Rattle.loaded.specs.Rooted.{Rooted}
use Rattle.loaded.specs.Counts.{counts_of}
use Rattle.loaded.specs.Loaded.{Decoded, RootedIn}
use Rattle.loaded.specs.declared.Counts.{Counts}
use Rattle.loaded.proofs.Decoded.{decoded_apart}
use Rattle.sequences.specs.declared.SequenceCounts.{SequenceCounts}
use Rattle.sequences.specs.Sets.{sequence_counts, Numberable}
use Rattle.sequences.specs.Recall.{OwnStored, OwnFilled}
use Rattle.sequences.proofs.Stored.{stored_none}
use Rattle.game.specs.Stages.{set_part, FileRooted, SequencesNumbered, SequencesIn, SequencesLoaded}

-- first sequences are put: own sequences can be
pub stored_first : {g : Game} {l k : List ℕ} → Decoded g l → Rooted g → Apart start_section (own_section_of one) l k → Held start_section (first_sequence g) g.sets k → OwnStored g one 0 k
stored_first D R a h = stored_none (decoded_apart D a (omega arith)) R h one

-- those of player 1 are put: those of player 2 can be
pub stored_second : {g : Game} {l k : List ℕ} → OwnStored g one 0 l → Apart (own_section_of one) (own_section_of one + section_room) l k → OwnStored g two 0 k
stored_second S a = stored_none (decoded_apart S.decoded a (omega arith)) S.rooted (held_before S.starts a (omega (arith, S.decoded.few_sets))) two

-- both are put
pub sequences_numbered : {g : Game} {r : SequenceCounts} {l k : List ℕ} → r ≡ sequence_counts g → OwnStored g two 0 l → Held (own_section_of one) (own_number g one) g.nodes l → Apart (own_section_of two) (own_section_of two + section_room) l k → Held (own_section_of two) (own_number g two) g.nodes k → SequencesNumbered g r k
sequences_numbered {g} {r} {l} {k} e S h a i = record {
  counted = e;
  decoded = decoded_apart S.decoded a (omega arith);
  starts = held_before S.starts a (omega (arith, S.decoded.few_sets));
  own = both;
}
  where
    both : (p : Player) → Held (own_section_of p) (own_number g p) g.nodes k
    both one = held_before h a (omega (arith, S.decoded.few_nodes))
    both two = i

module _ {b : List ℕ} {header : Header} {l : List ℕ} (F : FileRooted b header l) where
  -- what the calls of this stage ask
  pub rooted_in : RootedIn header.nodes header.sets l
  rooted_in = record {
    game = game_of b;
    nodes_are = header_nodes _ _ F.header_is;
    sets_are = header_sets _ _ F.header_is;
    decoded = F.decoded;
    rooted = F.rooted;
  }

  pub numberable : T (sets_non_empty_of (game_of b)) → Numberable (game_of b)
  numberable t = record { rooted = F.rooted; moves_lead_on = F.moves_lead_on; sets_non_empty = t }

  -- the sections after the sequences are numbered
  pub sequences_in : {r : SequenceCounts} {m k : List ℕ} → T (sets_non_empty_of (game_of b)) → Held first_node_section (first_node (game_of b)) (game_of b).sets m → Apart start_section lead_section m k → SequencesNumbered (game_of b) r k → SequencesIn (game_of b) k
  sequences_in t h a N = record {
    filled = record {
      decoded = N.decoded;
      rooted = F.rooted;
      sets_non_empty = t;
      first_nodes = held_before h a (omega (arith, F.decoded.few_sets));
      own = N.own;
    };
    starts = N.starts;
  }

  -- the counts of the loaded game
  pub counts_made : {r : SequenceCounts} {leaves : ℕ} → leaves ≡ length (leaves_of (game_of b)) → r ≡ sequence_counts (game_of b) → record { nodes = header.nodes; sets = header.sets; leaves = leaves; sequences1 = r.first; sequences2 = r.second; root_weight = header.root_weight } ≡ counts_of (game_of b)
  unfolding counts_of sequence_counts
  counts_made e f = rw (header_nodes _ _ F.header_is, header_sets _ _ F.header_is, header_weight _ _ F.header_is, e, f)

-- the answer of 12 and 13
module _ (b : List ℕ) {r : Checked} (made : r ≡ checked_of EmptySet (sets_non_empty_of (game_of b))) where
  refused_as : {d : Refusal} (k : List ℕ) → Refuses set_part b (refusal_number d) → SequencesLoaded b (Err d) k
  refused_as {d} k s = record {
    answer = refused_is same (refusal set_part b) (counts_of (game_of b)) d s.is;
    sequences = λ e. absurd (s.some (sym s.is ∙ e));
  }

  -- 12 is broken
  pub sets_refuse : {d : Refusal} (k : List ℕ) → r ≡ Err d → SequencesLoaded b (Err d) k
  unfolding set_part tree_rows
  sets_refuse k f = refused_as k (stops EmptySet (begin set_part b) refl made f)

  module _ {q : Checked} {u : Unit {0}} (fine : r ≡ Ok u) (recall : q ≡ checked_of Recall (perfect_recall_of (game_of b))) where
    -- 13 is
    pub recall_refuses : {d : Refusal} (k : List ℕ) → q ≡ Err d → SequencesLoaded b (Err d) k
    unfolding set_part tree_rows
    recall_refuses k f = refused_as k (stops Recall (passes _ (begin set_part b) made fine) refl recall f)

    -- neither is
    pub sequences_loaded : {v : Unit {0}} {counts : Counts} {k : List ℕ} → q ≡ Ok v → counts ≡ counts_of (game_of b) → SequencesIn (game_of b) k → SequencesLoaded b (Ok counts) k
    unfolding set_part tree_rows
    sequences_loaded {counts = counts} f e S = record {
      answer = given_is same (refusal set_part b) (counts_of (game_of b)) counts (ends (passes _ (passes _ (begin set_part b) made fine) recall f)) e;
      sequences = λ z. S;
    }

-- what the calls of the stage say one after the other, of a file that stands in the sections
module _ {b : List ℕ} {header : Header} {l k : List ℕ} (F : FileRooted b header l) (put : ((g : Game) → header.nodes ≡ g.nodes → header.sets ≡ g.sets → Decoded g l → Rooted g → Held first_node_section (first_node g) g.sets k) × Apart first_node_section start_section l k) where
  first_put : Held first_node_section (first_node (game_of b)) (game_of b).sets k
  first_put = put.0 (game_of b) (header_nodes _ _ F.header_is) (header_sets _ _ F.header_is) F.decoded F.rooted

  module _ {r : Checked} (tested : (g : Game) → header.nodes ≡ g.nodes → header.sets ≡ g.sets → Held first_node_section (first_node g) g.sets k → r ≡ checked_of EmptySet (sets_non_empty_of g)) where
    pub made_12 : r ≡ checked_of EmptySet (sets_non_empty_of (game_of b))
    made_12 = tested (game_of b) (header_nodes _ _ F.header_is) (header_sets _ _ F.header_is) first_put

    module _ {u : Unit {0}} (fine : r ≡ Ok u) where
      fine_12 : T (sets_non_empty_of (game_of b))
      fine_12 = fine_test EmptySet (sets_non_empty_of (game_of b)) made_12 fine

      pub number_asked : Numberable (game_of b) × Decoded (game_of b) k
      number_asked = (numberable F fine_12, decoded_apart F.decoded put.1 (omega arith))

      module _ {s : SequenceCounts} {m : List ℕ} (N : ((g : Game) → header.nodes ≡ g.nodes → header.sets ≡ g.sets → Numberable g → Decoded g k → SequencesNumbered g s m) × Apart start_section lead_section k m) where
        pub numbered : SequencesNumbered (game_of b) s m
        numbered = N.0 (game_of b) (header_nodes _ _ F.header_is) (header_sets _ _ F.header_is) number_asked.0 number_asked.1

        pub filled : SequencesIn (game_of b) m
        filled = sequences_in F fine_12 first_put N.1 numbered

        pub made_13 : {q : Checked} → ((g : Game) → header.nodes ≡ g.nodes → OwnFilled g m → q ≡ checked_of Recall (perfect_recall_of g)) → q ≡ checked_of Recall (perfect_recall_of (game_of b))
        made_13 recall = recall (game_of b) (header_nodes _ _ F.header_is) filled.filled
