-- The stage of checks 7 to 11: what each call says of a file that stands in the sections, where those before it are fine.
use Prim.Native.Nat.{ℕ}
use mathlib.Core.Path.{◌≡◌, refl}
use mathlib.Core.List.{List}
use lib.ListN.{drop}
use lib.Dec.{T}
use Rattle.std.specs.Prelude.{Ok, Err}
use Rattle.model.specs.Game.{Game, game_of}
use Rattle.model.specs.GameChecks.{payloads_in_range_of, nodes_attached_of, moves_lead_on_of, weights_obey_rules_of, paths_in_limit_of}
use Rattle.model.specs.Rows.{refusal}
use Rattle.model.specs.Checks.{record_rows, tree_rows}
use Rattle.model.proofs.Budget.{game_limits}
use Rattle.checks.specs.declared.Refusal.{Refusal}
use Rattle.checks.specs.declared.Refusal.TheVariants.{PayloadRange, Attachment, MissingMove, ChanceWeights, PathLength}
use Rattle.checks.specs.Answers.{refusal_number, checked_of, number_of}
use Rattle.checks.proofs.Chains.{Checked, Left, begin, passes, fine_test}
use Rattle.records.specs.declared.game_file.Header.{Header}
use Rattle.records.proofs.Headers.{header_nodes, header_sets, header_weight}
use Rattle.loaded.specs.Loaded.{Decoded}
use Rattle.loaded.proofs.Rooted.{rooted}
use Rattle.tree.specs.Games.{TreeIn}
use Rattle.game.specs.Stages.{tree_part, FileDecoded}
use Rattle.game.proofs.Parts.{stops_as, ends_as}

module _ {b : List ℕ} {header : Header} {l : List ℕ} (F : FileDecoded b header l) where
  module _ {r7 : Checked} (e7 : (g : Game) → header.nodes ≡ g.nodes → header.sets ≡ g.sets → Decoded g l → r7 ≡ checked_of PayloadRange (payloads_in_range_of g)) where
    made_7 : r7 ≡ checked_of PayloadRange (payloads_in_range_of (game_of b))
    made_7 = e7 (game_of b) (header_nodes _ _ F.header_is) (header_sets _ _ F.header_is) F.decoded

    pub stops_7 : {d : Refusal} → r7 ≡ Err d → refusal_number d ≡ refusal tree_part b
    unfolding tree_part record_rows tree_rows
    stops_7 f = stops_as PayloadRange (begin tree_part b) refl made_7 f

    module _ {u7 : Unit {0}} (o7 : r7 ≡ Ok u7) where
      pub fine_7 : T (payloads_in_range_of (game_of b))
      fine_7 = fine_test PayloadRange (payloads_in_range_of (game_of b)) made_7 o7

      left_8 : Left tree_part (drop 1 tree_part) b
      unfolding tree_part record_rows tree_rows
      left_8 = passes _ (begin tree_part b) made_7 o7

      module _ {r8 : Checked} (e8 : (g : Game) → header.nodes ≡ g.nodes → Decoded g l → T (payloads_in_range_of g) → r8 ≡ checked_of Attachment (nodes_attached_of g)) where
        made_8 : r8 ≡ checked_of Attachment (nodes_attached_of (game_of b))
        made_8 = e8 (game_of b) (header_nodes _ _ F.header_is) F.decoded fine_7

        pub stops_8 : {d : Refusal} → r8 ≡ Err d → refusal_number d ≡ refusal tree_part b
        unfolding tree_part record_rows tree_rows
        stops_8 f = stops_as Attachment left_8 refl made_8 f

        module _ {u8 : Unit {0}} (o8 : r8 ≡ Ok u8) where
          left_9 : Left tree_part (drop 2 tree_part) b
          unfolding tree_part record_rows tree_rows
          left_9 = passes _ left_8 made_8 o8

          -- its nodes hang together
          pub tree_in : TreeIn header.nodes l (game_of b)
          tree_in = record {
            nodes_are = header_nodes _ _ F.header_is;
            decoded = F.decoded;
            rooted = rooted (game_limits b) F.counts F.set_moves fine_7 (fine_test Attachment (nodes_attached_of (game_of b)) made_8 o8);
          }

          module _ {r9 : Checked} (e9 : (g : Game) → TreeIn header.nodes l g → r9 ≡ checked_of MissingMove (moves_lead_on_of g)) where
            pub stops_9 : {d : Refusal} → r9 ≡ Err d → refusal_number d ≡ refusal tree_part b
            unfolding tree_part record_rows tree_rows
            stops_9 f = stops_as MissingMove left_9 refl (e9 (game_of b) tree_in) f

            module _ {u9 : Unit {0}} (o9 : r9 ≡ Ok u9) where
              left_10 : Left tree_part (drop 3 tree_part) b
              unfolding tree_part record_rows tree_rows
              left_10 = passes _ left_9 (e9 (game_of b) tree_in) o9

              module _ {r10 : Checked} (e10 : (g : Game) → TreeIn header.nodes l g → header.root_weight ≡ g.root_weight → r10 ≡ checked_of ChanceWeights (weights_obey_rules_of g)) where
                made_10 : r10 ≡ checked_of ChanceWeights (weights_obey_rules_of (game_of b))
                made_10 = e10 (game_of b) tree_in (header_weight _ _ F.header_is)

                pub stops_10 : {d : Refusal} → r10 ≡ Err d → refusal_number d ≡ refusal tree_part b
                unfolding tree_part record_rows tree_rows
                stops_10 f = stops_as ChanceWeights left_10 refl made_10 f

                -- and the answer of the last is that of all
                pub ends_11 : {u10 : Unit {0}} → r10 ≡ Ok u10 → {r11 : Checked} → ((g : Game) → TreeIn header.nodes l g → r11 ≡ checked_of PathLength (paths_in_limit_of g)) → number_of r11 ≡ refusal tree_part b
                unfolding tree_part record_rows tree_rows
                ends_11 o10 e11 = ends_as PathLength (passes _ left_10 made_10 o10) refl (e11 (game_of b) tree_in)
