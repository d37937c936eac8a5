-- The call that gives all fields: its refusals, and its ten buffers afterwards.
use Prim.Native.Nat.{ℕ}
use mathlib.Core.Path.{◌≡◌, refl, sym, ap, ◌∙◌}
use mathlib.Core.Bool.{Bool, true, false, ◌&&◌}
use mathlib.Core.List.{List, [], ◌∷◌}
use Rattle.algebra.proofs.Lists.{length_list_to}
use Rattle.model.specs.Game.{game_of, one, two}
use Rattle.model.specs.Call.{Answer, given, refused, lengths, long_enough, after_all, outcome}
use Rattle.model.specs.Writing.{GameFields, fields_of, payoff_field, player_field, set_field, moves_field}
use Rattle.model.specs.Calls.CheckGame.{Counts}
use Rattle.model.specs.Calls.GameFields.{shape, lists, call, game_fields_of}
use Rattle.model.proofs.Checks.{game_named}
use lib.Dec.{leb}
use lib.ListN.{length}
use Rattle.std.specs.Prelude.{Ok, Err}
use Rattle.checks.specs.declared.Refusal.{Refusal}
use Rattle.checks.specs.declared.Refusal.TheVariants.{Room}
use Rattle.checks.specs.Answers.{refusal_number, checked_of}
use Rattle.checks.proofs.Chains.{Checked, fine_holds, call_refuses, call_short, call_gives}
use Rattle.checks.proofs.Files.{game_refuses, game_fine}
use Rattle.checks.proofs.Rooms.{split, over_after}
use Rattle.records.specs.declared.game_file.Header.{Header}
use Rattle.columns.specs.Columns.{FieldsFit, filled}
use Rattle.fields.specs.Rooms.{roomy}
use Rattle.records.proofs.Headers.{header_nodes, header_sets, header_weight}
use Rattle.game.proofs.Refusals.{Opened, RefusedWith}

-- two tests and then others, joined either way
joined : (x y z : Bool) → ((x && (y && true)) && z) ≡ (x && (y && z))
joined true true z = refl
joined true false z = refl
joined false y z = refl

module _ (bytes : List ℕ) (b : GameFields) where
  -- an answer and buffers that are the call's
  abbrev pub Result : Answer Counts → GameFields → Type 0
  Result r a = outcome r (lists a) ≡ game_fields_of bytes (lists b)

  -- the game's own refusal
  pub file_refused : {r : ℕ} → RefusedWith bytes r → Result (refused r) b
  unfolding call
  file_refused s = sym (call_refuses call game_named bytes (lists b) (game_refuses s.number s.some))

  -- whether each buffer is long enough for h sets and n nodes
  abbrev pub enough : (h n : ℕ) → Bool
  enough h n = long_enough (h ∷ h ∷ n ∷ n ∷ n ∷ n ∷ n ∷ n ∷ n ∷ n ∷ []) (lengths shape (lists b))

  -- the same, as it is tested
  tested : (h n : ℕ) {r : Checked} → r ≡ checked_of Room (roomy h n b) → r ≡ checked_of Room (enough h n)
  tested h n e = e ∙ ap (checked_of Room) (joined (leb h (length b.set_players)) (leb h (length b.set_moves)) _)

  -- 18 as the call has it
  measured : (x : Header) → Opened bytes x → enough x.sets x.nodes ≡ long_enough (lengths shape (lists (fields_of (game_of bytes)))) (lengths shape (lists b))
  unfolding fields_of
  measured x o =
      let g = game_of bytes in
      rw (
        header_nodes x bytes o.header,
        header_sets x bytes o.header,
        length_list_to g.sets (player_field g),
        length_list_to g.sets g.set_moves,
        length_list_to g.nodes g.kind,
        length_list_to g.nodes g.parent,
        length_list_to g.nodes g.move,
        length_list_to g.nodes g.weight,
        length_list_to g.nodes (set_field g),
        length_list_to g.nodes (moves_field g),
        length_list_to g.nodes (payoff_field g one),
        length_list_to g.nodes (payoff_field g two),
      )

  -- a buffer too short
  pub no_room : (x : Header) → Opened bytes x → {r : Checked} {d : Refusal} → r ≡ checked_of Room (roomy x.sets x.nodes b) → r ≡ Err d → Result (refused (refusal_number d)) b
  unfolding call
  no_room x o e f = sym (call_short call game_named bytes (lists b) (game_fine bytes o.none) (tested x.sets x.nodes e ∙ ap (checked_of Room) (measured x o)) f)

  -- every buffer has its room
  pub has_room : (h n : ℕ) {r : Checked} {u : Unit {0}} → r ≡ checked_of Room (roomy h n b) → r ≡ Ok u → FieldsFit h n b
  has_room h n e f =
      let t0 = split _ _ (fine_holds Room (enough h n) (tested h n e) f) in
      let t1 = split _ _ t0.1 in
      let t2 = split _ _ t1.1 in
      let t3 = split _ _ t2.1 in
      let t4 = split _ _ t3.1 in
      let t5 = split _ _ t4.1 in
      let t6 = split _ _ t5.1 in
      let t7 = split _ _ t6.1 in
      let t8 = split _ _ t7.1 in
      let t9 = split _ _ t8.1 in
      record {
        set_players = t0.0;
        set_moves = t1.0;
        kinds = t2.0;
        parents = t3.0;
        moves = t4.0;
        weights = t5.0;
        node_sets = t6.0;
        chance_moves = t7.0;
        payoffs1 = t8.0;
        payoffs2 = t9.0;
      }

  -- buffers that are filled are those after the call
  filled_is : lists (filled (game_of bytes) b) ≡ after_all shape 0 (lists (fields_of (game_of bytes))) (lists b)
  unfolding fields_of
  filled_is =
      let g = game_of bytes in
      rw (
        over_after (player_field g) g.sets b.set_players,
        over_after g.set_moves g.sets b.set_moves,
        over_after g.kind g.nodes b.kinds,
        over_after g.parent g.nodes b.parents,
        over_after g.move g.nodes b.moves,
        over_after g.weight g.nodes b.weights,
        over_after (set_field g) g.nodes b.node_sets,
        over_after (moves_field g) g.nodes b.chance_moves,
        over_after (payoff_field g one) g.nodes b.payoffs1,
        over_after (payoff_field g two) g.nodes b.payoffs2,
      )

  -- all fields given
  pub all_given : (x : Header) {a : GameFields} → Opened bytes x → {r : Checked} {u : Unit {0}} → r ≡ checked_of Room (roomy x.sets x.nodes b) → r ≡ Ok u → a ≡ filled (game_of bytes) b → Result (given (record { nodes = x.nodes; sets = x.sets; root_weight = x.root_weight })) a
  unfolding call
  all_given x o e f g =
      rw (g, filled_is, header_nodes x bytes o.header, header_sets x bytes o.header, header_weight x bytes o.header)
      (sym (call_gives call game_named bytes (lists b) (game_fine bytes o.none) (sym (measured x o) ∙ fine_holds Room (enough x.sets x.nodes) (tested x.sets x.nodes e) f)))
