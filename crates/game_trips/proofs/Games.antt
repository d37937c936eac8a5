-- The round trips of a game, on the calls.
use Prim.Native.Nat.{ℕ, ◌≤◌}
use mathlib.Core.Path.{◌≡◌, sym, ap, ◌∙◌}
use mathlib.Core.Bool.{true}
use mathlib.Core.List.{List, [], ◌∷◌}
use native.Mathlib.Omega.{arith}
use lib.Dec.{T}
use lib.IntN.{ℤ}
use lib.ListN.{length, take, drop, length-append}
use borrow.Author.Tests.{le-leb}
use Rattle.algebra.proofs.Tests.{cond_yes}
use Rattle.algebra.proofs.Lists.{length_list_to}
use Rattle.model.specs.Limits.{count_limit}
use Rattle.model.specs.Game.{game_of, one, two}
use Rattle.model.specs.Writing.{GameFields, set_count, node_count, player_field, set_field, moves_field, payoff_field, fields_of, game_bytes, game_fields_fit, field_lists}
use Rattle.model.specs.Demand2.{IsBytes}
use Rattle.model.specs.Rows.{of, refusal}
use Rattle.model.specs.Checks.{game_rows}
use Rattle.model.specs.Call.{refused, Buffers, after_call, lengths, long_enough, Outcome, outcome}
use Rattle.model.specs.Calls.CheckGame as CheckGame
use Rattle.model.specs.Calls.CheckGame.{Counts}
use Rattle.model.specs.Calls.GameFields as GameFields
use Rattle.model.specs.Calls.GameFields.{shape, lists}
use Rattle.model.specs.Calls.WriteGame as WriteGame
use Rattle.model.specs.Calls.RewriteGame as RewriteGame
use Rattle.model.specs.Calls.RereadGame as RereadGame
use Rattle.model.proofs.Budget.{game_limits}
use Rattle.model.proofs.GameTrips.{length_game, game_file_trip, game_fields_trip}
use Rattle.model.proofs.Rules.{fields_fit_iff}
use Rattle.model.proofs.Rows.{taken_iff, refusal_of_lem}
use Rattle.model.proofs.Checks.{game_named, game_decided}
use Rattle.model.proofs.Calls.WriteGame.{fit_decided}
use Rattle.model.proofs.Calls.RereadGame.{reread_decided}
use Rattle.checks.proofs.Chains.{Refuses, begin, passes_all, stops_in, call_refuses, same_run}
use Rattle.columns.specs.Columns.{FieldsFit}
use Rattle.records.proofs.Widths.{few_sets}
use Rattle.std.specs.Prelude.{Result, Ok, Err}
use Rattle.model.specs.Exported.{same}
use Rattle.checks.specs.declared.Refusal.{Refusal}
use Rattle.checks.specs.Answers.{refusal_number, answered}
use Rattle.game.specs.declared.GameCounts.{GameCounts}
use Rattle.fields.specs.Answers.{fields_seen}
use Rattle.checks.proofs.Runs.{Gave, gave, not_gave, front}
use Rattle.game_trips.specs.Fronts.{fronts}

-- buffers of 4,095 entries have room for any game's fields
roomy : (game : List ℕ) (b : GameFields) → FieldsFit count_limit count_limit b → long_enough (lengths shape (lists (fields_of (game_of game)))) (lengths shape (lists b)) ≡ true
unfolding fields_of
roomy game b L =
    let g = game_of game in
    let H = few_sets game in
    let N = (game_limits game).nodes in
    rw (
      length_list_to g.sets (player_field g),
      length_list_to g.sets g.set_moves,
      length_list_to g.nodes g.kind,
      length_list_to g.nodes g.parent,
      length_list_to g.nodes g.move,
      length_list_to g.nodes g.weight,
      length_list_to g.nodes (set_field g),
      length_list_to g.nodes (moves_field g),
      length_list_to g.nodes (payoff_field g one),
      length_list_to g.nodes (payoff_field g two),
      le-leb g.sets (length b.set_players) (omega (arith, H, L.set_players)),
      le-leb g.sets (length b.set_moves) (omega (arith, H, L.set_moves)),
      le-leb g.nodes (length b.kinds) (omega (arith, N, L.kinds)),
      le-leb g.nodes (length b.parents) (omega (arith, N, L.parents)),
      le-leb g.nodes (length b.moves) (omega (arith, N, L.moves)),
      le-leb g.nodes (length b.weights) (omega (arith, N, L.weights)),
      le-leb g.nodes (length b.node_sets) (omega (arith, N, L.node_sets)),
      le-leb g.nodes (length b.chance_moves) (omega (arith, N, L.chance_moves)),
      le-leb g.nodes (length b.payoffs1) (omega (arith, N, L.payoffs1)),
      le-leb g.nodes (length b.payoffs2) (omega (arith, N, L.payoffs2)),
    )

-- Read, and written again: what reading refuses.
pub rewrite_refused : (game out : List ℕ) {r : Result GameCounts Refusal} {d : Refusal} {after : Buffers shape} {b0 b1 b2 b3 b4 b5 b6 b7 : List ℕ} {b8 b9 : List ℤ} → outcome (answered fields_seen r) after ≡ GameFields.game_fields_of game (lists (field_lists b0 b1 b2 b3 b4 b5 b6 b7 b8 b9)) → r ≡ Err d → FieldsFit count_limit count_limit (field_lists b0 b1 b2 b3 b4 b5 b6 b7 b8 b9) → outcome (refused (refusal_number d)) (out, tt) ≡ RewriteGame.rewrite_game_of game out
unfolding GameFields.call RewriteGame.call
rewrite_refused game out {d = d} {b0 = b0} {b1 = b1} {b2 = b2} {b3 = b3} {b4 = b4} {b5 = b5} {b6 = b6} {b7 = b7} {b8 = b8} {b9 = b9} e f L =
    let lent = field_lists b0 b1 b2 b3 b4 b5 b6 b7 b8 b9 in
    let s : Refuses game_rows game (refusal_number d) = not_gave GameFields.call game_named game (lists lent) e (ap (answered fields_seen) f) (λ z. roomy game lent L) in
    sym (call_refuses RewriteGame.call game_named game (out, tt) s)

-- the front of a buffer after a call, which stands in it
filled_front : {A : Type 0} (count : ℕ) (result buffer after : List A) → length result ≡ count → after ≡ after_call 0 result buffer → (take count after ≡ result) × (count ≤ length after)
unfolding after_call
filled_front count result buffer after e f = (front count result buffer after e f, omega (arith, e, ap length f, length-append result (drop (length result) buffer)))

-- What reading gives.
pub record Read (game : List ℕ) (d h n : ℕ) (after : GameFields) : Type 0 where
  pub accepted : refusal game_rows game ≡ 0
  pub room : FieldsFit h n after
  pub fields : fronts d h n after ≡ fields_of (game_of game)

pub read_given : (game : List ℕ) (b : Buffers shape) (after : GameFields) {r : Result GameCounts Refusal} {c : GameCounts} → outcome (answered fields_seen r) (lists after) ≡ GameFields.game_fields_of game b → r ≡ Ok c → Read game c.root_weight c.sets c.nodes after
unfolding GameFields.call fields_of
read_given game b after {r} {c} e f =
    let g = game_of game in
    let h = c.sets in
    let n = c.nodes in
    let G : Gave GameFields.call game_named game b (fields_seen c) (lists after) = gave GameFields.call game_named game b e (ap (answered fields_seen) f) in
    let nn : n ≡ g.nodes = ap (λ (c : Counts). c.nodes) G.result in
    let hh : h ≡ g.sets = ap (λ (c : Counts). c.sets) G.result in
    let p0 = filled_front h (fields_of g).set_players b.0 after.set_players (length_list_to g.sets (player_field g) ∙ sym hh) (ap (λ (x : Buffers shape). x.0) G.buffers) in
    let p1 = filled_front h (fields_of g).set_moves b.1.0 after.set_moves (length_list_to g.sets g.set_moves ∙ sym hh) (ap (λ (x : Buffers shape). x.1.0) G.buffers) in
    let p2 = filled_front n (fields_of g).kinds b.1.1.0 after.kinds (length_list_to g.nodes g.kind ∙ sym nn) (ap (λ (x : Buffers shape). x.1.1.0) G.buffers) in
    let p3 = filled_front n (fields_of g).parents b.1.1.1.0 after.parents (length_list_to g.nodes g.parent ∙ sym nn) (ap (λ (x : Buffers shape). x.1.1.1.0) G.buffers) in
    let p4 = filled_front n (fields_of g).moves b.1.1.1.1.0 after.moves (length_list_to g.nodes g.move ∙ sym nn) (ap (λ (x : Buffers shape). x.1.1.1.1.0) G.buffers) in
    let p5 = filled_front n (fields_of g).weights b.1.1.1.1.1.0 after.weights (length_list_to g.nodes g.weight ∙ sym nn) (ap (λ (x : Buffers shape). x.1.1.1.1.1.0) G.buffers) in
    let p6 = filled_front n (fields_of g).node_sets b.1.1.1.1.1.1.0 after.node_sets (length_list_to g.nodes (set_field g) ∙ sym nn) (ap (λ (x : Buffers shape). x.1.1.1.1.1.1.0) G.buffers) in
    let p7 = filled_front n (fields_of g).chance_moves b.1.1.1.1.1.1.1.0 after.chance_moves (length_list_to g.nodes (moves_field g) ∙ sym nn) (ap (λ (x : Buffers shape). x.1.1.1.1.1.1.1.0) G.buffers) in
    let p8 = filled_front n (fields_of g).payoffs1 b.1.1.1.1.1.1.1.1.0 after.payoffs1 (length_list_to g.nodes (payoff_field g one) ∙ sym nn) (ap (λ (x : Buffers shape). x.1.1.1.1.1.1.1.1.0) G.buffers) in
    let p9 = filled_front n (fields_of g).payoffs2 b.1.1.1.1.1.1.1.1.1.0 after.payoffs2 (length_list_to g.nodes (payoff_field g two) ∙ sym nn) (ap (λ (x : Buffers shape). x.1.1.1.1.1.1.1.1.1.0) G.buffers) in
    record {
      accepted = G.fine;
      room = record {
        set_players = p0.1;
        set_moves = p1.1;
        kinds = p2.1;
        parents = p3.1;
        moves = p4.1;
        weights = p5.1;
        node_sets = p6.1;
        chance_moves = p7.1;
        payoffs1 = p8.1;
        payoffs2 = p9.1;
      };
      fields = λ i. record {
        root_weight = ap (λ (c : Counts). c.root_weight) G.result i;
        set_players = p0.0 i;
        set_moves = p1.0 i;
        kinds = p2.0 i;
        parents = p3.0 i;
        moves = p4.0 i;
        weights = p5.0 i;
        node_sets = p6.0 i;
        chance_moves = p7.0 i;
        payoffs1 = p8.0 i;
        payoffs2 = p9.0 i;
      };
    }

-- fields that fit are not refused by the writer
taken : (t : GameFields) → T (game_fields_fit t) → refusal WriteGame.rows t ≡ 0
unfolding WriteGame.rows refusal
taken t fit = cond_yes {A = ℕ} (game_fields_fit t) 0 17 fit

-- the writer takes what is read, and writes the file's own bytes
pub rewrite_given : (game out : List ℕ) → IsBytes game → {d h n : ℕ} {after : GameFields} → Read game d h n after → {h' n' : ℕ} → h' ≡ h → n' ≡ n → {o : Outcome (ℕ ∷ []) ℕ} → o ≡ WriteGame.write_game_of (fronts d h' n' after) out → o ≡ RewriteGame.rewrite_game_of game out
unfolding WriteGame.call WriteGame.rows RewriteGame.call
rewrite_given game out bytes R hh nn e =
    let t = fields_of (game_of game) in
    let (fit, same) = game_file_trip game bytes ((taken_iff game_decided game).1 R.accepted) in
    e ∙ rw (hh, nn, R.fields) (same_run WriteGame.call RewriteGame.call tt game_named t game (out, tt) (taken t fit ∙ sym R.accepted) (λ e. (ap length same, rw same)))

-- Written, and read back, with a file of the longest legal length to write to.
module _ (t : GameFields) (l after : List ℕ) (r : Result ℕ Refusal) (e : outcome (answered same r) (after, tt) ≡ WriteGame.write_game_of t l) (long : 36860 ≤ length l) where
  -- a file whose counts fit is no longer
  short : refusal WriteGame.rows t ≡ 0 → length (game_bytes t) ≤ length l
  unfolding set_count node_count
  short z = let fit = (taken_iff fit_decided t).1 z in omega (arith, length_game t, fit.set_count, fit.node_count)

  enough : refusal WriteGame.rows t ≡ 0 → long_enough (length (game_bytes t) ∷ []) (length l ∷ []) ≡ true
  enough z = rw (le-leb (length (game_bytes t)) (length l) (short z))

  -- something does not fit
  pub reread_refused : {d : Refusal} → r ≡ Err d → (b : Buffers shape) → outcome (refused (refusal_number d)) b ≡ RereadGame.reread_game_of t b
  unfolding WriteGame.call WriteGame.rows RereadGame.call RereadGame.rows
  reread_refused {d} f b =
      let s : Refuses WriteGame.rows t (refusal_number d) = not_gave WriteGame.call tt t (l, tt) e (ap (answered same) f) enough in
      sym (call_refuses RereadGame.call reread_decided.numbered t b (stops_in WriteGame.rows (of game_bytes game_rows) tt (begin RereadGame.rows t) s))

  -- what is written holds the fields that are given
  same_fields : refusal WriteGame.rows t ≡ 0 → (CheckGame.counts_of (game_bytes t) ≡ RereadGame.counts_given t) × (lists (fields_of (game_of (game_bytes t))) ≡ lists t)
  unfolding fields_of set_count node_count
  same_fields z =
      let g = game_of (game_bytes t) in
      let trip = game_fields_trip t ((fields_fit_iff t).passes ((taken_iff fit_decided t).1 z)) in
      let nodes : g.nodes ≡ length t.kinds = sym (length_list_to g.nodes g.kind) ∙ ap (λ (x : GameFields). length x.kinds) trip in
      let sets : g.sets ≡ length t.set_players = sym (length_list_to g.sets (player_field g)) ∙ ap (λ (x : GameFields). length x.set_players) trip in
      (λ i. record { nodes = nodes i; sets = sets i; root_weight = (trip i).root_weight }, ap lists trip)

  -- what is written is read back as it was given
  pub reread_given : {n : ℕ} → r ≡ Ok n → (n ≤ length l) × ((b : Buffers shape) → GameFields.game_fields_of (take n after) b ≡ RereadGame.reread_game_of t b)
  unfolding WriteGame.call WriteGame.rows RereadGame.call RereadGame.rows GameFields.call
  reread_given {n} f =
      let G : Gave WriteGame.call tt t (l, tt) n (after, tt) = gave WriteGame.call tt t (l, tt) e (ap (answered same) f) in
      let whole : take n after ≡ game_bytes t = front n (game_bytes t) l after (sym G.result) (ap (λ (x : Buffers (ℕ ∷ [])). x.0) G.buffers) in
      let alike : refusal RereadGame.rows t ≡ refusal game_rows (game_bytes t) = (passes_all WriteGame.rows (of game_bytes game_rows) tt (begin RereadGame.rows t) G.fine).same ∙ refusal_of_lem game_bytes game_rows t in
      (omega (arith, G.result, short G.fine), λ b. rw whole (same_run GameFields.call RereadGame.call game_named reread_decided.numbered (game_bytes t) t b (sym alike) (λ z. same_fields G.fine)))
