-- What was read is what the calls give.
use Prim.Native.Nat.{ℕ, zero, suc, ◌<◌}
use mathlib.Core.Path.{◌≡◌, refl, ap, ◌∙◌}
use mathlib.Core.Bool.{cond}
use mathlib.Core.List.{List}
use native.Mathlib.Omega.{arith}
use lib.IntN.{ℤ, pos}
use lib.Dec.{eqb}
use Rattle.model.specs.Game.{game_of, is_leaf, is_decision, is_chance}
use Rattle.model.specs.Sequences.{leading_number}
use Rattle.model.specs.Call.{given, refused}
use Rattle.model.specs.Writing.{payoff_field, player_field, set_field, moves_field}
use Rattle.model.specs.Calls.CheckGame as CheckGame
use Rattle.model.specs.Calls.SetEntry as Set
use Rattle.model.specs.Calls.NodeRecord.{Place, leaf, decision, chance, by_kind, record_of}
use Rattle.model.proofs.Checks.{game_named}
use Rattle.checks.proofs.NoBuffer.{answer_refused, answer_given}
use Rattle.checks.proofs.Files.{game_refuses, game_fine}
use Rattle.records.specs.declared.game_file.Header.{Header}
use Rattle.records.specs.declared.game_file.SetEntry.{SetEntry}
use Rattle.records.specs.declared.game_file.NodeRecord as Read
use Rattle.records.specs.Records.{SetRead, NodeRead}
use Rattle.records.proofs.Records.{set_player_lem, node_set_lem, node_moves_lem, node_payoff1, node_payoff2}
use Rattle.records.proofs.Headers.{header_nodes, header_sets, header_weight}
use Rattle.std.specs.Prelude.{Result, Err}
use Rattle.checks.specs.declared.Refusal.{Refusal}
use Rattle.checks.specs.Answers.{refusal_number}
use Rattle.loaded.specs.declared.Counts.{Counts}
use Rattle.game.specs.Load.{LoadedBy}
use Rattle.game.proofs.Loads.{load_refused}
use Rattle.game.proofs.Refusals.{Opened, RefusedWith}
use Rattle.lookups.specs.Records.{record_read}

-- The check of a game.
module _ (game : List ℕ) where
  -- its refusal
  pub check_refused : {n : ℕ} → RefusedWith game n → refused n ≡ (CheckGame.check_game_of game).answer
  unfolding CheckGame.call
  check_refused s = answer_refused CheckGame.call game_named game (game_refuses s.number s.some)

  -- the counts of an accepted game
  pub check_given : (h : Header) → Opened game h → given (record { nodes = h.nodes; sets = h.sets; root_weight = h.root_weight }) ≡ (CheckGame.check_game_of game).answer
  unfolding CheckGame.call
  check_given h o =
      rw (header_nodes h game o.header, header_sets h game o.header, header_weight h game o.header)
      (answer_given CheckGame.call game_named game (game_fine game o.none))

-- the entry of set i, where i is h
pub set_is_read : (game : List ℕ) {i h : ℕ} (r : SetEntry) → SetRead game i r → i ≡ h → record { player = r.player; moves = r.moves } ≡ Set.entry_of (game_of game) h
unfolding player_field
set_is_read game {i} r R e = rw (← e, set_player_lem game i r R, R.moves)

-- the number of its refusal
pub load_refuses : (game : List ℕ) {a : Result Counts Refusal} {d : Refusal} {numbers : List ℕ} {payoffs : List ℤ} → LoadedBy game a numbers payoffs → a ≡ Err d → RefusedWith game (refusal_number d)
load_refuses game L f =
    let given = load_refused game L.answer f in
    record { number = given.0; some = given.1 }

-- the own sequence that leads to set i, where i is h
pub sequence_is_read : (game : List ℕ) {i h k : ℕ} → k ≡ leading_number (game_of game) i → i ≡ h → k ≡ leading_number (game_of game) h
sequence_is_read game r e = r ∙ ap (leading_number (game_of game)) e

-- a leaf with equal payoffs
pub leaf_given : (p : Place) {a b x y : ℤ} → x ≡ a → y ≡ b → leaf p x y ≡ leaf p a b
leaf_given p first second = rw (first, second)

-- a node has only what its kind has
only_its_own : (k : ℕ) (p : Place) (a b : ℤ) (h m : ℕ) → k < 3 → by_kind k (leaf p (cond (eqb k 0) a (pos 0)) (cond (eqb k 0) b (pos 0))) (decision p (cond (eqb k 1) h 0)) (chance p (cond (eqb k 2) m 0)) ≡ by_kind k (leaf p a b) (decision p h) (chance p m)
only_its_own zero p a b h m l = refl
only_its_own (suc zero) p a b h m l = refl
only_its_own (suc (suc zero)) p a b h m l = refl
only_its_own (suc (suc (suc k))) p a b h m l = absurd (omega arith)

-- the record of node i, of a kind that exists, where i is n
pub node_is_read : (game : List ℕ) {i n : ℕ} (r : Read.NodeRecord) → NodeRead game i r → i ≡ n → (game_of game).kind n < 3 → record_read r ≡ record_of (game_of game) n
unfolding payoff_field set_field moves_field is_leaf is_decision is_chance
node_is_read game {i} {n} r R e l =
    rw (R.kind, R.parent, R.place, R.weight, node_payoff1 game i r R, node_payoff2 game i r R, node_set_lem game i r R, node_moves_lem game i r R, e)
    (only_its_own ((game_of game).kind n) _ _ _ _ _ l)
