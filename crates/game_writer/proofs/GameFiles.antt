-- The game writer: its file as a header, set entries and node records, and what it answers.
use Prim.Native.Nat.{ℕ, ◌+◌, ◌*◌, ◌/◌}
use mathlib.Core.Path.{◌≡◌, sym, ap, ◌∙◌}
use mathlib.Core.Bool.{Bool, true}
use mathlib.Core.List.{List, ◌++◌}
use native.Mathlib.Omega.{arith}
use lib.Dec.{leb}
use lib.ListN.{length, length-append}
use Rattle.algebra.specs.Arrays.{placed}
use Rattle.algebra.specs.Bounded.{join_to}
use Rattle.algebra.proofs.Arrays.{placed_twice}
use Rattle.algebra.proofs.Lists.{length_join_to}
use Rattle.model.specs.Bits.{packed, pack}
use Rattle.model.specs.Writing.{GameFields, set_count, node_count, set_bits, node_bits, header_bits, game_bytes, game_fields_fit}
use Rattle.model.specs.Rules.{FieldsFit}
use Rattle.model.specs.Call.{outcome}
use Rattle.model.specs.Calls.WriteGame.{rows, call, write_game_of}
use Rattle.model.proofs.Bits.{length_bits, length_packed}
use Rattle.model.proofs.GameTrips.{length_game}
use Rattle.model.proofs.Packing.{pack_whole, pack_append}
use Rattle.std.specs.Prelude.{Result, Ok, Err}
use Rattle.model.specs.Exported.{same}
use Rattle.checks.specs.declared.Refusal.{Refusal}
use Rattle.checks.specs.declared.Refusal.TheVariants.{Number, Room}
use Rattle.checks.specs.Answers.{checked_of, answered}
use Rattle.checks.proofs.Chains.{Checked, fine_holds}
use Rattle.records.specs.declared.game_file.Header.{Header}
use Rattle.records.specs.Records as Records
use Rattle.game_writer.proofs.Puttings.{byte_count}
use Rattle.fitting.proofs.Refusals.{misfit, short, written}
use Rattle.game_writer.proofs.Nodes.{set_width}

-- where the records begin after a header that is made for a file
pub header_records : (x : Header) {nodes sets root_weight : ℕ} → x ≡ Records.header_with nodes sets root_weight → x.records ≡ 40 + 8 * sets
header_records x e = ap (λ (y : Header). y.records) e

module _ (t : GameFields) where
  -- the bytes of the set entries
  abbrev set_bytes : List ℕ
  set_bytes = pack (join_to (length t.set_players) (set_bits t))

  -- the bytes of the node records
  abbrev node_bytes : List ℕ
  node_bytes = pack (join_to (length t.kinds) (node_bits t))

  -- the bits of the header
  abbrev header : List ℕ
  header = Records.header_bits (Records.header_with (length t.kinds) (length t.set_players) t.root_weight)

  -- it fills five bytes
  header_size : length header ≡ 8 * 5
  unfolding Records.header_bits
  header_size = simp (length-append, length_bits)

  -- the file in its three parts
  game_parts : packed 5 header ++ set_bytes ++ node_bytes ≡ game_bytes t
  unfolding Records.header_bits game_bytes header_bits set_bits set_count node_count
  game_parts =
      let entries = join_to (length t.set_players) (set_bits t) in
      let records = join_to (length t.kinds) (node_bits t) in
      let front : length (header ++ entries) ≡ 8 * (5 + length t.set_players) = length-append header entries ∙ omega (arith, header_size, length_join_to 8 (length t.set_players) (set_bits t) (λ h l. set_width t h)) in
      rw (pack_append (5 + length t.set_players) (header ++ entries) records front, pack_append 5 header entries header_size, pack_whole 5 header header_size)

  -- the three parts put one after the other
  pub game_put : (out : List ℕ) {x : Header} → x ≡ Records.header_with (length t.kinds) (length t.set_players) t.root_weight → {headed entered after : List ℕ}
      → headed ≡ placed 0 (packed 5 (Records.header_bits x)) out → entered ≡ placed 5 set_bytes headed → after ≡ placed (x.records / 8) node_bytes entered → after ≡ placed 0 (game_bytes t) out
  game_put out {x} e f g h =
      let at : x.records / 8 ≡ 5 + length t.set_players = omega (arith, header_records x e) in
      let first : placed 5 set_bytes (placed 0 (packed 5 header) out) ≡ placed 0 (packed 5 header ++ set_bytes) out = rw (length_packed 5 header) at (placed_twice 0 (packed 5 header) set_bytes out (omega arith)) in
      let front : 0 + length (packed 5 header ++ set_bytes) ≡ 5 + length t.set_players = omega (arith, length-append (packed 5 header) set_bytes, length_packed 5 header, byte_count 5 1 (set_bits t) (set_width t) (length t.set_players)) in
      let second : placed (5 + length t.set_players) node_bytes (placed 0 (packed 5 header ++ set_bytes) out) ≡ placed 0 (packed 5 header ++ set_bytes ++ node_bytes) out = rw front at (placed_twice 0 (packed 5 header ++ set_bytes) node_bytes out (omega arith)) in
      rw (h, g, f, at, ap Records.header_bits e, first, second, game_parts)

module _ (t : GameFields) (out : List ℕ) where
  -- the answer, and the lent bytes afterwards
  abbrev pub Leaves : Result ℕ Refusal → List ℕ → Type 0
  Leaves r after = outcome (answered same r) (after, tt) ≡ write_game_of t out

  -- how long the file is, as it is measured
  size_is : {size : ℕ} → size ≡ 5 + length t.set_players + 8 * length t.kinds → size ≡ length (game_bytes t)
  unfolding set_count node_count
  size_is is = is ∙ sym (length_game t)

  module _ {x : Bool} {a : Checked} (tested : x ≡ game_fields_fit t) (checked : a ≡ checked_of Number x) where
    -- fields that do not fit
    pub game_misfit : {d : Refusal} → a ≡ Err d → Leaves (Err d) out
    unfolding call rows
    game_misfit f = misfit game_fields_fit (λ t. ¬ FieldsFit t) game_bytes t out tested checked f

    -- fields that fit
    pub game_fits : {u : Unit {0}} → a ≡ Ok u → game_fields_fit t ≡ true
    game_fits f = sym tested ∙ fine_holds Number x checked f

    module _ {b : Checked} {u : Unit {0}} (fine : a ≡ Ok u) {size : ℕ} (is : size ≡ 5 + length t.set_players + 8 * length t.kinds) (room : b ≡ checked_of Room (leb size (length out))) where
      -- a buffer too short
      pub game_short : {d : Refusal} → b ≡ Err d → Leaves (Err d) out
      unfolding call rows
      game_short f = short game_fields_fit (λ t. ¬ FieldsFit t) game_bytes t out tested checked fine (size_is is) room f

      -- all bytes written
      pub game_written : {v : Unit {0}} → b ≡ Ok v → {after : List ℕ} → after ≡ placed 0 (game_bytes t) out → Leaves (Ok size) after
      unfolding call rows
      game_written f all = written game_fields_fit (λ t. ¬ FieldsFit t) game_bytes t out tested checked fine (size_is is) room f all
