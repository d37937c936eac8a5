-- The fields of a header that was read.
use Prim.Native.Nat.{ℕ}
use mathlib.Core.Path.{◌≡◌, ap}
use mathlib.Core.List.{List}
use Rattle.model.specs.Bits.{field}
use Rattle.model.specs.Game.{game_of, node_at}
use Rattle.records.specs.declared.game_file.Header.{Header}
use Rattle.records.specs.Records.{header_of, Framed}

-- a header's fields are the file's
pub header_edition : (h : Header) (bytes : List ℕ) → h ≡ header_of bytes → h.edition ≡ field bytes 0 4
unfolding header_of
header_edition h bytes e = ap (λ (x : Header). x.edition) e

pub header_nodes : (h : Header) (bytes : List ℕ) → h ≡ header_of bytes → h.nodes ≡ (game_of bytes).nodes
unfolding header_of
header_nodes h bytes e = ap (λ (x : Header). x.nodes) e

pub header_sets : (h : Header) (bytes : List ℕ) → h ≡ header_of bytes → h.sets ≡ (game_of bytes).sets
unfolding header_of
header_sets h bytes e = ap (λ (x : Header). x.sets) e

pub header_weight : (h : Header) (bytes : List ℕ) → h ≡ header_of bytes → h.root_weight ≡ (game_of bytes).root_weight
unfolding header_of
header_weight h bytes e = ap (λ (x : Header). x.root_weight) e

pub header_records : (h : Header) (bytes : List ℕ) → h ≡ header_of bytes → h.records ≡ node_at bytes 0
unfolding header_of
header_records h bytes e = ap (λ (x : Header). x.records) e

-- where the records begin, and how many there are
pub header_framed : (h : Header) (bytes : List ℕ) → h ≡ header_of bytes → Framed bytes h.records h.nodes
header_framed h bytes e = record { records_is = header_records h bytes e; nodes_is = header_nodes h bytes e }
