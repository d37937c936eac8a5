-- Records fill whole bytes: where their bits are put, their bytes are placed.
use Prim.Native.Nat.{ℕ, ◌+◌, ◌*◌, ◌≤◌}
use mathlib.Core.Path.{◌≡◌, refl, ap, ◌∙◌}
use mathlib.Core.List.{List, ◌++◌}
use native.Mathlib.Omega.{arith}
use lib.ListN.{length, length-append}
use Rattle.algebra.specs.Arrays.{placed}
use Rattle.model.specs.Bits.{bits, packed}
use Rattle.model.proofs.Bits.{length_bits}
use Rattle.model.proofs.Spelling.{BitList, bitlist_bits, bitlist_append}
use Rattle.bits.specs.Puts.{bits_put}
use Rattle.bits.proofs.Puts.{put_twice, whole_put}
use Rattle.records.specs.declared.game_file.Header.{Header}
use Rattle.records.specs.declared.game_file.SetEntry.{SetEntry}
use Rattle.records.specs.declared.game_file.Payload.{Payload}
use Rattle.records.specs.declared.game_file.NodeRecord.{NodeRecord}
use Rattle.records.specs.declared.plan_file.PlanHeader.{PlanHeader}
use Rattle.records.specs.PlanRecords.{plan_header_bits}
use Rattle.records.specs.Records.{header_bits, entry_bits, number_in, payload_bits, node_bits}

-- bits that fill k bytes, put from the first bit of a byte on
filled : (k from at : ℕ) (l out : List ℕ) {after : List ℕ} → BitList (8 * k) l → at ≡ 8 * from → from + k ≤ length out → after ≡ bits_put out at l → after ≡ placed from (packed k l) out
filled k from at l out are e room put = put ∙ ap (λ (i : ℕ). bits_put out i l) e ∙ whole_put k from l out are room

-- four fields
four : (a x b y c z d w : ℕ) → BitList (a + b + c + d) (bits a x ++ bits b y ++ bits c z ++ bits d w)
four a x b y c z d w = bitlist_append (bitlist_append (bitlist_append (bitlist_bits a x) (bitlist_bits b y)) (bitlist_bits c z)) (bitlist_bits d w)

-- a header of a game file
pub header_filled : (x : Header) (out : List ℕ) {after : List ℕ} → 5 ≤ length out → after ≡ bits_put out 0 (header_bits x) → after ≡ placed 0 (packed 5 (header_bits x)) out
unfolding header_bits
header_filled x out room put = filled 5 0 0 (header_bits x) out (four 4 x.edition 12 x.nodes 12 x.sets 12 x.root_weight) refl (omega arith) put

-- a set entry
pub entry_filled : (x : SetEntry) (h at : ℕ) (out : List ℕ) {after : List ℕ} → at ≡ 40 + 8 * h → 5 + h + 1 ≤ length out → after ≡ bits_put out at (entry_bits x) → after ≡ placed (5 + h) (packed 1 (entry_bits x)) out
unfolding entry_bits
entry_filled x h at out e room put = filled 1 (5 + h) at (entry_bits x) out (bitlist_append (bitlist_bits 1 x.player) (bitlist_bits 7 x.moves)) (omega (arith, e)) room put

-- a payload has 32 bits
payload_are : (x : Payload) → BitList 32 (payload_bits x)
unfolding payload_bits
payload_are (Payload.Leaf payoff1 payoff2) = bitlist_append (bitlist_bits 16 _) (bitlist_bits 16 _)
payload_are (Payload.Decision set padding) = bitlist_append (bitlist_bits 12 _) (bitlist_bits 20 _)
payload_are (Payload.Chance moves padding) = bitlist_append (bitlist_bits 7 _) (bitlist_bits 25 _)
payload_are (Payload.Unknown kind moves padding) = bitlist_append (bitlist_bits 7 _) (bitlist_bits 25 _)

-- the fields of a node record, and its payload after them
pub node_filled : (x : NodeRecord) (from at kind : ℕ) (out : List ℕ) {front after : List ℕ} → kind ≡ number_in x.payload → at ≡ 8 * from → from + 8 ≤ length out → front ≡ bits_put out at (bits 2 kind ++ bits 12 x.parent ++ bits 6 x.place ++ bits 12 x.weight) → after ≡ bits_put front (at + 32) (payload_bits x.payload) → after ≡ placed from (packed 8 (node_bits x)) out
unfolding node_bits
node_filled x from at kind out k e room f g =
    let number = number_in x.payload in
    let fields = bits 2 number ++ bits 12 x.parent ++ bits 6 x.place ++ bits 12 x.weight in
    let payload = payload_bits x.payload in
    let size : length fields ≡ 32 = simp (length-append, length_bits) in
    let both : bits_put (bits_put out at fields) (at + 32) payload ≡ bits_put out at (fields ++ payload) = rw size at (put_twice out at fields payload) in
    filled 8 from at (node_bits x) out (bitlist_append (four 2 number 12 x.parent 6 x.place 12 x.weight) (payload_are x.payload)) e room (rw (g, f, k, both))

-- a header of a plan file
pub plan_header_filled : (x : PlanHeader) (out : List ℕ) {after : List ℕ} → 4 ≤ length out → after ≡ bits_put out 0 (plan_header_bits x) → after ≡ placed 0 (packed 4 (plan_header_bits x)) out
unfolding plan_header_bits
plan_header_filled x out room put = filled 4 0 0 (plan_header_bits x) out (four 4 x.edition 12 x.denominators.d1 12 x.denominators.d2 4 x.zeros) refl (omega arith) put
