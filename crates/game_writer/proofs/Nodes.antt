-- The records of nodes, and how many bits each has.
use Prim.Native.Nat.{ℕ, zero, suc, ◌*◌}
use mathlib.Core.Path.{◌≡◌, refl, ap, ◌∙◌}
use lib.ListN.{length, length-append}
use Rattle.algebra.specs.Arrays.{item}
use Rattle.model.specs.Writing.{GameFields, set_bits, payload_bits, node_bits}
use Rattle.model.proofs.Bits.{length_bits}
use Rattle.records.specs.declared.game_file.NodeRecord.{NodeRecord}
use Rattle.records.specs.Records as Records
use Rattle.game_writer.specs.Nodes.{payload_by, node_of}

-- the number of a payload's kind is the node's
number_is : (t : GameFields) (kind n : ℕ) → item t.kinds n ≡ kind → Records.number_in (payload_by t n (Records.kind_of kind)) ≡ kind
unfolding Records.number_in Records.kind_of payload_by
number_is t zero n e = refl
number_is t (suc zero) n e = refl
number_is t (suc (suc zero)) n e = refl
number_is t (suc (suc (suc k))) n e = e

-- the bits of a node's payload, by its kind
payload_is : (t : GameFields) (kind n : ℕ) → Records.payload_bits (payload_by t n (Records.kind_of kind)) ≡ payload_bits t kind n
unfolding Records.payload_bits Records.kind_of payload_by payload_bits
payload_is t zero n = refl
payload_is t (suc zero) n = refl
payload_is t (suc (suc zero)) n = refl
payload_is t (suc (suc (suc k))) n = refl

-- the bits of node n's record are the model's
pub node_is : (t : GameFields) (n : ℕ) → Records.node_bits (node_of t n) ≡ node_bits t n
unfolding Records.node_bits node_bits
node_is t n = rw (number_is t (item t.kinds n) n refl, payload_is t (item t.kinds n) n) refl

-- the record that is made of node n
pub record_made : (t : GameFields) (n : ℕ) (x : NodeRecord) → x ≡ node_of t n → Records.node_bits x ≡ node_bits t n
record_made t n x e = ap Records.node_bits e ∙ node_is t n

-- 32 bits of payload
payload_width : (t : GameFields) (kind n : ℕ) → length (payload_bits t kind n) ≡ 32
unfolding payload_bits
payload_width t zero n = simp (length-append, length_bits)
payload_width t (suc zero) n = simp (length-append, length_bits)
payload_width t (suc (suc k)) n = simp (length-append, length_bits)

-- 8 bytes of node record
pub node_width : (t : GameFields) (n : ℕ) → length (node_bits t n) ≡ 8 * 8
unfolding node_bits
node_width t n = simp (length-append, length_bits, payload_width)

-- 1 byte of set entry
pub set_width : (t : GameFields) (h : ℕ) → length (set_bits t h) ≡ 8 * 1
unfolding set_bits
set_width t h = simp (length-append, length_bits)
