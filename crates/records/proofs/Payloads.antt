-- Payloads by kind.
use Prim.Native.Nat.{ℕ, ◌+◌, ◌*◌, ◌<◌, ◌^◌}
use mathlib.Core.Path.{◌≡◌, refl, sym, ap, ◌∙◌}
use mathlib.Core.List.{List}
use native.Mathlib.Omega.{arith}
use Rattle.model.specs.Bits.{field}
use lib.Dec.{eqb, eqb→eq}
use Rattle.algebra.proofs.Tests.{cond_no, eqb_make}
use Rattle.model.specs.Game.{game_of, set_at, node_at, is_decision, node_moves}
use Rattle.model.specs.Writing.{moves_field}
use Rattle.model.proofs.Tree.{decision_moves}
use Rattle.model.proofs.Bits.{field_fits}
use Rattle.records.specs.declared.game_file.Kind.{Kind}
use Rattle.records.specs.declared.game_file.Payload.{Payload}
use Rattle.records.specs.declared.game_file.NodeRecord.{NodeRecord}
use Rattle.records.specs.Records.{kind_number, kind_of, kind_in, set_in, moves_in, payload_by, payload_of, NodeRead}
use Rattle.records.proofs.KindNumbers.{kind_number_of, decision_kind}
use Rattle.records.proofs.Records.{node_moves_lem}

-- a payload is of the kind that it is read by
kind_by : (bytes : List ℕ) (at : ℕ) (kind : Kind) → kind_in (payload_by bytes at kind) ≡ kind
unfolding kind_in payload_by
kind_by bytes at Kind.Leaf = refl
kind_by bytes at Kind.Decision = refl
kind_by bytes at Kind.Chance = refl
kind_by bytes at Kind.Unknown = refl

-- its set fits its width, whatever the kind
set_by : (bytes : List ℕ) (at : ℕ) (kind : Kind) → set_in (payload_by bytes at kind) < 2 ^ 12
unfolding set_in payload_by
set_by bytes at Kind.Leaf = omega arith
set_by bytes at Kind.Decision = omega (arith, field_fits bytes at 12)
set_by bytes at Kind.Chance = omega arith
set_by bytes at Kind.Unknown = omega arith

-- so does its move count
moves_by : (bytes : List ℕ) (at : ℕ) (kind : Kind) → moves_in (payload_by bytes at kind) < 128
unfolding moves_in payload_by
moves_by bytes at Kind.Leaf = omega arith
moves_by bytes at Kind.Decision = omega arith
moves_by bytes at Kind.Chance = omega (arith, field_fits bytes at 7)
moves_by bytes at Kind.Unknown = omega arith

-- a decision's set is the model's
set_read : (bytes : List ℕ) (n : ℕ) (kind : Kind) → kind ≡ Kind.Decision → set_in (payload_by bytes (node_at bytes n + 32) kind) ≡ (game_of bytes).node_set n
unfolding set_in payload_by game_of
set_read bytes n kind e = rw e

-- a node's record is 64 bits long
pub node_place : (bytes : List ℕ) (records n : ℕ) → records ≡ node_at bytes 0 → records + 64 * n ≡ node_at bytes n
unfolding node_at
node_place bytes records n e = omega arith

-- the records begin within the first 33,000 bits
pub node_bound : (bytes : List ℕ) → node_at bytes 0 < 33000
unfolding node_at set_at
node_bound bytes = omega (arith, field_fits bytes 16 12)

-- fields read from a node's place on are its record
pub node_read : (bytes : List ℕ) (n at number parent place weight : ℕ) (kind : Kind) (payload : Payload) → at ≡ node_at bytes n → number ≡ field bytes at 2 → kind ≡ kind_of number → parent ≡ field bytes (at + 2) 12 → place ≡ field bytes (at + 14) 6 → weight ≡ field bytes (at + 20) 12 → payload ≡ payload_by bytes (at + 32) kind → NodeRead bytes n (record { parent = parent; place = place; weight = weight; payload = payload })
unfolding game_of payload_of
node_read bytes n at number parent place weight kind payload e m k r s w p =
    let kind_is : kind_in payload ≡ kind_of number = ap kind_in p ∙ kind_by bytes (at + 32) kind ∙ k in
    let fits : number < 4 = omega (arith, m, field_fits bytes at 2) in
    let number_is : kind_number (kind_in payload) ≡ number = ap kind_number kind_is ∙ kind_number_of number fits in
    let payload_is : payload ≡ payload_by bytes (node_at bytes n + 32) kind = p ∙ ap (λ (i : ℕ). payload_by bytes (i + 32) kind) e in
    record {
      kind = number_is ∙ m ∙ ap (λ (i : ℕ). field bytes i 2) e;
      parent = r ∙ ap (λ (i : ℕ). field bytes (i + 2) 12) e;
      place = s ∙ ap (λ (i : ℕ). field bytes (i + 14) 6) e;
      weight = w ∙ ap (λ (i : ℕ). field bytes (i + 20) 12) e;
      payload = payload_is ∙ ap (payload_by bytes (node_at bytes n + 32)) (k ∙ ap kind_of (m ∙ ap (λ (i : ℕ). field bytes i 2) e));
      set = λ d. ap set_in payload_is ∙ set_read bytes n kind (k ∙ sym kind_is ∙ d);
      kind_fits = rw number_is fits;
      parent_fits = omega (arith, field_fits bytes (at + 2) 12);
      place_fits = omega (arith, field_fits bytes (at + 14) 6);
      weight_fits = omega (arith, field_fits bytes (at + 20) 12);
      set_fits = rw p (set_by bytes (at + 32) kind);
      moves_fit = rw p (moves_by bytes (at + 32) kind);
    }

-- a decision has its set's moves
pub decision_count : {bytes : List ℕ} {n set moves : ℕ} {r : NodeRecord} → NodeRead bytes n r → kind_in r.payload ≡ Kind.Decision → set_in r.payload ≡ set → moves ≡ (game_of bytes).set_moves set → moves ≡ node_moves (game_of bytes) n
unfolding is_decision kind_number
decision_count {bytes} {n} R d s m =
    let g = game_of bytes in
    let one : g.kind n ≡ 1 = sym R.kind ∙ ap kind_number d in
    m ∙ ap g.set_moves (sym s ∙ R.set d) ∙ sym (decision_moves g n (eqb_make (g.kind n) 1 one))

-- any other node has what its payload says
pub other_count : {bytes : List ℕ} {n : ℕ} {r : NodeRecord} {x : Payload} → NodeRead bytes n r → r.payload ≡ x → ¬ (kind_in x ≡ Kind.Decision) → moves_in x ≡ node_moves (game_of bytes) n
unfolding node_moves is_decision moves_field
other_count {bytes} {n} {r} R e d =
    ap moves_in (sym e)
    ∙ node_moves_lem bytes n r R
    ∙ sym (cond_no (eqb ((game_of bytes).kind n) 1) _ _ (λ t. d (ap kind_in (sym e) ∙ decision_kind _ (R.kind ∙ eqb→eq ((game_of bytes).kind n) 1 t))))
