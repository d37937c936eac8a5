-- Node records tested and put one after the other, and the payoffs of the leaves among them.
use Prim.Native.Nat.{ℕ, zero, suc, ◌+◌, ◌≤◌, ◌<◌}
use mathlib.Core.Path.{◌≡◌, refl, sym, ◌∙◌}
use mathlib.Core.Bool.{Bool, true, false, not, ◌&&◌, cond, and-true}
use mathlib.Core.List.{List}
use native.Mathlib.Omega.{arith}
use native.Mathlib.Nat.{add_assoc}
use native.Mathlib.Decide.{ℕ_discrete}
use lib.IntN.{ℤ}
use lib.ListN.{length, set, length-set}
use lib.Dec.{eqb}
use borrow.Author.Tests.{eq-eqb, ne_eqb}
use Rattle.algebra.specs.Bounded.{implies}
use Rattle.model.specs.Bits.{field}
use Rattle.model.specs.Game.{Game, Player, one, two, game_of, node_at, is_decision, is_chance}
use Rattle.model.specs.GameChecks.{padding_zero}
use Rattle.model.specs.Writing.{set_field, moves_field}
use Rattle.std.specs.Prelude.{Ok, Err}
use Rattle.checks.specs.declared.Refusal.TheVariants.{NodeForm}
use Rattle.records.specs.declared.game_file.NodeRecord.{NodeRecord}
use Rattle.records.specs.Records.{kind_of, set_in, moves_in, padding_in, payoff1_in, payoff2_in, payload_by, payload_of, NodeRead}
use Rattle.records.proofs.Records.{node_set_lem, node_moves_lem, node_payoff1, node_payoff2}
use Rattle.loaded.specs.Sections.{section_room, kind_section, payoff_section, payoffs_room}
use Rattle.loaded.specs.Rows.{Rows}
use Rattle.loaded.specs.Leaves.{leaves_below, leaves_of, leaf_of}
use Rattle.loaded.specs.Sets.{payload_number}
use Rattle.loaded.specs.Loaded.{NodesDecoded}
use Rattle.loaded.proofs.NodeReads.{neither}
use Rattle.loaded.proofs.Rows.{rows_none, rows_put, rows_next, rows_held}
use Rattle.loaded.proofs.Gathered.{next_one, next_none, leaf_payoff, leaves_few, count_none, count_more, count_all, leaf_place}
use Rattle.decoding.specs.Tests.{well_formed_of}
use Rattle.decoding.specs.Puts.{kind_put, payload_of_kind, node_put, payoffs_put, leaf_put, next_place}
use Rattle.decoding.specs.Decoding.{PayoffsLoaded, nodes_answer}
use Rattle.decoding.proofs.Filled.{Filled, filled_put, filled_row}

-- the padding of a record that begins at a bit
padded : (bytes : List ℕ) (at kind : ℕ) → eqb (padding_in (payload_of bytes (at + 32) kind)) 0 ≡ (implies (eqb kind 1) (eqb (field bytes (at + 44) 20) 0) && implies (eqb kind 2) (eqb (field bytes (at + 39) 25) 0))
unfolding padding_in kind_of payload_by payload_of implies
padded bytes at zero = refl
padded bytes at (suc zero) = rw (and-true, add_assoc)
padded bytes at (suc (suc zero)) = rw add_assoc
padded bytes at (suc (suc (suc k))) = sym (neither k _ _)

-- the model's test of check 6 for one node
abbrev pub well_formed_at : List ℕ → ℕ → Bool
well_formed_at bytes n = not (eqb ((game_of bytes).kind n) 3) && padding_zero bytes n

-- the five sections of node records
abbrev node_numbers : Game → (t n : ℕ) → ℕ
node_numbers g zero n = g.kind n
node_numbers g (suc zero) n = g.parent n
node_numbers g (suc (suc zero)) n = g.move n
node_numbers g (suc (suc (suc zero))) n = g.weight n
node_numbers g (suc (suc (suc (suc t)))) n = payload_number g n

-- the records below n are put
abbrev pub NodesPut : Game → (n : ℕ) → (before after : List ℕ) → Type 0
NodesPut g n before after = Filled kind_section 5 (node_numbers g) 0 n before after

-- a branch within the same branch
cond_twice : (b : Bool) (x y z : ℕ) → cond b (cond b x y) z ≡ cond b x z
cond_twice true x y z = refl
cond_twice false x y z = refl

-- One record, as it is read.
module _ (bytes : List ℕ) (n : ℕ) (x : NodeRecord) (R : NodeRead bytes n x) where
  -- the test of check 6
  pub well_formed_is : well_formed_of x ≡ well_formed_at bytes n
  unfolding well_formed_of padding_zero is_decision is_chance
  well_formed_is = rw (R.kind, R.payload, padded bytes (node_at bytes n))

  -- what its payload names or counts
  payload_is : payload_of_kind x ≡ payload_number (game_of bytes) n
  unfolding payload_of_kind payload_number set_field moves_field is_decision
  payload_is = rw (R.kind, node_set_lem bytes n x R, node_moves_lem bytes n x R) (cond_twice (eqb ((game_of bytes).kind n) 1) _ 0 _)

  -- every number of it fits 16 bits
  pub payload_fits : payload_of_kind x < 65536
  unfolding payload_of_kind
  payload_fits = go (eqb (kind_put x) 1)
    where
      go : (b : Bool) → cond b (set_in x.payload) (moves_in x.payload) < 65536
      go true = omega (arith, R.set_fits)
      go false = omega (arith, R.moves_fit)

  -- one more is put
  pub nodes_more : {before l k : List ℕ} → NodesPut (game_of bytes) n before l → n < section_room → k ≡ node_put x n l → NodesPut (game_of bytes) (n + 1) before k
  unfolding node_put
  nodes_more F v e =
      let kinds = filled_put (kind_put x) F (omega arith) v refl R.kind in
      let parents = filled_put x.parent kinds (omega arith) v refl R.parent in
      let places = filled_put x.place parents (omega arith) v refl R.place in
      let weights = filled_put x.weight places (omega arith) v refl R.weight in
      filled_row (filled_put (payload_of_kind x) weights (omega arith) v e payload_is)

-- all of them
pub nodes_decoded : {g : Game} {n : ℕ} {before l : List ℕ} → NodesPut g n before l → n ≡ g.nodes → n ≤ section_room → NodesDecoded g l
nodes_decoded F e few = record {
  kinds = rw e at (rows_held 0 F.rows (omega arith) few);
  parents = rw e at (rows_held 1 F.rows (omega arith) few);
  places = rw e at (rows_held 2 F.rows (omega arith) few);
  weights = rw e at (rows_held 3 F.rows (omega arith) few);
  payloads = rw e at (rows_held 4 F.rows (omega arith) few);
}

-- two stores put both payoffs
pub both_put : (payoff1 payoff2 : ℤ) (at : ℕ) (l : List ℤ) {m k : List ℤ} {y z : ℤ} → m ≡ set l (payoff_section one + at) y → k ≡ set m (payoff_section two + at) z → y ≡ payoff1 → z ≡ payoff2 → k ≡ payoffs_put payoff1 payoff2 at l
unfolding payoffs_put
both_put payoff1 payoff2 at l e f g h = rw (f, e, g, h)

-- the two sections of payoffs
abbrev payoffs_by : Game → (t k : ℕ) → ℤ
payoffs_by g zero k = g.payoff one (leaf_of g k)
payoffs_by g (suc t) k = g.payoff two (leaf_of g k)

-- The payoffs of the leaves below n are put, so many of them.
pub record PayoffsPut (g : Game) (n leaves : ℕ) (before after : List ℤ) : Type 0 where
  pub counted : leaves ≡ length (leaves_below g n)
  pub long : length after ≡ length before
  pub rows : Rows (payoff_section one) 2 (payoffs_by g) 0 leaves after

-- none yet
pub payoffs_none : {g : Game} {l : List ℤ} → payoffs_room ≤ length l → PayoffsPut g 0 0 l l
payoffs_none {g} room = record { counted = count_none g; long = refl; rows = rows_none room }

-- there is a place for one more
pub payoffs_few : {g : Game} {n leaves : ℕ} {before after : List ℤ} → PayoffsPut g n leaves before after → leaves ≤ n
payoffs_few {g} {n} P = omega (arith, P.counted, leaves_few g n)

-- one more record: the payoffs of a leaf are put, and any other node has none
module _ (bytes : List ℕ) (n : ℕ) (x : NodeRecord) (R : NodeRead bytes n x) where
  -- the next leaf's place
  place_of : {at : ℕ} → n < (game_of bytes).nodes → (game_of bytes).kind n ≡ 0 → at ≡ length (leaves_below (game_of bytes) n) → (p : Player) → (game_of bytes).payoff p n ≡ (game_of bytes).payoff p (leaf_of (game_of bytes) at)
  place_of l k e p = rw (e, leaf_place (game_of bytes) n l k)

  payoffs_leaf : {at : ℕ} {before l : List ℤ} → PayoffsPut (game_of bytes) n at before l → n < (game_of bytes).nodes → n < section_room → (game_of bytes).kind n ≡ 0 → PayoffsPut (game_of bytes) (n + 1) (at + 1) before (payoffs_put (payoff1_in x.payload) (payoff2_in x.payload) at l)
  unfolding payoffs_put
  payoffs_leaf {at} {before} {l} P v w k =
      let few : at < section_room = omega (arith, payoffs_few P) in
      let first = rows_put (payoff1_in x.payload) P.rows (omega arith) few refl (node_payoff1 bytes n x R ∙ leaf_payoff (game_of bytes) one n k ∙ place_of v k P.counted one) in
      record {
        counted = count_more (game_of bytes) n at (at + 1) P.counted (next_one (game_of bytes) n at k);
        long = simp length-set P.long;
        rows = rows_next (rows_put (payoff2_in x.payload) first (omega arith) few refl (node_payoff2 bytes n x R ∙ leaf_payoff (game_of bytes) two n k ∙ place_of v k P.counted two));
      }

  pub payoffs_more : {at next : ℕ} {before l k : List ℤ} → PayoffsPut (game_of bytes) n at before l → n < (game_of bytes).nodes → n < section_room → next ≡ next_place x at → k ≡ leaf_put x at l → PayoffsPut (game_of bytes) (n + 1) next before k
  unfolding next_place leaf_put
  payoffs_more {at} {next} {before} {l} {k} P v w e f = go (ℕ_discrete (kind_put x) 0)
    where
      go : Dec (kind_put x ≡ 0) → PayoffsPut (game_of bytes) (n + 1) next before k
      go (yes z) = rw (e, f, eq-eqb (kind_put x) 0 z) (payoffs_leaf P v w (sym R.kind ∙ z))
      go (no z) = rw (e, f, ne_eqb (kind_put x) 0 z) (record {
        counted = count_more (game_of bytes) n at at P.counted (next_none (game_of bytes) n at (λ y. z (R.kind ∙ y)));
        long = P.long;
        rows = P.rows;
      })

-- all of them
pub payoffs_loaded : {g : Game} {n leaves : ℕ} {before l : List ℤ} → PayoffsPut g n leaves before l → n ≡ g.nodes → n ≤ section_room → PayoffsLoaded g l
payoffs_loaded {g} {n} {leaves} {l = l} P e few = both
  where
    all : leaves ≡ length (leaves_of g)
    all = count_all g n leaves P.counted e

    rows : Rows (payoff_section one) 2 (payoffs_by g) 0 (length (leaves_of g)) l
    rows = rw all at P.rows

    both : PayoffsLoaded g l
    both one = rows_held 0 rows (omega arith) (omega (arith, all, payoffs_few P))
    both two = rows_held 1 rows (omega arith) (omega (arith, all, payoffs_few P))

-- the answer, by check 6
pub nodes_refused : (test : Bool) (leaves : ℕ) → false ≡ test → Err NodeForm ≡ nodes_answer test leaves
nodes_refused test leaves e = rw (← e)

pub nodes_counted : (test : Bool) {leaves all : ℕ} → true ≡ test → leaves ≡ all → Ok leaves ≡ nodes_answer test all
nodes_counted test e f = rw (← e, f)
