-- Round trips of the game file: what the writer takes is read back, and what is read is written again.
use Prim.Native.Nat.{ℕ, zero, suc, ◌+◌, ◌*◌, ◌<◌}
use mathlib.Core.Path.{◌≡◌, refl, sym, ap, subst, ◌∙◌}
use mathlib.Core.Logic.{◌↔◌}
use mathlib.Core.Bool.{Bool, true, false, cond}
use mathlib.Core.List.{List, [], ◌∷◌, ◌++◌, append_assoc, append-nil}
use native.Mathlib.Omega.{arith}
use lib.Dec.{T, eqb, lit<}
use lib.ListN.{length}
use lib.IntN.{ℤ, pos}
use lib.Pow.{pow_pos}
use Rattle.algebra.specs.Arrays.{item, item_z}
use Rattle.algebra.specs.Bounded.{join_to, list_to}
use Rattle.algebra.proofs.Lists.{length_list_to, list_to_at, list_to_is}
use Rattle.model.specs.Bits.{field, pack, signed, twos_complement}
use Rattle.model.specs.Game.{Game, game_of, set_at, node_at, payoff_at, Player, one, two, player_of, player_bit, is_leaf, is_decision, is_chance}
use Rattle.model.specs.Writing.{GameFields, player_field, set_field, moves_field, payoff_field, fields_of, set_count, node_count, set_bits, payload_bits, node_bits, header_bits, game_bytes, game_fields_fit}
use Rattle.model.specs.Rules.{GameFile}
use Rattle.model.specs.Demand2.{IsBytes}
use Rattle.model.proofs.Tree.{bit_below, bit_back}
use Rattle.model.proofs.Bits.{field_fits, signed_fits, twos_fits, twos_signed, signed_twos}
use Rattle.model.proofs.FieldRules.{FitsWidth, InRange, zero_in_range, Column, column, Lacks, kind_below, FieldRules, game_fields_iff}
use Rattle.model.proofs.Spelling.{BitList, bitlist_append, bitlist_cells, bitlist_records, Spells, spells_append, Cell, cell_bits, cells_width, CellsFit, Holds, spells_cells, spells_records, pack_spells, length_pack, pack_is}

module _ (t : GameFields) where
  -- the header
  abbrev header_cells : List Cell
  header_cells = (4, 1) ∷ (12, node_count t) ∷ (12, set_count t) ∷ (12, t.root_weight) ∷ []

  -- set entry h
  abbrev set_cells : ℕ → List Cell
  set_cells h = (1, item t.set_players h) ∷ (7, item t.set_moves h) ∷ []

  -- a payload, by the node's kind
  abbrev payload_cells : (kind n : ℕ) → List Cell
  payload_cells zero n = (16, twos_complement 16 (item_z t.payoffs1 n)) ∷ (16, twos_complement 16 (item_z t.payoffs2 n)) ∷ []
  payload_cells (suc zero) n = (12, item t.node_sets n) ∷ (20, 0) ∷ []
  payload_cells (suc (suc k)) n = (7, item t.chance_moves n) ∷ (25, 0) ∷ []

  -- node record n
  abbrev node_cells : ℕ → List Cell
  node_cells n = (2, item t.kinds n) ∷ (12, item t.parents n) ∷ (6, item t.moves n) ∷ (12, item t.weights n) ∷ payload_cells (item t.kinds n) n

  -- the header and the set entries
  front_bits : List ℕ
  front_bits = cell_bits header_cells ++ join_to (set_count t) (λ h. cell_bits (set_cells h))

  -- the bits of the file
  pub game_bits : List ℕ
  game_bits = front_bits ++ join_to (node_count t) (λ n. cell_bits (node_cells n))

  -- a payload's bits are its cells'
  payload_is : (kind n : ℕ) → payload_bits t kind n ≡ cell_bits (payload_cells kind n)
  unfolding payload_bits
  payload_is zero n = simp append-nil
  payload_is (suc zero) n = simp append-nil
  payload_is (suc (suc k)) n = simp append-nil

  -- the file is these bits, packed
  pub game_is : game_bytes t ≡ pack game_bits
  unfolding game_bytes header_bits set_bits node_bits game_bits front_bits
  game_is = λ i. pack (header i ++ join_to (set_count t) (λ h. set h i) ++ join_to (node_count t) (λ n. node n i))
    where
      header : header_bits t ≡ cell_bits header_cells
      header = simp (append_assoc, append-nil)

      set : (h : ℕ) → set_bits t h ≡ cell_bits (set_cells h)
      set h = simp append-nil

      node : (n : ℕ) → node_bits t n ≡ cell_bits (node_cells n)
      node n = simp (payload_is, append_assoc)

  -- a node record has 64 bits, whatever its kind
  node_width : (n : ℕ) → cells_width (node_cells n) ≡ 64
  node_width n = rw (payload (item t.kinds n))
    where
      payload : (kind : ℕ) → cells_width (payload_cells kind n) ≡ 32
      payload zero = refl
      payload (suc zero) = refl
      payload (suc (suc k)) = refl

  -- how many bits stand before the nodes
  bitlist_front : BitList (40 + 8 * set_count t) front_bits
  unfolding front_bits
  bitlist_front = bitlist_append (bitlist_cells header_cells refl) (bitlist_records set_cells (λ h. refl) (set_count t))

  -- how many bits the file has
  pub bitlist_game : BitList (40 + 8 * set_count t + 64 * node_count t) game_bits
  unfolding game_bits
  bitlist_game = bitlist_append bitlist_front (bitlist_records node_cells node_width (node_count t))

  -- "5 + H + 8N bytes"
  pub length_game : length (game_bytes t) ≡ 5 + set_count t + 8 * node_count t
  length_game = rw game_is (length_pack game_bits bitlist_game ∙ omega arith)

-- the fields of the file are the cells of t
record Reads (bytes : List ℕ) (t : GameFields) : Type 0 where
  header : Holds bytes 0 0 (header_cells t)
  set : (h : ℕ) → h < set_count t → Holds bytes (set_at h) 0 (set_cells t h)
  node : (n : ℕ) → n < node_count t → Holds bytes (node_at bytes n) 0 (node_cells t n)

-- where node n's record begins, by the number of sets
node_place : (bytes : List ℕ) (sets : ℕ) → field bytes 16 12 ≡ sets → (n : ℕ) → node_at bytes n ≡ 0 + (40 + 8 * sets) + 64 * n
unfolding node_at set_at
node_place bytes sets e n = omega arith

module _ (t : GameFields) (fit : FieldRules t) where
  -- the header's numbers fit
  header_fit : CellsFit (header_cells t)
  header_fit = (lit< tt, (fit.nodes, (fit.sets, (fit.root_weight, tt))))

  -- a set entry's numbers fit
  set_fit : (h : ℕ) → h < set_count t → CellsFit (set_cells t h)
  set_fit h l = (fit.set_players h, (fit.set_moves.1 h, tt))

  -- a payload's numbers fit
  payload_fit : (kind n : ℕ) → CellsFit (payload_cells t kind n)
  payload_fit zero n = (twos_fits 16 (item_z t.payoffs1 n) (fit.payoffs1.1 n), (twos_fits 16 (item_z t.payoffs2 n) (fit.payoffs2.1 n), tt))
  payload_fit (suc zero) n = (fit.node_sets.1 n, (pow_pos 20, tt))
  payload_fit (suc (suc k)) n = (fit.chance_moves.1 n, (pow_pos 25, tt))

  -- a node record's numbers fit
  node_fit : (n : ℕ) → n < node_count t → CellsFit (node_cells t n)
  node_fit n l =
      let kind = item t.kinds n in
      let fits : kind < 4 = omega (arith, kind_below t kind n (fit.kinds n l)) in
      (fits, (fit.parents.1 n, (fit.moves.1 n, (fit.weights.1 n, payload_fit kind n))))

  -- a file has these bits where its fields are the cells
  spells_game : (bytes : List ℕ) → Spells bytes 0 (game_bits t) ↔ Reads bytes t
  unfolding game_bits front_bits set_at
  spells_game bytes =
      let whole = spells_append bytes 0 (40 + 8 * set_count t) (bitlist_front t) in
      let front = spells_append bytes 0 40 (bitlist_cells (header_cells t) refl) in
      let header = spells_cells bytes 0 0 (header_cells t) header_fit in
      let sets = spells_records bytes 40 8 (set_cells t) (set_count t) (λ h. refl) set_fit in
      let nodes = spells_records bytes (0 + (40 + 8 * set_count t)) 64 (node_cells t) (node_count t) (node_width t) node_fit in (
        (λ s.
            let (before, rest) = whole.0 s in
            let (first, second) = front.0 before in
            let holds = header.0 first in
            record { header = holds; set = sets.0 second; node = λ n l. subst (λ (at : ℕ). Holds bytes at 0 (node_cells t n)) (sym (node_place bytes (set_count t) holds.1.1.0 n)) (nodes.0 rest n l) }),
        (λ r. whole.1 (front.1 (header.1 r.header, sets.1 r.set), nodes.1 (λ n l. subst (λ (at : ℕ). Holds bytes at 0 (node_cells t n)) (node_place bytes (set_count t) r.header.1.1.0 n) (r.node n l)))),
      )

-- what node n of the game has by its kind is what the lists have
abbrev Agrees : (g : Game) (t : GameFields) (kind n : ℕ) → Type 0
Agrees g t kind n =
    (cond (eqb kind 1) (g.node_set n) 0 ≡ item t.node_sets n)
    × (cond (eqb kind 2) (g.chance_moves n) 0 ≡ item t.chance_moves n)
    × (cond (eqb kind 0) (g.payoff one n) (pos 0) ≡ item_z t.payoffs1 n)
    × (cond (eqb kind 0) (g.payoff two n) (pos 0) ≡ item_z t.payoffs2 n)

module _ (bytes : List ℕ) (p : Player) (n : ℕ) where
  -- where the payoff stands
  abbrev payoff_place : ℕ
  payoff_place = node_at bytes n + payoff_at p

  -- a payoff that is written is read back
  payoff_read : (z : ℤ) → InRange 16 z → field bytes payoff_place 16 ≡ twos_complement 16 z → (game_of bytes).payoff p n ≡ z
  unfolding game_of
  payoff_read z range e = ap (signed 16) e ∙ signed_twos 15 z range

  -- a payoff that is read is written again
  payoff_held : {z : ℤ} → (game_of bytes).payoff p n ≡ z → field bytes payoff_place 16 ≡ twos_complement 16 z
  unfolding game_of
  payoff_held e = sym (twos_signed 16 (field bytes payoff_place 16) (field_fits bytes payoff_place 16)) ∙ ap (twos_complement 16) e

  -- a payoff that is read is in range
  payoff_fits : InRange 16 ((game_of bytes).payoff p n)
  unfolding game_of
  payoff_fits = signed_fits 16 (field bytes payoff_place 16) (field_fits bytes payoff_place 16)

module _ (t : GameFields) (fit : FieldRules t) (bytes : List ℕ) where
  -- a payload that is written is read back
  payload_read : (kind n : ℕ) → Lacks t kind n → Holds bytes (node_at bytes n) 32 (payload_cells t kind n) → Agrees (game_of bytes) t kind n
  unfolding game_of
  payload_read zero n lacks holds = (sym lacks.0, sym lacks.1, payoff_read bytes one n _ (fit.payoffs1.1 n) holds.0, payoff_read bytes two n _ (fit.payoffs2.1 n) holds.1.0)
  payload_read (suc zero) n lacks holds = (holds.0, sym lacks.0.0, sym lacks.0.1, sym lacks.1)
  payload_read (suc (suc zero)) n lacks holds = (sym lacks.0.0, holds.0, sym lacks.0.1, sym lacks.1)
  payload_read (suc (suc (suc k))) n lacks holds = absurd lacks

  -- what is read of the cells of t is t
  fields_read : Reads bytes t → fields_of (game_of bytes) ≡ t
  unfolding fields_of player_field set_field moves_field payoff_field game_of is_leaf is_decision is_chance set_count node_count
  fields_read r = λ i. record {
    root_weight = r.header.1.1.1.0 i;
    set_players = list_to_is 0 _ t.set_players sets refl (λ h l. ap (λ (x : ℕ). player_bit (player_of x)) (r.set h l).0 ∙ bit_back (item t.set_players h) (fit.set_players h)) i;
    set_moves = list_to_is 0 _ t.set_moves sets fit.set_moves.0 (λ h l. (r.set h l).1.0) i;
    kinds = list_to_is 0 _ t.kinds nodes refl (λ n l. (r.node n l).0) i;
    parents = list_to_is 0 _ t.parents nodes fit.parents.0 (λ n l. (r.node n l).1.0) i;
    moves = list_to_is 0 _ t.moves nodes fit.moves.0 (λ n l. (r.node n l).1.1.0) i;
    weights = list_to_is 0 _ t.weights nodes fit.weights.0 (λ n l. (r.node n l).1.1.1.0) i;
    node_sets = list_to_is 0 _ t.node_sets nodes fit.node_sets.0 (λ n l. (payload n l).0) i;
    chance_moves = list_to_is 0 _ t.chance_moves nodes fit.chance_moves.0 (λ n l. (payload n l).1) i;
    payoffs1 = list_to_is (pos 0) _ t.payoffs1 nodes fit.payoffs1.0 (λ n l. (payload n l).2) i;
    payoffs2 = list_to_is (pos 0) _ t.payoffs2 nodes fit.payoffs2.0 (λ n l. (payload n l).3) i;
  }
    where
      sets : (game_of bytes).sets ≡ set_count t
      sets = r.header.1.1.0

      nodes : (game_of bytes).nodes ≡ node_count t
      nodes = r.header.1.0

      payload : (n : ℕ) → n < node_count t → Agrees (game_of bytes) t ((game_of bytes).kind n) n
      payload n l = rw (r.node n l).0 (payload_read (item t.kinds n) n (fit.kinds n l) (r.node n l).1.1.1.1)

module _ (g : Game) where
  -- the lists show H
  pub set_count_lem : set_count (fields_of g) ≡ g.sets
  unfolding fields_of set_count
  set_count_lem = length_list_to g.sets (player_field g)

  -- the lists show N
  pub node_count_lem : node_count (fields_of g) ≡ g.nodes
  unfolding fields_of node_count
  node_count_lem = length_list_to g.nodes g.kind

  -- what node n of the game has by its kind is what its lists have
  fields_agree : (n : ℕ) → n < g.nodes → Agrees g (fields_of g) (g.kind n) n
  unfolding fields_of player_field set_field moves_field payoff_field is_leaf is_decision is_chance
  fields_agree n l = (sym (list_to_at 0 _ _ n l), sym (list_to_at 0 _ _ n l), sym (list_to_at (pos 0) _ _ n l), sym (list_to_at (pos 0) _ _ n l))

-- a test chooses between two that have the property
cond_all : {A : Type 0} (P : A → Type 0) (b : Bool) {x y : A} → P x → P y → P (cond b x y)
cond_all P true p q = p
cond_all P false p q = q

-- the fields of a file
abbrev fields_in : List ℕ → GameFields
fields_in bytes = fields_of (game_of bytes)

module _ (bytes : List ℕ) (file : GameFile bytes) where
  -- a payload that is read has nothing that its kind lacks, and is written again
  payload_held : (kind n : ℕ) → n < (game_of bytes).nodes → (game_of bytes).kind n ≡ kind → kind < 3 → Agrees (game_of bytes) (fields_in bytes) kind n → Lacks (fields_in bytes) kind n × Holds bytes (node_at bytes n) 32 (payload_cells (fields_in bytes) kind n)
  unfolding game_of
  payload_held zero n l e b a = ((sym a.0, sym a.1), (payoff_held bytes one n a.2, (payoff_held bytes two n a.3, tt)))
  payload_held (suc zero) n l e b a = (((sym a.1, sym a.2), sym a.3), (a.0, (file.decision_zeros n l e, tt)))
  payload_held (suc (suc zero)) n l e b a = (((sym a.0, sym a.2), sym a.3), (a.1, (file.chance_zeros n l e, tt)))
  payload_held (suc (suc (suc k))) n l e b a = absurd (omega arith)

  -- the same of the kind that the lists show
  kind_held : (n : ℕ) → n < (game_of bytes).nodes → let kind = item (fields_in bytes).kinds n in Lacks (fields_in bytes) kind n × Holds bytes (node_at bytes n) 32 (payload_cells (fields_in bytes) kind n)
  unfolding fields_of
  kind_held n l =
      let g = game_of bytes in
      rw (list_to_at 0 g.nodes g.kind n l) (payload_held (g.kind n) n l refl (file.rules.kinds n l) (fields_agree g n l))

  -- the writer takes the fields of the file
  fields_fit : FieldRules (fields_in bytes)
  unfolding fields_of player_field set_field moves_field payoff_field game_of
  fields_fit = record {
    sets = rw (set_count_lem g) (field_fits bytes 16 12);
    nodes = rw (node_count_lem g) (field_fits bytes 4 12);
    root_weight = field_fits bytes 28 12;
    set_players = (column (FitsWidth 1) 0 g.sets _ (pow_pos 1) (λ h. bit_below (g.set_player h))).1;
    set_moves = rw (set_count_lem g) (column (FitsWidth 7) 0 g.sets _ (pow_pos 7) (λ h. field_fits bytes (set_at h + 1) 7));
    parents = numbers 12 _ (λ n. field_fits bytes (node_at bytes n + 2) 12);
    moves = numbers 6 _ (λ n. field_fits bytes (node_at bytes n + 14) 6);
    weights = numbers 12 _ (λ n. field_fits bytes (node_at bytes n + 20) 12);
    node_sets = numbers 12 _ (λ n. cond_all (FitsWidth 12) (is_decision g n) (field_fits bytes (node_at bytes n + 32) 12) (pow_pos 12));
    chance_moves = numbers 7 _ (λ n. cond_all (FitsWidth 7) (is_chance g n) (field_fits bytes (node_at bytes n + 32) 7) (pow_pos 7));
    payoffs1 = payoffs one;
    payoffs2 = payoffs two;
    kinds = λ n l. (kind_held n (rw (node_count_lem g) at l)).0;
  }
    where
      g : Game
      g = game_of bytes

      numbers : (width : ℕ) (f : ℕ → ℕ) → ((n : ℕ) → FitsWidth width (f n)) → Column (FitsWidth width) 0 (node_count (fields_of g)) (list_to g.nodes f)
      numbers width f fits = rw (node_count_lem g) (column (FitsWidth width) 0 g.nodes f (pow_pos width) fits)

      payoffs : (p : Player) → Column (InRange 16) (pos 0) (node_count (fields_of g)) (list_to g.nodes (payoff_field g p))
      payoffs p = rw (node_count_lem g) (column (InRange 16) (pos 0) g.nodes (payoff_field g p) (zero_in_range 16) (λ n. cond_all (InRange 16) (is_leaf g n) (payoff_fits bytes p n) (zero_in_range 16)))

  -- the fields of the file are the cells that the writer makes of them
  fields_held : Reads bytes (fields_in bytes)
  unfolding fields_of player_field game_of
  fields_held =
      let g = game_of bytes in
      record {
        header = (file.edition, (sym (node_count_lem g), (sym (set_count_lem g), (refl, tt))));
        set = λ h l.
            let v = rw (set_count_lem g) at l in
            let player = bit_back (field bytes (set_at h) 1) (field_fits bytes (set_at h) 1) in
            (sym (list_to_at 0 _ _ h v ∙ player), (sym (list_to_at 0 _ _ h v), tt));
        node = λ n l.
            let v = rw (node_count_lem g) at l in
            (sym (list_to_at 0 _ _ n v), (sym (list_to_at 0 _ _ n v), (sym (list_to_at 0 _ _ n v), (sym (list_to_at 0 _ _ n v), (kind_held n v).1))));
      }

-- what the writer takes is read back as it was given
pub game_fields_trip : (t : GameFields) → T (game_fields_fit t) → fields_of (game_of (game_bytes t)) ≡ t
game_fields_trip t ok =
    let fit = (game_fields_iff t).holds ok in
    fields_read t fit (game_bytes t) ((spells_game t fit (game_bytes t)).0 (rw (game_is t) (pack_spells (game_bits t) (bitlist_game t))))

-- the fields of a file that obeys the rules are taken, and give its bytes again
pub game_file_trip : (bytes : List ℕ) → IsBytes bytes → GameFile bytes → T (game_fields_fit (fields_of (game_of bytes))) × (game_bytes (fields_of (game_of bytes)) ≡ bytes)
game_file_trip bytes small file =
    let t = fields_in bytes in
    let fit = fields_fit bytes file in
    let size : 40 + 8 * set_count t + 64 * node_count t ≡ 8 * length bytes = omega (arith, file.size, set_count_lem (game_of bytes), node_count_lem (game_of bytes)) in (
      (game_fields_iff t).passes fit,
      game_is t ∙ pack_is bytes (game_bits t) small (bitlist_game t) (omega arith) ((spells_game t fit bytes).1 (fields_held bytes file)) (λ i l m. absurd (omega arith)),
    )
