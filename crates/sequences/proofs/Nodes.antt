-- What the sections say of a node: whether it is a decision, of which set, and who moves there.
use Prim.Native.Nat.{ℕ, ◌+◌, ◌<◌}
use mathlib.Core.Path.{◌≡◌, refl, sym, ap, ◌∙◌, subst}
use mathlib.Core.Bool.{Bool, true, false, cond}
use mathlib.Core.List.{List}
use native.Mathlib.Omega.{arith}
use lib.Dec.{T}
use mir.Facts.{yes_and}
use Rattle.std.specs.Prelude.{Option, Some, None}
use Rattle.algebra.specs.Arrays.{item}
use Rattle.algebra.proofs.Tests.{T→true, not→false, eqb_make}
use Rattle.model.specs.Game.{Game, Player, is_decision, owns}
use Rattle.model.specs.Sequences.{acts}
use Rattle.model.proofs.Tree.{acts_parts, decision_kind}
use Rattle.loaded.specs.Sections.{kind_section, payload_section}
use Rattle.loaded.specs.Rooted.{Rooted}
use Rattle.loaded.specs.Loaded.{Decoded}
use Rattle.loaded.proofs.NodeReads.{kind_read, set_read}
use Rattle.records.specs.declared.game_file.Kind.{Kind}
use Rattle.records.specs.Records.{kind_of}
use Rattle.records.proofs.KindNumbers.{decision_number}
use Rattle.sequences.specs.Sets.{set_of_node}

-- node n is a decision of set h
pub record Decision (g : Game) (n h : ℕ) : Type 0 where
  pub is : T (is_decision g n)
  pub set : h ≡ g.node_set n
  pub below : h < g.sets

-- no decision: nobody moves there
pub no_decision : (g : Game) (p : Player) (n : ℕ) → ¬ T (is_decision g n) → ¬ T (acts g p n)
no_decision g p n d t = d (acts_parts g p n t).0

module _ {g : Game} {n h : ℕ} (D : Decision g n h) (p : Player) where
  -- the set's player moves there
  pub own_decision : T (owns g p h) → T (acts g p n)
  unfolding acts
  own_decision o = yes_and (is_decision g n) (owns g p (g.node_set n)) D.is (subst (λ (k : ℕ). T (owns g p k)) D.set o)

  -- and not the other
  pub other_decision : ¬ T (owns g p h) → ¬ T (acts g p n)
  other_decision o t = o (subst (λ (k : ℕ). T (owns g p k)) (sym D.set) (acts_parts g p n t).1)

-- 1 stands for a decision
one_decides : kind_of 1 ≡ Kind.Decision
unfolding kind_of
one_decides = refl

-- The kind of a node is read.
module _ {g : Game} {l : List ℕ} (D : Decoded g l) {n number : ℕ} {kind : Kind} (b : n < g.nodes) (k : number ≡ item l (kind_section + n)) (read : kind ≡ kind_of number) where
  -- a decision has the set that is read
  pub set_here : {h : ℕ} → kind ≡ Kind.Decision → h ≡ item l (payload_section + n) → Some h ≡ set_of_node g n
  unfolding set_of_node is_decision
  set_here d e =
      let is : g.kind n ≡ 1 = sym (kind_read D b) ∙ sym k ∙ decision_number _ (sym read ∙ d) in
      rw (T→true (is_decision g n) (eqb_make (g.kind n) 1 is), e ∙ set_read D b is)

  -- any other node has none
  pub set_none : ¬ (kind ≡ Kind.Decision) → None ≡ set_of_node g n
  unfolding set_of_node
  set_none other = rw (not→false (is_decision g n) (λ t. other (read ∙ ap kind_of (k ∙ kind_read D b ∙ decision_kind g n t) ∙ one_decides)))

-- where a set is given of node n, the node is a decision of it
pub decision_of : {g : Game} {n h : ℕ} {r : Option ℕ} → r ≡ set_of_node g n → Rooted g → n < g.nodes → r ≡ Some h → Decision g n h
unfolding set_of_node
decision_of {g} {n} {h} asked R b some = go (is_decision g n) refl (sym some ∙ asked)
  where
    go : (t : Bool) → is_decision g n ≡ t → Some h ≡ cond t (Some (g.node_set n)) None → Decision g n h
    go true d e =
        let is : T (is_decision g n) = rw d tt in
        let set : h ≡ g.node_set n = cc in
        record { is = is; set = set; below = omega (arith, set, R.decision_set n b (decision_kind g n is)) }
    go false d e = absurd cc

-- and where none is, it is no decision
pub no_set : (g : Game) (n : ℕ) {r : Option ℕ} → r ≡ set_of_node g n → r ≡ None → ¬ T (is_decision g n)
unfolding set_of_node
no_set g n asked none t =
    let e : Some (g.node_set n) ≡ None = rw (T→true (is_decision g n) t) at (sym asked ∙ none) in
    absurd cc
