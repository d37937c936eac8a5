-- The tests of checks 7 and 8 of what is read of a node: they are the model's.
use Prim.Native.Nat.{ℕ, zero, suc, ◌≤◌, ◌<◌}
use mathlib.Core.Path.{◌≡◌, refl, sym}
use mathlib.Core.Bool.{Bool, true, false, not, ◌&&◌, cond, and-true}
use native.Mathlib.Omega.{arith}
use lib.Dec.{T, eqb, ltb}
use borrow.Author.Tests.{lt-ltb, le-ltb}
use Rattle.algebra.specs.Bounded.{implies}
use Rattle.model.specs.Game.{Game, is_leaf, is_decision, is_chance, node_moves}
use Rattle.model.specs.GameChecks.{is_move_count_of, payload_in_range, payloads_in_range_of, attached}
use Rattle.model.proofs.Tree.{leaf_moves}
use Rattle.model.proofs.GameRules.{payloads_iff}
use Rattle.records.specs.declared.game_file.Kind.{Kind}
use Rattle.records.specs.Records.{kind_of, kind_number}
use Rattle.loaded.specs.Sets.{payload_number}
use Rattle.loaded.proofs.NodeReads.{neither}
use Rattle.tree.specs.Games.{SetThere}
use Rattle.tree.specs.Tests.{in_range}

-- a decision's test
pub decision_ranged : {kind : Kind} (payload sets : ℕ) → kind ≡ Kind.Decision → ltb payload sets ≡ in_range (kind_number kind) payload sets
unfolding in_range implies kind_number
decision_ranged payload sets e = rw (e, and-true)

-- each kind's number is the one that its test asks for
ranged : (sets set moves kind : ℕ) → in_range (kind_number (kind_of kind)) (cond (eqb kind 1) set (cond (eqb kind 2) moves 0)) sets ≡ (implies (eqb kind 1) (ltb set sets) && implies (eqb kind 2) (is_move_count_of moves))
unfolding in_range implies kind_of kind_number
ranged sets set moves zero = refl
ranged sets set moves (suc zero) = refl
ranged sets set moves (suc (suc zero)) = refl
ranged sets set moves (suc (suc (suc k))) = sym (neither k _ _)

-- the test of check 7
pub in_range_is : (g : Game) (n : ℕ) {kind : Kind} {payload sets : ℕ} → kind ≡ kind_of (g.kind n) → payload ≡ payload_number g n → sets ≡ g.sets → in_range (kind_number kind) payload sets ≡ payload_in_range g n
unfolding payload_in_range payload_number is_decision is_chance
in_range_is g n k p s = rw (k, p, s) (ranged g.sets (g.node_set n) (g.chance_moves n) (g.kind n))

-- where it passes everywhere, a decision's set is there
pub set_there : {g : Game} {n : ℕ} → T (payloads_in_range_of g) → n < g.nodes → SetThere g n
set_there {g} {n} t l = record { inside = l; set = ((payloads_iff g).holds t).0 n l }

-- the test of check 8 at the root, by its parent and its move
pub attached_root : (g : Game) (n : ℕ) {p m : ℕ} → p ≡ g.parent n → m ≡ g.move n → n ≡ 0 → attached g n ≡ (eqb p 0 && eqb m 0)
unfolding attached
attached_root g zero a b e = rw (a, b)
attached_root g (suc n) a b e = absurd (omega arith)

-- at any other node, where its parent is not smaller
pub attached_not : (g : Game) (n : ℕ) {p : ℕ} → ¬ (n ≡ 0) → p ≡ g.parent n → n ≤ p → false ≡ attached g n
unfolding attached
attached_not g zero d a l = absurd (d refl)
attached_not g (suc n) {p} d a l = rw (← a, le-ltb p (suc n) l)

-- and where it is: a leaf has no move
pub attached_at : (g : Game) (n : ℕ) {p m moves : ℕ} → ¬ (n ≡ 0) → p ≡ g.parent n → m ≡ g.move n → p < n → moves ≡ node_moves g p → ltb m moves ≡ attached g n
unfolding attached
attached_at g zero d a b l e = absurd (d refl)
attached_at g (suc n) {p} {m} d a b l e = rw (← a, ← b, lt-ltb p (suc n) l, e) (inner (is_leaf g p) (ltb m (node_moves g p)) (λ t. rw (leaf_moves g p t) (le-ltb m 0 (omega arith))))
  where
    inner : (leaf moves : Bool) → (T leaf → moves ≡ false) → moves ≡ (not leaf && moves)
    inner true moves h = h tt
    inner false moves h = refl
