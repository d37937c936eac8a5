-- Laws of check 11: depths, from the root on.
use Prim.Native.Nat.{ℕ, zero, suc, ◌+◌, ◌≤◌, ◌<◌}
use mathlib.Core.Path.{◌≡◌, refl, sym, ap, ◌∙◌}
use mathlib.Core.Bool.{Bool}
use mathlib.Core.List.{List}
use native.Mathlib.Omega.{arith}
use lib.ListN.{length, get_or, set, length-set}
use lib.Seq.{get_or-set_same, get_or-set_other}
use lib.Dec.{leb, leb→le}
use borrow.Author.Count.{below_none, below_more}
use borrow.Author.Tests.{le-leb, lt-leb}
use Rattle.algebra.proofs.Tests.{true→T}
use Rattle.algebra.proofs.Searches.{all_to_at}
use Rattle.model.specs.Limits.{count_limit}
use Rattle.model.specs.Game.{Game}
use Rattle.model.specs.GameChecks.{path_limit, depth_in, depth, paths_in_limit_of}
use Rattle.std.specs.Prelude.{Ok, Err}
use Rattle.checks.specs.declared.Refusal.TheVariants.{PathLength}
use Rattle.checks.specs.Answers.{checked_of}
use Rattle.loaded.specs.Rooted.{Rooted}
use Rattle.checks.proofs.Passes.{Passed, passed_none, passed_more, passed_not, passed_all}

-- the test of check 11 for one node
abbrev in_limit : Game → ℕ → Bool
in_limit g n = leb (depth g n) 255

-- the nodes below n pass it, the root among them, and the array has their depths
pub record Measured (g : Game) (n : ℕ) (depths : List ℕ) : Type 0 where
  pub some : 0 < n
  pub passed : Passed (in_limit g) g.nodes n
  pub size : length depths ≡ count_limit
  pub at : (i : ℕ) → i < n → get_or depths i 0 ≡ depth g i

-- then node n is one move further than its parent `up`
pub record Further (g : Game) (n up : ℕ) (depths : List ℕ) : Type 0 where
  pub low : up < n
  pub few : get_or depths up 0 ≤ 255
  pub is : get_or depths up 0 + 1 ≡ depth g n

module _ (g : Game) where
  -- the root's depth is 0, with any number of steps
  root_depth : (s : ℕ) → depth_in g s 0 ≡ 0
  unfolding depth_in
  root_depth zero = refl
  root_depth (suc s) = refl

  -- where numbers fall on the way up, any number of steps that is enough gives the same depth
  depth_enough : Rooted g → (s t n : ℕ) → n < g.nodes → n ≤ s → n ≤ t → depth_in g s n ≡ depth_in g t n
  unfolding depth_in
  depth_enough R zero t zero b l k = sym (root_depth t)
  depth_enough R zero t (suc n) b l k = absurd (omega arith)
  depth_enough R (suc s) t zero b l k = sym (root_depth t)
  depth_enough R (suc s) zero (suc n) b l k = absurd (omega arith)
  depth_enough R (suc s) (suc t) (suc n) b l k =
      let f = R.parents n b in
      rw (depth_enough R s t (g.parent (suc n)) (omega arith) (omega arith) (omega arith))

  -- a node other than the root is one move further than its parent, whose number is smaller
  depth_step : Rooted g → (n : ℕ) → 0 < n → n < g.nodes → (g.parent n < n) × (depth g n ≡ depth g (g.parent n) + 1)
  unfolding depth depth_in
  depth_step R zero p b = absurd (omega arith)
  depth_step R (suc n) p b =
      let up = g.parent (suc n) in
      let f = R.parents n b in
      (f, omega (arith, depth_enough R n up up (omega arith) (omega arith) (omega arith)))

  -- an array that begins with 0 has the root's depth
  pub measured_root : (depths : List ℕ) → 0 < g.nodes → length depths ≡ count_limit → get_or depths 0 0 ≡ 0 → Measured g 1 depths
  unfolding depth
  measured_root d b s e =
      let z = root_depth 0 in
      let A : ℕ → Type 0 = λ i. get_or d i 0 ≡ depth g i in
      record {
        some = omega arith;
        passed = passed_more (in_limit g) g.nodes 0 (in_limit g 0) (passed_none (in_limit g) g.nodes) b refl (le-leb (depth g 0) 255 (omega arith));
        size = s;
        at = below_more A 0 (below_none A) (e ∙ sym z);
      }

  module _ (n up : ℕ) (depths : List ℕ) where
    -- node n, where its parent is read
    pub further : Rooted g → Measured g n depths → n < g.nodes → up ≡ g.parent n → Further g n up depths
    further R M b u =
        let s = depth_step R n M.some b in
        let l : up < n = omega arith in
        let t = leb→le (depth g up) 255 (all_to_at n (in_limit g) (true→T _ M.passed.1) up l) in
        record { low = l; few = omega (arith, M.at up l); is = omega (arith, M.at up l, ap (depth g) u) }

    module _ (F : Further g n up depths) (b : n < g.nodes) where
      -- its depth is put into the array
      pub measured_more : Rooted g → Measured g n depths → get_or depths up 0 + 1 ≤ 255 → Measured g (n + 1) (set depths n (get_or depths up 0 + 1))
      measured_more R M l =
          let x = get_or depths up 0 + 1 in
          record {
            some = omega arith;
            passed = passed_more (in_limit g) g.nodes n (leb x 255) M.passed b (ap (λ (k : ℕ). leb k 255) F.is) (le-leb x 255 l);
            size = length-set depths n x ∙ M.size;
            at =
                below_more (λ i. get_or (set depths n x) i 0 ≡ depth g i) n
                (λ i h. get_or-set_other depths n i x 0 (λ q. omega arith) ∙ M.at i h)
                (get_or-set_same depths n x 0 (omega (arith, M.size, R.few_nodes)) ∙ F.is);
          }

      -- or is past the limit
      pub measured_not : 255 < get_or depths up 0 + 1 → Err PathLength ≡ checked_of PathLength (paths_in_limit_of g)
      unfolding paths_in_limit_of path_limit
      measured_not l =
          let x = get_or depths up 0 + 1 in
          passed_not (in_limit g) g.nodes PathLength n (leb x 255) b (ap (λ (k : ℕ). leb k 255) F.is) (lt-leb x 255 l)

  -- all nodes pass
  pub measured_all : (n : ℕ) (depths : List ℕ) → Measured g n depths → g.nodes ≤ n → Ok tt ≡ checked_of PathLength (paths_in_limit_of g)
  unfolding paths_in_limit_of path_limit
  measured_all n depths M b = passed_all (in_limit g) g.nodes PathLength n M.passed b
