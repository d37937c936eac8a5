-- What the loops of the worth recursion have done: each turn of a loop is one law here, of one game and its player.
use Prim.Native.Nat.{ℕ, zero, suc, pred, ◌+◌, ◌≤◌, ◌<◌}
use mathlib.Core.Path.{◌≡◌, sym, ap, ◌∙◌, subst}
use mathlib.Core.List.{List}
use native.Mathlib.Omega.{arith, by_contra}
use native.Mathlib.Decide.{ℕ_discrete}
use lib.Dec.{T}
use lib.IntN.{ℤ, pos, ◌+ℤ◌, +ℤ_assoc, +ℤ_idr}
use lib.ListN.{length, set}
use lib.Seq.{get_or-set_same, get_or-set_other}
use mir.Syntax.{w64}
use mir.Val.{SFits}
use Rattle.std.specs.Int.{int_max}
use Rattle.std.proofs.lemmas.Int.{ints}
use Rattle.algebra.specs.Arrays.{item_z}
use Rattle.algebra.specs.Bounded.{sum_to, sum_where, larger, max_through}
use Rattle.algebra.proofs.Searches.{max_through_cong}
use Rattle.algebra.proofs.Sums.{where_tests}
use Rattle.model.specs.Game.{Game, Player, other, owns}
use Rattle.model.specs.Sequences.{sequence_count}
use Rattle.model.specs.Plan.{RealizationPlan, weight_at}
use Rattle.model.specs.BestResponse.{leads_to, worth, set_worth}
use Rattle.model.specs.Limits.{weight_limit, GameLimits}
use Rattle.model.specs.Rules.{GameRules}
use Rattle.model.specs.Demand2.{sequence_at}
use Rattle.model.proofs.Budget.{response_budget}
use Rattle.model.proofs.Worths.{worth_sequence, worth_set}
use Rattle.loaded.specs.Sets.{first_sequence, lead_by}
use Rattle.slices.proofs.Firsts.{FirstPassing}
use Rattle.responses.specs.Worths.{leaves_at, worth_at, Kept, RightFrom, right_from, SequenceStored, SetStored}
use Rattle.responses.proofs.Passing.{where_more, where_skip}
use Rattle.responses.proofs.SequencesAt.{leads_are, move_worth_lem}

-- the larger of two integers, as the library has it
larger_is : (a b : ℤ) → int_max a b ≡ larger a b
unfolding larger
larger_is a b = grind (arith, ints)

-- the greatest of one more
greatest_more : (f : ℕ → ℤ) (m : ℕ) → 0 < m → larger (max_through (pred m) f) (f m) ≡ max_through (pred (m + 1)) f
unfolding max_through
greatest_more f zero l = absurd (omega arith)
greatest_more f (suc m) l =
    let e : suc m ≡ pred (suc m + 1) = omega arith in
    ap (λ (k : ℕ). max_through k f) e

-- what the leaves at s and those of the first k sets that it leads to are worth
unfoldable pub partial_worth : (g : Game) → (p : Player) → (y : RealizationPlan) → (s k : ℕ) → ℤ
partial_worth g p y s k = leaves_at g p y s +ℤ sum_where k (lead_by g p s) (set_worth g p y)

module _ (g : Game) (p : Player) (y : RealizationPlan) (s : ℕ) where
  -- with no set
  partial_none : partial_worth g p y s 0 ≡ leaves_at g p y s
  unfolding partial_worth sum_where sum_to
  partial_none = +ℤ_idr (leaves_at g p y s)

  -- with a set that s leads to
  partial_led : (h : ℕ) → T (lead_by g p s h) → partial_worth g p y s (h + 1) ≡ partial_worth g p y s h +ℤ set_worth g p y h
  unfolding partial_worth
  partial_led h t =
      ap (λ (z : ℤ). leaves_at g p y s +ℤ z) (where_more (lead_by g p s) (set_worth g p y) h t)
      ∙ sym (+ℤ_assoc (leaves_at g p y s) (sum_where h (lead_by g p s) (set_worth g p y)) (set_worth g p y h))

  -- with sets that it does not lead to
  partial_skip : (a b : ℕ) → a ≤ b → ((h : ℕ) → a ≤ h → h < b → ¬ T (lead_by g p s h)) → partial_worth g p y s b ≡ partial_worth g p y s a
  unfolding partial_worth
  partial_skip a b l none = ap (λ (z : ℤ). leaves_at g p y s +ℤ z) (where_skip (lead_by g p s) (set_worth g p y) a b l none)

  module _ (R : GameRules g) (l : s < sequence_count g p) where
    -- by the sequence with number s
    partial_is : (k : ℕ) → k ≤ g.sets → sum_where k (lead_by g p s) (set_worth g p y) ≡ sum_where k (leads_to g p (sequence_at g p s)) (set_worth g p y)
    partial_is k b = where_tests k (lead_by g p s) (leads_to g p (sequence_at g p s)) (set_worth g p y) (λ h v. leads_are g p R s l h (omega arith))

    -- with all sets it is the worth of s
    partial_all : partial_worth g p y s g.sets ≡ worth_at g p y s
    unfolding partial_worth leaves_at worth_at
    partial_all = rw (partial_is g.sets (omega arith)) (sym (worth_sequence g R p y (sequence_at g p s)))

    -- no such sum leaves an i64, where the weights are within the limit
    partial_fits : GameLimits g → ((n : ℕ) → n < g.nodes → weight_at g y (other p) n ≤ weight_limit) → (k : ℕ) → k ≤ g.sets → SFits w64 (partial_worth g p y s k)
    unfolding partial_worth leaves_at set_worth worth
    partial_fits L small k b = rw (partial_is k b) ((response_budget g R L p y small).partial g.nodes (sequence_at g p s) k b)

    -- nor does what the leaves at s are worth
    pub leaves_fit : GameLimits g → ((n : ℕ) → n < g.nodes → weight_at g y (other p) n ≤ weight_limit) → SFits w64 (leaves_at g p y s)
    leaves_fit L small = rw partial_none at (partial_fits L small 0 (omega arith))

module _ (g : Game) (p : Player) (y : RealizationPlan) where
  -- the sets before `at` that s leads to are done, and z is the sum with them
  pub record Walked (s at : ℕ) (before after : List ℤ) (z : ℤ) : Type 0 where
    pub high : at ≤ g.sets
    pub here : at < g.sets → T (lead_by g p s at)
    pub sum : z ≡ partial_worth g p y s at
    pub kept : Kept g p y before after
    pub stored : (h m : ℕ) → h < at → T (lead_by g p s h) → m < g.set_moves h → RightFrom g p y after (first_sequence g h + m)

  -- the moves of h before m are done, and z is the greatest worth among them
  pub record Tried (h m : ℕ) (before after : List ℤ) (z : ℤ) : Type 0 where
    pub top : z ≡ max_through (pred m) (λ j. worth_at g p y (first_sequence g h + j))
    pub kept : Kept g p y before after
    pub stored : (j : ℕ) → j < m → RightFrom g p y after (first_sequence g h + j)

module _ {g : Game} {p : Player} {y : RealizationPlan} where
  -- nothing is done yet
  kept_none : {worths : List ℤ} → Kept g p y worths worths
  kept_none = record { right = λ q r. r }

  -- what two calls keep
  kept_twice : {before between after : List ℤ} → Kept g p y before between → Kept g p y between after → Kept g p y before after
  kept_twice k o = record { right = λ q r. o.right q (k.right q r) }

  -- a worth is stored
  kept_set : {worths : List ℤ} {z : ℤ} (s : ℕ) → s < length worths → z ≡ worth_at g p y s → Kept g p y worths (set worths s z)
  kept_set {worths} {z} s b e = record { right = each }
    where
      each : (q : ℕ) → item_z worths q ≡ worth_at g p y q → item_z (set worths s z) q ≡ worth_at g p y q
      each q r =
          elim (ℕ_discrete q s) [
            | yes i ↦ rw i (get_or-set_same worths s z (pos 0) b ∙ e)
            | no i ↦ get_or-set_other worths s q z (pos 0) i ∙ r
          ]

  -- what is kept is kept from a sequence on
  from_kept : {before after : List ℤ} {s : ℕ} → Kept g p y before after → RightFrom g p y before s → RightFrom g p y after s
  from_kept k (right_from {s} r later) = right_from (k.right s r) (λ h m l t b. from_kept k (later h m l t b))

  -- the walk along the chain of s begins at its first set
  pub walk_start : {worths : List ℤ} {s at : ℕ} {z : ℤ} → FirstPassing g.sets (lead_by g p s) 0 at → z ≡ leaves_at g p y s → Walked g p y s at worths worths z
  walk_start {s = s} {at} F e = record {
    high = F.high;
    here = F.passes;
    sum = e ∙ sym (partial_skip g p y s 0 at (omega arith) F.before ∙ partial_none g p y s);
    kept = kept_none;
    stored = λ h m l t b. absurd (F.before h (omega arith) l t);
  }

  -- goes on from each set to the next
  pub walk_step : {before between after : List ℤ} {z r : ℤ} {s at next : ℕ} → FirstPassing g.sets (lead_by g p s) (at + 1) next → at < g.sets → Walked g p y s at before between z → SetStored g p y at between after r → Walked g p y s next before after (z +ℤ r)
  walk_step {after = after} {s = s} {at} {next} F l done call = record {
    high = F.high;
    here = F.passes;
    sum = rw (done.sum, call.value, ← partial_led g p y s at (done.here l)) (sym (partial_skip g p y s (at + 1) next F.low F.before));
    kept = kept_twice done.kept call.kept;
    stored = each;
  }
    where
      each : (h m : ℕ) → h < next → T (lead_by g p s h) → m < g.set_moves h → RightFrom g p y after (first_sequence g h + m)
      each h m v t b =
          elim (ℕ_discrete h at) [
            | yes i ↦ rw i (call.stored m (rw i at b))
            | no i ↦ from_kept call.kept (done.stored h m (by_contra (suc h) at (λ q. F.before h (omega (arith, i)) v t)) t b)
          ]

  -- no sum on the way leaves an i64
  pub walk_fits : {before between after : List ℤ} {z r : ℤ} {s at : ℕ} → GameRules g → GameLimits g → ((n : ℕ) → n < g.nodes → weight_at g y (other p) n ≤ weight_limit) → s < sequence_count g p → at < g.sets → Walked g p y s at before between z → SetStored g p y at between after r → SFits w64 (z +ℤ r)
  walk_fits {s = s} {at} R L small b l done call = rw (done.sum, call.value, ← partial_led g p y s at (done.here l)) (partial_fits g p y s R b L small (at + 1) (omega arith))

  -- and ends where there is none: the sum is stored
  pub walk_end : {before after : List ℤ} {z : ℤ} {s at : ℕ} → GameRules g → s < sequence_count g p → g.sets ≤ at → s < length after → Walked g p y s at before after z → SequenceStored g p y s before (set after s z) z
  walk_end {before} {after} {z} {s} {at} R b l c done =
      let i : at ≡ g.sets = omega (arith, done.high) in
      let e : z ≡ worth_at g p y s = done.sum ∙ ap (partial_worth g p y s) i ∙ partial_all g p y s R b in
      let put = kept_set s c e in
      record {
        value = e;
        kept = kept_twice done.kept put;
        stored = right_from (get_or-set_same after s z (pos 0) c ∙ e) (λ h m v t k. from_kept put (done.stored h m (omega arith) t k));
      }

  -- the first move of a set is tried
  pub try_start : {before after : List ℤ} {z r : ℤ} (h : ℕ) → z ≡ r → SequenceStored g p y (first_sequence g h + 0) before after r → Tried g p y h 1 after after z
  unfolding max_through
  try_start {after = after} h e call = record {
    top = e ∙ call.value;
    kept = kept_none;
    stored = λ j l.
        let i : 0 ≡ j = omega arith in
        subst (λ (k : ℕ). RightFrom g p y after (first_sequence g h + k)) i call.stored;
  }

  -- then each other
  pub try_step : {before between after : List ℤ} {z r : ℤ} {h m : ℕ} → 0 < m → Tried g p y h m before between z → SequenceStored g p y (first_sequence g h + m) between after r → Tried g p y h (m + 1) before after (int_max z r)
  try_step {z = z} {r} {h} {m} l done call = record {
    top = larger_is z r ∙ rw (done.top, call.value) (greatest_more (λ j. worth_at g p y (first_sequence g h + j)) m l);
    kept = kept_twice done.kept call.kept;
    stored = λ j b.
        elim (ℕ_discrete j m) [
          | yes i ↦ rw i call.stored
          | no i ↦ from_kept call.kept (done.stored j (omega (arith, i)))
        ];
  }

  -- with every move tried, the set is done
  pub try_end : {before between after : List ℤ} {r z : ℤ} {s h m : ℕ} → GameRules g → h < g.sets → T (owns g p h) → m ≡ g.set_moves h → SequenceStored g p y s before between r → Tried g p y h m between after z → SetStored g p y h before after z
  try_end {h = h} R l o i call done = record {
    value = done.top ∙ rw i (max_through_cong (pred (g.set_moves h)) _ _ (λ m b. move_worth_lem g p y h m l o (omega (arith, (R.set_moves h l).0))) ∙ sym (worth_set g p y h));
    kept = kept_twice call.kept done.kept;
    stored = λ j b. done.stored j (omega arith);
  }
