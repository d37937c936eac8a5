-- Every sequence but the empty one is a move's, so a call for the empty sequence leaves every place right.
use Prim.Native.Nat.{ℕ, zero, suc, ◌+◌, ◌≤◌, ◌<◌}
use mathlib.Core.Path.{◌≡◌, refl, ap, ◌∙◌, subst}
use mathlib.Core.List.{List}
use native.Mathlib.Omega.{arith}
use lib.Dec.{T}
use lib.IntN.{ℤ}
use lib.ListN.{length}
use Rattle.algebra.specs.Arrays.{item_z}
use Rattle.model.specs.Game.{Game, Player, owns}
use Rattle.model.specs.Sequences.{Sequence, extended, first_node, leading, sequence_number, leading_number, sequence_count}
use Rattle.model.specs.Plan.{RealizationPlan}
use Rattle.model.specs.BestResponse.{worth, best_count}
use Rattle.model.specs.Limits.{count_limit}
use Rattle.model.specs.Rules.{GameRules}
use Rattle.model.specs.Demand2.{sequence_at}
use Rattle.model.proofs.Sequences.{number_empty}
use Rattle.model.proofs.Tree.{IsSequence, empty, after, leading_sequence, first_in_lem}
use Rattle.model.proofs.Reached.{first_before}
use Rattle.loaded.specs.Sets.{first_sequence, lead_by}
use Rattle.loaded.specs.Loaded.{NumbersLoaded}
use Rattle.loaded.specs.declared.Counts.{Counts}
use Rattle.responses.specs.Worths.{worth_at, WorthsHeld, RightFrom, right_from, SequenceStored}
use Rattle.loaded.proofs.Sides.{few_sequences}
use Rattle.responses.proofs.SequencesAt.{at_sequence, at_empty, move_number_lem, lead_number, leads}

module _ {g : Game} {p : Player} {y : RealizationPlan} {worths : List ℤ} where
  -- what it says to be right from a sequence on
  right : {s : ℕ} → RightFrom g p y worths s → item_z worths s ≡ worth_at g p y s
  right (right_from r later) = r

  onward : {s : ℕ} → RightFrom g p y worths s → (h m : ℕ) → h < g.sets → T (lead_by g p s h) → m < g.set_moves h → RightFrom g p y worths (first_sequence g h + m)
  onward (right_from r later) = later

  module _ (R : GameRules g) (o : RightFrom g p y worths 0) where
    -- it is right from each sequence on, where it is from what leads to each set whose first node is below k
    from_each : (k : ℕ) → ((h : ℕ) → h < g.sets → T (owns g p h) → first_node g h < k → RightFrom g p y worths (leading_number g h)) → (s : Sequence) → IsSequence g p s → ((h m : ℕ) → h < g.sets → s ≡ extended (leading g h) h m → first_node g h < k) → RightFrom g p y worths (sequence_number g p s)
    from_each k each s empty low = rw (number_empty g p) o
    from_each k each s (after {h = h} {m = m} l q b) low = rw (move_number_lem g p h m l q b) (onward (each h l q (low h m l refl)) h m l (leads g p (leading_number g h) h q refl) b)

    -- so it is from what leads to each set on, by the first nodes of the sets on the way
    from_leading : (k h : ℕ) → h < g.sets → T (owns g p h) → first_node g h < k → RightFrom g p y worths (leading_number g h)
    from_leading zero h l q b = absurd (omega arith)
    from_leading (suc k) h l q b =
        rw (lead_number g p h q)
        (from_each k (from_leading k) (leading g h) (leading_sequence g R p h l q) (λ i m v e. omega (arith, first_before g R p i m h l q e)))

    -- and each place is right
    everywhere : (s : ℕ) → s < sequence_count g p → item_z worths s ≡ worth_at g p y s
    everywhere s b =
        let a = at_sequence g p s b in
        subst (λ (k : ℕ). item_z worths k ≡ worth_at g p y k) a.1
        (right (from_each g.nodes (from_leading g.nodes) (sequence_at g p s) a.0 (λ h m l e. (first_in_lem g R h l).1)))

-- so that every worth is stored, and that of the empty sequence is the best value
pub worths_given : {g : Game} {p : Player} {y : RealizationPlan} {c : Counts} {numbers : List ℕ} {before stored : List ℤ} {r : ℤ} → NumbersLoaded g c numbers → SequenceStored g p y 0 before stored r → count_limit ≤ length stored → (r ≡ best_count g p y) × WorthsHeld g p y c numbers stored
unfolding best_count worth_at
worths_given {g} {p} {y} {stored = stored} L call b = (
  call.value ∙ ap (worth g p y) (at_empty g p),
  record { loaded = L; held = record { long = omega (arith, few_sequences g L.rules L.limits p); at = everywhere L.rules call.stored } },
)
