-- The weights over the smallest D are the probabilities times it.
use Prim.Native.Nat.{ℕ, ◌*◌, ◌/◌, ◌≤◌, ◌<◌}
use mathlib.Core.Path.{◌≡◌, refl, sym, ap, ◌∙◌}
use mathlib.Core.List.{List, ◌++◌}
use native.Mathlib.Omega.{arith}
use lib.ListN.{length, drop}
use Rattle.std.specs.Prelude.{Option, Some, None}
use Rattle.algebra.specs.Arrays.{item, over}
use Rattle.algebra.proofs.Lists.{list_to_cong}
use Rattle.model.specs.Limits.{count_limit, weight_limit}
use Rattle.model.specs.Game.{Game, Player}
use Rattle.model.specs.Sequences.{sequence_count}
use Rattle.model.specs.Demand2.{sequence_at}
use Rattle.model.specs.Rules.{GameRules}
use Rattle.model.specs.Sheet.{Odds, lowest_numerator, lowest_denominator, smallest_d, weight_over}
use Rattle.model.proofs.Numbers.{number_place}
use Rattle.model.proofs.Reached.{SequenceAt, number_found}
use Rattle.model.proofs.Sheets.{lowest_positive, smallest_serves}
use Rattle.loaded.specs.declared.Counts.{Counts}
use Rattle.loaded.proofs.InOrder.{order_all}
use Rattle.plan.specs.Loaded.{LoadedIn}
use Rattle.plan.proofs.Refusals.{counted}
use Rattle.smallest.specs.Multiples.{Probabilities, AllAsked, Smallest, Scalable, smallest_weight, Weighed}
use Rattle.smallest.proofs.Capped.{capped_some}
use Rattle.smallest.proofs.Probabilities.{lowest_at_most, weight_lowest}

-- all that is asked for is there
pub all_asked : {c : Counts} {numbers x numerators denominators : List ℕ} {limit : ℕ} → LoadedIn c numbers → count_limit ≤ length x → 0 < limit → limit ≤ weight_limit → count_limit ≤ length numerators → count_limit ≤ length denominators → AllAsked c.sets numbers x numerators denominators limit
all_asked {c} L long some small l m =
    record {
      game = L.game;
      counts = c;
      loaded = L.loaded;
      sets_are = (counted L.loaded.counts_are).sets_are;
      in_odds = long;
      in_numerators = l;
      in_denominators = m;
      within = record { some = omega arith; most = some; small = small };
    }

module _ {g : Game} (R : GameRules g) (odds : Odds) (p : Player) {numerators denominators : List ℕ} (K : Probabilities g odds p g.sets numerators denominators) where
  -- the probability of p's sequence number k
  module _ (k : ℕ) (l : k < sequence_count g p) where
    found : SequenceAt g p k
    found = number_found g p k l

    numerator_is : item numerators k ≡ lowest_numerator g odds found.sequence
    numerator_is = ap (item numerators) (sym found.numbered) ∙ order_all g R p (lowest_numerator g odds) K.numerators_are found.sequence found.is_sequence

    denominator_is : item denominators k ≡ lowest_denominator g odds found.sequence
    denominator_is = ap (item denominators) (sym found.numbered) ∙ order_all g R p (lowest_denominator g odds) K.denominators_are found.sequence found.is_sequence

    -- times the smallest D it is the weight
    weight_is : smallest_d g odds p / item denominators k * item numerators k ≡ smallest_weight g odds p k
    unfolding smallest_weight
    weight_is =
        rw (numerator_is, denominator_is)
        (sym (weight_lowest g R odds p (smallest_d g odds p) (smallest_serves g odds R p) found.sequence found.is_sequence)
        ∙ ap (weight_over g odds (smallest_d g odds p)) (sym (number_place g p found.sequence found.is_sequence) ∙ ap (sequence_at g p) found.numbered))

  -- so they can be multiplied
  pub scalable : {count d : ℕ} {x : List ℕ} → count ≡ sequence_count g p → d ≤ weight_limit → sequence_count g p ≤ length x → Scalable count d numerators denominators x
  scalable {count} e small long = record {
    in_numerators = omega (arith, e, K.numerators_are.long);
    in_denominators = omega (arith, e, K.denominators_are.long);
    in_weights = omega arith;
    some = λ k l. let v : k < sequence_count g p = omega (arith, e) in omega (arith, denominator_is k v, lowest_positive g odds R p (found k v).sequence (found k v).is_sequence);
    most = λ k l. let v : k < sequence_count g p = omega (arith, e) in omega (arith, numerator_is k v, denominator_is k v, lowest_at_most g R odds p (found k v).sequence (found k v).is_sequence);
    small = small;
  }

  -- and give the weights
  pub scaled : {count d : ℕ} {x' : List ℕ} (x : List ℕ) → count ≡ sequence_count g p → d ≡ smallest_d g odds p → x' ≡ over (λ k. d / item denominators k * item numerators k) count x → x' ≡ over (smallest_weight g odds p) (sequence_count g p) x
  unfolding over
  scaled {count} {d} x e is done = done ∙ rw (e, is) (ap (λ (l : List ℕ). l ++ drop (sequence_count g p) x) (list_to_cong (sequence_count g p) _ _ weight_is))

-- What a player's turn leaves.
module _ {g : Game} {odds : Odds} {p : Player} {limit : ℕ} {r : Option ℕ} {numerators denominators : List ℕ} (S : Smallest g odds p limit r numerators denominators) where
  -- no D within the limit serves: nothing is changed
  pub weighed_none : {x : List ℕ} → r ≡ None → Weighed g odds p limit None x x
  weighed_none z = record { answer = sym z ∙ S.answer; weights = tt; kept = refl }

  -- some does: his weights over the smallest
  module _ {d : ℕ} (e : r ≡ Some d) where
    pub weighed_some : {x x' : List ℕ} → x' ≡ over (smallest_weight g odds p) (sequence_count g p) x → Weighed g odds p limit (Some d) x x'
    weighed_some w = record { answer = sym e ∙ S.answer; weights = w; kept = tt }

    -- it is the smallest D, and within the limit
    pub smallest_is : (d ≡ smallest_d g odds p) × (d ≤ limit)
    smallest_is = let is = capped_some limit (smallest_d g odds p) S.answer e in (is.0, omega (arith, is.0, is.1))

    -- and his probabilities are put
    pub probabilities_put : Probabilities g odds p g.sets numerators denominators
    probabilities_put = rw e at S.probabilities
