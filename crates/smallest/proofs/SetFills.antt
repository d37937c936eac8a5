-- The probabilities of a set's sequences, put one after the other while the common multiple is within the limit.
use Prim.Native.Nat.{ℕ, ◌+◌, ◌*◌, ◌≤◌, ◌<◌}
use mathlib.Core.Path.{◌≡◌, sym, ap, ◌∙◌}
use Rattle.std.specs.Prelude.{Option, Some, None}
use mathlib.Core.List.{List}
use native.Mathlib.Omega.{arith}
use lib.ListN as ListN
use Rattle.algebra.specs.Arrays.{item}
use Rattle.algebra.specs.Divisors.{lcm, lcm_to}
use Rattle.algebra.specs.Sections.{Held, Apart}
use Rattle.algebra.proofs.Sections.{held_none, held_more, apart_none, apart_set}
use Rattle.algebra.proofs.Totals.{count_term}
use Rattle.model.specs.Limits.{weight_limit}
use Rattle.loaded.specs.declared.SetSequences.{SetSequences}
use Rattle.smallest.specs.declared.Probability.{Probability}
use Rattle.smallest.specs.Fractions.{times_odds, ProperTo, capped}
use Rattle.smallest.specs.Multiples.{InLimit, SetAsked, move_probability, SetFilled}
use Rattle.smallest.proofs.Capped.{capped_in, capped_above, capped_some, capped_none, multiple_most, with_none, with_more, with_fewer}
use Rattle.smallest.proofs.Lowest.{times_proper}

-- how large the probability of each move of a set that is asked for can be
module _ {set : SetSequences} {before : Probability} {total : ℕ} {odds numerators denominators : List ℕ} {multiple limit : ℕ} (A : SetAsked set before total odds numerators denominators multiple limit) where
  part_proper : (m : ℕ) → m < set.moves → ProperTo (weight_limit * (64 * weight_limit)) (move_probability before total odds set.start m)
  unfolding move_probability
  part_proper m l = times_proper A.proper (rw A.total_is (count_term set.moves (λ k. item odds (set.start + k)) m l)) A.total_small

-- The first m moves are done.
pub record Done (before : Probability) (total : ℕ) (odds : List ℕ) (start moves multiple limit : ℕ) (numerators₀ numerators denominators₀ denominators : List ℕ) (m common : ℕ) : Type 0 where
  common_is : common ≡ lcm multiple (lcm_to m (λ k. (move_probability before total odds start k).denominator))
  pub within : InLimit common limit
  pub numerators_held : Held start (λ k. (move_probability before total odds start k).numerator) m numerators
  pub denominators_held : Held start (λ k. (move_probability before total odds start k).denominator) m denominators
  pub numerators_apart : Apart start (start + moves) numerators₀ numerators
  pub denominators_apart : Apart start (start + moves) denominators₀ denominators

-- nothing yet
pub done_none : {set : SetSequences} {before : Probability} {total : ℕ} {odds numerators denominators : List ℕ} {multiple limit : ℕ} → SetAsked set before total odds numerators denominators multiple limit → Done before total odds set.start set.moves multiple limit numerators numerators denominators denominators 0 multiple
done_none A = record {
  common_is = with_none _ _ A.within.some;
  within = A.within;
  numerators_held = held_none _ (omega (arith, A.in_numerators));
  denominators_held = held_none _ (omega (arith, A.in_denominators));
  numerators_apart = apart_none;
  denominators_apart = apart_none;
}

-- One move after those: its odds are read, its probability and the common multiple found.
module _ {set : SetSequences} {before : Probability} {total : ℕ} {odds numerators₀ denominators₀ : List ℕ} {multiple limit : ℕ} (A : SetAsked set before total odds numerators₀ denominators₀ multiple limit) {numerators denominators : List ℕ} {m common : ℕ} (D : Done before total odds set.start set.moves multiple limit numerators₀ numerators denominators₀ denominators m common) where
  -- all moves are done
  pub done_all : m ≡ set.moves → SetFilled set before total odds multiple limit (Some common) numerators₀ numerators denominators₀ denominators
  done_all e =
      let is = rw e at D.common_is in
      record {
        answer = sym (capped_in limit common D.within.most) ∙ ap (capped limit) is;
        numerators_held = rw e at D.numerators_held;
        denominators_held = rw e at D.denominators_held;
        numerators_apart = D.numerators_apart;
        denominators_apart = D.denominators_apart;
      }

  module _ (l : m < set.moves) {read : ℕ} (r : read ≡ item odds (set.start + m)) {next : Probability} (n : next ≡ times_odds before read total) where
    -- it is the next one
    part_is : next ≡ move_probability before total odds set.start m
    unfolding move_probability
    part_is = rw r at n

    pub next_proper : ProperTo (weight_limit * (64 * weight_limit)) next
    next_proper = rw part_is (part_proper A m l)

    module _ {found : Option ℕ} (e : found ≡ capped limit (lcm common next.denominator)) where
      more_is : lcm common next.denominator ≡ lcm multiple (lcm_to (m + 1) (λ k. (move_probability before total odds set.start k).denominator))
      more_is = rw (part_is, D.common_is) (with_more multiple _ A.within.some m (λ i v. (part_proper A i (omega arith)).some))

      -- the multiple is above the limit
      pub done_stop : found ≡ None → SetFilled set before total odds multiple limit None numerators₀ numerators denominators₀ denominators
      done_stop z = record {
        answer = sym (capped_above limit _ (omega (arith, more_is, capped_none limit (lcm common next.denominator) e z, with_fewer multiple (λ k. (move_probability before total odds set.start k).denominator) A.within.some set.moves (m + 1) (λ i v. (part_proper A i v).some) (omega arith))));
        numerators_held = tt;
        denominators_held = tt;
        numerators_apart = D.numerators_apart;
        denominators_apart = D.denominators_apart;
      }

      -- it is within the limit
      module _ {x : ℕ} (some : found ≡ Some x) where
        most : (next.denominator ≤ limit) × (0 < x) × (x ≤ limit)
        most = multiple_most limit common next.denominator D.within.some next_proper.some e some

        -- so both parts are numbers of 16 bits
        pub next_small : (next.numerator < 65536) × (next.denominator < 65536)
        next_small = (omega (arith, next_proper.most, most.0, A.within.small), omega (arith, most.0, A.within.small))

        -- and one move more is done
        pub done_more : {numerators' denominators' : List ℕ} → numerators' ≡ ListN.set numerators (set.start + m) next.numerator → denominators' ≡ ListN.set denominators (set.start + m) next.denominator → Done before total odds set.start set.moves multiple limit numerators₀ numerators' denominators₀ denominators' (m + 1) x
        done_more a b =
            let is = part_is in
            record {
              common_is = (capped_some limit (lcm common next.denominator) e some).0 ∙ more_is;
              within = record { some = most.1; most = most.2; small = A.within.small };
              numerators_held = held_more _ D.numerators_held (omega (arith, D.numerators_apart.long, A.in_numerators)) a (rw is);
              denominators_held = held_more _ D.denominators_held (omega (arith, D.denominators_apart.long, A.in_denominators)) b (rw is);
              numerators_apart = apart_set _ _ D.numerators_apart a (omega arith) (omega arith);
              denominators_apart = apart_set _ _ D.denominators_apart b (omega arith) (omega arith);
            }
