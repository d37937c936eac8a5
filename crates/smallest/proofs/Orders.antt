-- The smallest D, set by set in the order of first nodes.
use Prim.Native.Nat.{ℕ, suc, ◌+◌, ◌≤◌, ◌<◌, ◌∣◌}
use mathlib.Core.Path.{◌≡◌, refl, sym, ap, ◌∙◌, subst}
use mathlib.Core.Bool.{cond}
use mathlib.Core.List.{List}
use native.Mathlib.Omega.{arith}
use native.Mathlib.Nat as NatL
use Rattle.std.specs.Prelude.{Option, Some, None, OnSome}
use lib.ListN.{length, set, length-set}
use lib.Seq.{get_or-set_same}
use lib.Dec.{T}
use Rattle.algebra.specs.Arrays.{item}
use Rattle.algebra.specs.Bounded.{total_to}
use Rattle.algebra.specs.Sections.{Held}
use Rattle.algebra.specs.Divisors.{lcm, lcm_to}
use Rattle.algebra.proofs.Divisors.{lcm_one, lcm_to_positive, lcm_to_iff, lcm_to_at, lcm_to_fewer}
use Rattle.algebra.proofs.Sections.{held_as}
use Rattle.algebra.proofs.Tests.{cond_yes, cond_no}
use Rattle.model.specs.Game.{Game, Player, owns}
use Rattle.model.specs.Sequences.{extended, leading, move_number, leading_number, sequence_count}
use Rattle.model.specs.Rules.{GameRules}
use Rattle.model.specs.Sheet.{Odds, odds_total, lowest_numerator, lowest_denominator, set_multiple, smallest_d}
use Rattle.model.proofs.Sheets.{lowest_positive, own_positive}
use Rattle.model.proofs.Tree.{leading_sequence}
use Rattle.loaded.specs.declared.SetSequences.{SetSequences}
use Rattle.loaded.specs.Sets.{first_sequence, set_order}
use Rattle.loaded.specs.SetSequences.{set_sequences_of}
use Rattle.loaded.proofs.InOrder.{order_none, order_skip, order_lead, order_more}
use Rattle.loaded.proofs.SetOrder.{order_long, order_has, order_set}
use Rattle.sheets.specs.OddsByNumber.{OddsByNumber}
use Rattle.sheets.proofs.OddsRead.{set_odds, set_total}
use Rattle.smallest.specs.declared.Probability.{Probability}
use Rattle.smallest.specs.Fractions.{probability, lowest_of, Proper, capped}
use Rattle.smallest.specs.Multiples.{InLimit, move_probability, SetFilled, order_multiple, Probabilities, NextAsked, NextMultiple, AllAsked, Smallest}
use Rattle.smallest.proofs.Capped.{capped_in, capped_above, capped_some, capped_none, lcm_to_cong}
use Rattle.smallest.proofs.Probabilities.{lowest_at_most, lowest_empty, lowest_moved}

module _ {g : Game} (R : GameRules g) (odds : Odds) (p : Player) where
  -- the multiple of any place of the order is above 0
  order_positive : (i : ℕ) → i < g.sets → 0 < order_multiple g odds p i
  unfolding order_multiple
  order_positive i l = own_positive g odds R p (item (set_order g) i) (order_set g R i l)

  -- in the order or by number, the common multiple is the same
  by_order : lcm_to g.sets (order_multiple g odds p) ≡ smallest_d g odds p
  unfolding smallest_d order_multiple
  by_order =
      let f : ℕ → ℕ = λ h. cond (owns g p h) (set_multiple g odds h) 1 in
      NatL.dvd_antisymm
      ((lcm_to_iff (order_multiple g odds p) g.sets (lcm_to g.sets f) order_positive).1 (λ i l. lcm_to_at f g.sets (item (set_order g) i) (own_positive g odds R p) (order_set g R i l)))
      ((lcm_to_iff f g.sets (lcm_to g.sets (order_multiple g odds p)) (own_positive g odds R p)).1 (λ h l.
      let place = order_has g R h l in
      subst (λ (k : ℕ). f k ∣ lcm_to g.sets (order_multiple g odds p)) place.2 (lcm_to_at (order_multiple g odds p) g.sets place.0 order_positive (omega (arith, place.1, order_long g R)))))

  -- The set at place n, after those before it.
  module _ {n : ℕ} (v : n < g.sets) {numerators denominators : List ℕ} (K : Probabilities g odds p n numerators denominators) where
    abbrev next : ℕ
    next = item (set_order g) n

    next_in : next < g.sets
    next_in = order_set g R n v

    module _ (o : T (owns g p next)) where
      -- the probability of the sequence that leads to it, as it stands there
      lead_is : probability (item numerators (leading_number g next)) (item denominators (leading_number g next)) ≡ lowest_of g odds (leading g next)
      unfolding lowest_of
      lead_is = rw (order_lead g R p (lowest_numerator g odds) v K.numerators_are o, order_lead g R p (lowest_denominator g odds) v K.denominators_are o)

      -- the probabilities of its sequences
      module _ {x : List ℕ} (X : OddsByNumber g p odds x) where
        part_lowest : (m : ℕ) → m < g.set_moves next → move_probability (lowest_of g odds (leading g next)) (odds_total g odds next) x (first_sequence g next) m ≡ lowest_of g odds (extended (leading g next) next m)
        unfolding move_probability
        part_lowest m w = rw (set_odds X next_in o m w) (sym (lowest_moved g R odds p next m next_in o w))

        -- what is done at the set, with its own sequences, odds and the probability before it
        module _ {multiple limit : ℕ} {r : Option ℕ} {numerators' denominators' : List ℕ} (F : SetFilled (set_sequences_of g next) (lowest_of g odds (leading g next)) (odds_total g odds next) x multiple limit r numerators numerators' denominators denominators') where
          multiple_there : r ≡ capped limit (lcm multiple (order_multiple g odds p n))
          unfolding order_multiple set_multiple set_sequences_of lowest_of
          multiple_there =
              F.answer
              ∙ ap (λ (k : ℕ). capped limit (lcm multiple k))
              (lcm_to_cong (g.set_moves next) _ (λ m. lowest_denominator g odds (extended (leading g next) next m)) (λ m w. ap (λ (f : Probability). f.denominator) (part_lowest m w))
              ∙ sym (cond_yes {A = ℕ} (owns g p next) (set_multiple g odds next) 1 o))

          probabilities_there : OnSome r (Probabilities g odds p (n + 1) numerators' denominators')
          unfolding set_sequences_of lowest_of
          probabilities_there = go r F.numerators_held F.denominators_held
            where
              numerator_at : ℕ → ℕ
              numerator_at m = (move_probability (lowest_of g odds (leading g next)) (odds_total g odds next) x (first_sequence g next) m).numerator

              denominator_at : ℕ → ℕ
              denominator_at m = (move_probability (lowest_of g odds (leading g next)) (odds_total g odds next) x (first_sequence g next) m).denominator

              go : (s : Option ℕ) → OnSome s (Held (first_sequence g next) numerator_at (g.set_moves next) numerators') → OnSome s (Held (first_sequence g next) denominator_at (g.set_moves next) denominators') → OnSome s (Probabilities g odds p (n + 1) numerators' denominators')
              go None a b = tt
              go (Some k) a b = record {
                numerators_are = order_more g R p (lowest_numerator g odds) v K.numerators_are o refl (held_as _ a (λ m w. ap (λ (f : Probability). f.numerator) (part_lowest m w))) F.numerators_apart;
                denominators_are = order_more g R p (lowest_denominator g odds) v K.denominators_are o refl (held_as _ b (λ m w. ap (λ (f : Probability). f.denominator) (part_lowest m w))) F.denominators_apart;
              }

    -- it is the player's
    pub next_own : {x : List ℕ} → OddsByNumber g p odds x → {multiple limit : ℕ} → T (owns g p next) → {set : SetSequences} → set ≡ set_sequences_of g next → {before : Probability} → before ≡ probability (item numerators set.lead) (item denominators set.lead) → {total : ℕ} → total ≡ total_to set.moves (λ m. item x (set.start + m)) → {r : Option ℕ} {numerators' denominators' : List ℕ} → SetFilled set before total x multiple limit r numerators numerators' denominators denominators' → NextMultiple g odds p n multiple limit r numerators' denominators'
    unfolding set_sequences_of
    next_own {x} X {multiple} {limit} o {set} is {before} b {total} t {r} {numerators'} {denominators'} F =
        let first : before ≡ lowest_of g odds (leading g next) = b ∙ ap (λ (s : SetSequences). probability (item numerators s.lead) (item denominators s.lead)) is ∙ lead_is o in
        let sum : total ≡ odds_total g odds next = t ∙ ap (λ (s : SetSequences). total_to s.moves (λ m. item x (s.start + m))) is ∙ set_total X next_in o in
        let done : SetFilled (set_sequences_of g next) (lowest_of g odds (leading g next)) (odds_total g odds next) x multiple limit r numerators numerators' denominators denominators' = rw (is, first, sum) at F in
        record { answer = multiple_there o X done; probabilities = probabilities_there o X done }

    -- the probability before it is proper, as it is read
    pub lead_proper : T (owns g p next) → {set : SetSequences} → set ≡ set_sequences_of g next → {a b : ℕ} → a ≡ item numerators set.lead → b ≡ item denominators set.lead → b < 65536 → Proper (probability a b)
    unfolding set_sequences_of
    lead_proper o {set} is {a} {b} x y small =
        let lead : set.lead ≡ leading_number g next = ap (λ (s : SetSequences). s.lead) is in
        let i = leading_sequence g R p next next_in o in
        let top : a ≡ lowest_numerator g odds (leading g next) = x ∙ ap (item numerators) lead ∙ order_lead g R p (lowest_numerator g odds) v K.numerators_are o in
        let bottom : b ≡ lowest_denominator g odds (leading g next) = y ∙ ap (item denominators) lead ∙ order_lead g R p (lowest_denominator g odds) v K.denominators_are o in
        record { some = omega (arith, bottom, lowest_positive g odds R p (leading g next) i); most = omega (arith, top, bottom, lowest_at_most g R odds p (leading g next) i); small = omega arith }

    -- it is the other's
    pub next_other : {multiple limit : ℕ} → InLimit multiple limit → ¬ T (owns g p next) → NextMultiple g odds p n multiple limit (Some multiple) numerators denominators
    unfolding order_multiple
    next_other {multiple} {limit} W o = record {
      answer = sym (capped_in limit multiple W.most) ∙ ap (capped limit) (sym (lcm_one multiple W.some) ∙ ap (lcm multiple) (sym (cond_no {A = ℕ} (owns g p next) (set_multiple g odds next) 1 o)));
      probabilities = record { numerators_are = order_skip g R p (lowest_numerator g odds) v K.numerators_are o; denominators_are = order_skip g R p (lowest_denominator g odds) v K.denominators_are o };
    }

  -- The sets before place n are taken: their common multiple is within the limit.
  pub record Taken (limit n multiple : ℕ) (numerators denominators : List ℕ) : Type 0 where
    pub within : InLimit multiple limit
    multiple_is : multiple ≡ lcm_to n (order_multiple g odds p)
    pub probabilities : Probabilities g odds p n numerators denominators

  -- none yet: the empty sequence has the probability 1
  pub taken_none : {limit : ℕ} → InLimit 1 limit → (before1 before2 : List ℕ) → sequence_count g p ≤ length before1 → sequence_count g p ≤ length before2 → {numerators denominators : List ℕ} → numerators ≡ set before1 0 1 → denominators ≡ set before2 0 1 → Taken limit 0 1 numerators denominators
  unfolding lcm_to sequence_count lowest_of
  taken_none W before1 before2 room1 room2 e f =
      let none = lowest_empty g R odds p in
      record {
        within = W;
        multiple_is = refl;
        probabilities = record {
          numerators_are = rw e (order_none g R p (lowest_numerator g odds) (omega (arith, room1, length-set before1 0 1)) (get_or-set_same before1 0 1 0 (omega arith) ∙ sym (ap (λ (r : Probability). r.numerator) none)));
          denominators_are = rw f (order_none g R p (lowest_denominator g odds) (omega (arith, room2, length-set before2 0 1)) (get_or-set_same before2 0 1 0 (omega arith) ∙ sym (ap (λ (r : Probability). r.denominator) none)));
        };
      }

  module _ {limit n multiple : ℕ} {numerators denominators : List ℕ} (K : Taken limit n multiple numerators denominators) where
    -- all are taken
    pub taken_all : n ≡ g.sets → Smallest g odds p limit (Some multiple) numerators denominators
    taken_all e =
        let d : multiple ≡ smallest_d g odds p = K.multiple_is ∙ ap (λ (k : ℕ). lcm_to k (order_multiple g odds p)) e ∙ by_order in
        record {
          answer = ap Some d ∙ sym (capped_in limit (smallest_d g odds p) (omega (arith, d, K.within.most)));
          probabilities = subst (λ (k : ℕ). Probabilities g odds p k numerators denominators) e K.probabilities;
        }

    module _ (v : n < g.sets) {found : Option ℕ} {numerators' denominators' : List ℕ} (N : NextMultiple g odds p n multiple limit found numerators' denominators') where
      -- the common multiple with the next set
      more_is : found ≡ capped limit (lcm_to (n + 1) (order_multiple g odds p))
      unfolding lcm_to
      more_is = let s : n + 1 ≡ suc n = omega arith in N.answer ∙ rw s (ap (λ (k : ℕ). capped limit (lcm k (order_multiple g odds p n))) K.multiple_is)

      part : 0 < lcm_to (n + 1) (order_multiple g odds p)
      part = lcm_to_positive (order_multiple g odds p) (n + 1) (λ i l. order_positive i (omega arith))

      -- it is within the limit: the set is taken
      pub taken_more : {x : ℕ} → found ≡ Some x → Taken limit (n + 1) x numerators' denominators'
      taken_more {x} some =
          let is = capped_some limit (lcm_to (n + 1) (order_multiple g odds p)) more_is some in
          record {
            within = record { some = omega (arith, part, is.0); most = omega (arith, is.0, is.1); small = K.within.small };
            multiple_is = is.0;
            probabilities = rw some at N.probabilities;
          }

      -- it is not: neither is the smallest D
      pub taken_stop : found ≡ None → Smallest g odds p limit None numerators' denominators'
      taken_stop z =
          let positive : 0 < lcm_to g.sets (order_multiple g odds p) = lcm_to_positive (order_multiple g odds p) g.sets order_positive in
          let above : limit < lcm_to (n + 1) (order_multiple g odds p) = capped_none limit _ more_is z in
          let less : lcm_to (n + 1) (order_multiple g odds p) ≤ smallest_d g odds p = rw (← by_order) (NatL.le_of_dvd positive (lcm_to_fewer (order_multiple g odds p) g.sets (n + 1) order_positive (omega arith))) in
          record { answer = sym (capped_above limit (smallest_d g odds p) (omega arith)); probabilities = tt }

-- an array has the odds of some sheet
abbrev pub own_odds : Game → Player → List ℕ → Odds
own_odds g p x h m = item x (move_number g p (h, m))

pub own_odds_lem : (g : Game) (p : Player) (x : List ℕ) → sequence_count g p ≤ length x → OddsByNumber g p (own_odds g p x) x
own_odds_lem g p x l = record { long = l; at = λ h m v. refl }

-- what is asked at place i, once the sets before it are taken
pub asked_at : {sets : ℕ} {p : Player} {numbers x numerators₀ denominators₀ : List ℕ} {limit : ℕ} (A : AllAsked sets numbers x numerators₀ denominators₀ limit) → sequence_count A.game p ≤ length x → {i multiple : ℕ} {numerators denominators : List ℕ} → i < sets → Taken A.loaded.rules (own_odds A.game p x) p limit i multiple numerators denominators → NextAsked i p numbers x numerators denominators multiple limit
asked_at {p = p} {x = x} A long l K = record {
  place = record { game = A.game; counts = A.counts; loaded = A.loaded; inside = omega (arith, l, A.sets_are) };
  odds = own_odds A.game p x;
  odds_are = own_odds_lem A.game p x long;
  probabilities = K.probabilities;
  within = K.within;
}
