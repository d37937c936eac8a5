-- W-201: the probabilities that odds give, the smallest denominator that serves, and the plan made of a sheet.
use Prim.Native.Nat.{ℕ, ◌*◌, ◌/◌, ◌≤◌, ◌<◌, ◌∣◌}
use mathlib.Core.Path.{◌≡◌, sym, ap, ◌∙◌}
use mathlib.Core.Logic.{◌↔◌}
use mathlib.Core.Bool.{Bool, ◌&&◌, cond, and-true, and_assoc}
use mathlib.Core.List.{[], ◌∷◌}
use native.Mathlib.Omega.{arith}
use native.Mathlib.Nat as NatL
use native.Mathlib.Decide.{dec_lt}
use lib.Dec.{T, ltb, ltb→lt, lt→ltb}
use mir.Facts.{and_yes, yes_and}
use lib.IntN.{pos}
use Rattle.algebra.specs.Bounded.{total_to}
use Rattle.algebra.specs.Divisors.{gcd}
use Rattle.algebra.proofs.Divisors.{whole_iff, divided_positive, lcm_to_positive, lcm_to_iff}
use Rattle.algebra.proofs.Tests.{dec, cond_yes, cond_no, implies_use}
use Rattle.algebra.proofs.Searches.{all_to_at}
use Rattle.algebra.proofs.Totals.{count_cong, count_zero, count_scale, count_term}
use Rattle.model.specs.Game.{Game, Player, owns}
use Rattle.model.specs.Sequences.{Sequence, extended, leading}
use Rattle.model.specs.Plan.{sequence_weight, Fits}
use Rattle.model.specs.Earnings.{◌over◌, Equal}
use Rattle.model.specs.Rules.{GameRules}
use Rattle.model.proofs.Sequences.{weight_empty, weight_extended}
use Rattle.model.proofs.Tree.{IsSequence, empty, after, leading_sequence, along_sequences}
use Rattle.model.specs.Sheet.{Odds, odds_total, no_zero_odds, odds_along, totals_along, odds_numerator, odds_denominator, odds_probability, lowest_denominator, Serves, set_multiple, smallest_d, weight_over, plan_from, odds_given}

module _ (g : Game) (odds : Odds) where
  -- one more move
  pub no_zero_extended : (s : Sequence) (h m : ℕ) → no_zero_odds g odds (extended s h m) ≡ (no_zero_odds g odds s && ltb 0 (odds h m))
  unfolding no_zero_odds
  no_zero_extended [] h m = and-true (ltb 0 (odds h m))
  no_zero_extended (x ∷ s) h m = ap (λ (b : Bool). ltb 0 (odds x.0 x.1) && b) (no_zero_extended s h m) ∙ sym (and_assoc (ltb 0 (odds x.0 x.1)) (no_zero_odds g odds s) (ltb 0 (odds h m)))

  odds_extended : (s : Sequence) (h m : ℕ) → odds_along g odds (extended s h m) ≡ odds_along g odds s * odds h m
  unfolding odds_along
  odds_extended [] h m = omega arith
  odds_extended (x ∷ s) h m = ap (λ (k : ℕ). odds x.0 x.1 * k) (odds_extended s h m) ∙ sym (NatL.mul_assoc (odds x.0 x.1) (odds_along g odds s) (odds h m))

  totals_extended : (s : Sequence) (h m : ℕ) → totals_along g odds (extended s h m) ≡ totals_along g odds s * odds_total g odds h
  unfolding totals_along
  totals_extended [] h m = omega arith
  totals_extended (x ∷ s) h m = ap (λ (k : ℕ). odds_total g odds x.0 * k) (totals_extended s h m) ∙ sym (NatL.mul_assoc (odds_total g odds x.0) (totals_along g odds s) (odds_total g odds h))

  -- the sequence is arrived at
  abbrev pub Arrives : Sequence → Type 0
  Arrives s = T (no_zero_odds g odds s)

  -- one more move, where it is arrived at
  pub arrives_before : (s : Sequence) (h m : ℕ) → Arrives (extended s h m) → Arrives s × (0 < odds h m)
  arrives_before s h m t = let a = and_yes (no_zero_odds g odds s) (ltb 0 (odds h m)) (rw (no_zero_extended s h m) at t) in (a.0, ltb→lt 0 (odds h m) a.1)

  pub arrives_after : (s : Sequence) (h m : ℕ) → Arrives s → 0 < odds h m → Arrives (extended s h m)
  arrives_after s h m t l = rw (no_zero_extended s h m) (yes_and (no_zero_odds g odds s) (ltb 0 (odds h m)) t (lt→ltb 0 (odds h m) l))

  -- the probability there, and elsewhere
  numerator_arrived : (s : Sequence) → Arrives s → odds_numerator g odds s ≡ odds_along g odds s
  unfolding odds_numerator
  numerator_arrived s t = cond_yes (no_zero_odds g odds s) (odds_along g odds s) 0 t

  pub numerator_never : (s : Sequence) → ¬ Arrives s → odds_numerator g odds s ≡ 0
  unfolding odds_numerator
  numerator_never s n = cond_no (no_zero_odds g odds s) (odds_along g odds s) 0 n

  denominator_arrived : (s : Sequence) → Arrives s → odds_denominator g odds s ≡ totals_along g odds s
  unfolding odds_denominator
  denominator_arrived s t = cond_yes (no_zero_odds g odds s) (totals_along g odds s) 1 t

  pub denominator_never : (s : Sequence) → ¬ Arrives s → odds_denominator g odds s ≡ 1
  unfolding odds_denominator
  denominator_never s n = cond_no (no_zero_odds g odds s) (totals_along g odds s) 1 n

  -- of the empty sequence, 1 over 1
  pub arrives_empty : Arrives []
  unfolding no_zero_odds
  arrives_empty = tt

  pub numerator_empty : odds_numerator g odds [] ≡ 1
  unfolding odds_along
  numerator_empty = numerator_arrived [] arrives_empty

  pub denominator_empty : odds_denominator g odds [] ≡ 1
  unfolding totals_along
  denominator_empty = denominator_arrived [] arrives_empty

  -- over any d, a sequence that is never arrived at has the weight 0
  pub weight_never : (d : ℕ) (s : Sequence) → ¬ Arrives s → weight_over g odds d s ≡ 0
  unfolding weight_over
  weight_never d s n = rw (numerator_never s n, denominator_never s n, NatL.mul-zero d) (NatL.div-one 0)

  -- and the empty one d
  pub weight_none : (d : ℕ) → weight_over g odds d [] ≡ d
  unfolding weight_over
  weight_none d = rw (numerator_empty, denominator_empty, NatL.mul-one d) (NatL.div-one d)

  -- of a sequence with a move more
  pub numerator_extended : (s : Sequence) (h m : ℕ) → Arrives s → 0 < odds h m → odds_numerator g odds (extended s h m) ≡ odds_numerator g odds s * odds h m
  numerator_extended s h m t l = numerator_arrived (extended s h m) (arrives_after s h m t l) ∙ odds_extended s h m ∙ ap (λ (k : ℕ). k * odds h m) (sym (numerator_arrived s t))

  pub denominator_extended : (s : Sequence) (h m : ℕ) → Arrives s → 0 < odds h m → odds_denominator g odds (extended s h m) ≡ odds_denominator g odds s * odds_total g odds h
  denominator_extended s h m t l = denominator_arrived (extended s h m) (arrives_after s h m t l) ∙ totals_extended s h m ∙ ap (λ (k : ℕ). k * odds_total g odds h) (sym (denominator_arrived s t))

  -- a set with odds that are not 0 has a total that is not
  total_positive : (h m : ℕ) → m < g.set_moves h → 0 < odds h m → 0 < odds_total g odds h
  unfolding odds_total
  total_positive h m v l = omega (arith, count_term (g.set_moves h) (odds h) m v)

  module _ (R : GameRules g) (p : Player) where
    -- no denominator is 0
    pub denominator_positive : (s : Sequence) → IsSequence g p s → 0 < odds_denominator g odds s
    denominator_positive =
        along_sequences g R p (λ s. 0 < odds_denominator g odds s) (omega (arith, denominator_empty)) (λ h m l o v before.
        elim (dec (no_zero_odds g odds (extended (leading g h) h m))) [
          | yes t ↦
              let a = arrives_before (leading g h) h m t in
              rw (denominator_extended (leading g h) h m a.0 a.1) (NatL.mul-pos before (total_positive h m v a.1))
          | no n ↦ omega (arith, denominator_never (extended (leading g h) h m) n)
        ])

    -- what is arrived at has a probability above 0
    pub numerator_positive : (s : Sequence) → IsSequence g p s → Arrives s → 0 < odds_numerator g odds s
    numerator_positive =
        along_sequences g R p (λ s. Arrives s → 0 < odds_numerator g odds s) (λ t. omega (arith, numerator_empty)) (λ h m l o v before t.
        let a = arrives_before (leading g h) h m t in
        rw (numerator_extended (leading g h) h m a.0 a.1) (NatL.mul-pos (before a.0) a.1))

    -- no denominator in lowest terms is 0
    pub lowest_positive : (s : Sequence) → IsSequence g p s → 0 < lowest_denominator g odds s
    unfolding lowest_denominator
    lowest_positive s i = divided_positive (odds_numerator g odds s) (odds_denominator g odds s) (denominator_positive s i)

    -- so the multiple of a set of p's is not
    set_positive : (h : ℕ) → h < g.sets → T (owns g p h) → 0 < set_multiple g odds h
    unfolding set_multiple
    set_positive h l o = lcm_to_positive _ (g.set_moves h) (λ m v. lowest_positive (extended (leading g h) h m) (after {h = h} {m = m} l o v))

    pub own_positive : (h : ℕ) → h < g.sets → 0 < cond (owns g p h) (set_multiple g odds h) 1
    own_positive h l =
        elim (dec (owns g p h)) [
          | yes o ↦ rw (cond_yes {A = ℕ} (owns g p h) (set_multiple g odds h) 1 o) (set_positive h l o)
          | no o ↦ omega (arith, cond_no {A = ℕ} (owns g p h) (set_multiple g odds h) 1 o)
        ]

    -- the smallest D is above 0
    pub smallest_positive : 0 < smallest_d g odds p
    unfolding smallest_d
    smallest_positive = lcm_to_positive _ g.sets own_positive

    -- the multiple of a set divides d exactly where over d the weights of its moves are whole
    set_iff : (d h : ℕ) → h < g.sets → (o : T (owns g p h)) → (set_multiple g odds h ∣ d) ↔ ((m : ℕ) → m < g.set_moves h → let s = extended (leading g h) h m in odds_denominator g odds s ∣ d * odds_numerator g odds s)
    unfolding set_multiple lowest_denominator
    set_iff d h l o =
        let f : ℕ → ℕ = λ m. lowest_denominator g odds (extended (leading g h) h m) in
        let all = lcm_to_iff f (g.set_moves h) d (λ m v. lowest_positive (extended (leading g h) h m) (after {h = h} {m = m} l o v)) in
        let one_move : (m : ℕ) → m < g.set_moves h → let s = extended (leading g h) h m in (odds_denominator g odds s ∣ d * odds_numerator g odds s) ↔ (odds_denominator g odds s / gcd (odds_numerator g odds s) (odds_denominator g odds s) ∣ d) =
        λ m v. whole_iff (odds_numerator g odds (extended (leading g h) h m)) (odds_denominator g odds (extended (leading g h) h m)) d (denominator_positive (extended (leading g h) h m) (after {h = h} {m = m} l o v)) in (
          λ t m v. (one_move m v).1 (all.0 t m v),
          λ t. all.1 (λ m v. (one_move m v).0 (t m v)),
        )

    -- d serves exactly where the smallest D divides it
    pub serves_iff : (d : ℕ) → Serves g odds p d ↔ (smallest_d g odds p ∣ d)
    unfolding smallest_d Serves
    serves_iff d =
        let f : ℕ → ℕ = λ h. cond (owns g p h) (set_multiple g odds h) 1 in
        let all = lcm_to_iff f g.sets d own_positive in (
          λ t. all.1 (λ h l. elim (dec (owns g p h)) [
            | yes o ↦ rw (cond_yes {A = ℕ} (owns g p h) (set_multiple g odds h) 1 o) ((set_iff d h l o).1 (λ m v. t h m (record { set = l; owned = o; move = v })))
            | no o ↦ rw (cond_no {A = ℕ} (owns g p h) (set_multiple g odds h) 1 o) (NatL.one-dvd d)
          ]),
          λ t h m v. (set_iff d h v.set v.owned).0 (rw (cond_yes {A = ℕ} (owns g p h) (set_multiple g odds h) 1 v.owned) at (all.0 t h v.set)) m v.move,
        )

    -- it serves itself
    pub smallest_serves : Serves g odds p (smallest_d g odds p)
    smallest_serves = (serves_iff (smallest_d g odds p)).1 (NatL.dvd_refl (smallest_d g odds p))

    -- and none smaller does
    pub smallest_least : (d : ℕ) → 0 < d → Serves g odds p d → smallest_d g odds p ≤ d
    smallest_least d some t = NatL.le_of_dvd some ((serves_iff d).0 t)

    -- 21: the smallest D is above the limit exactly where "no D up to [the limit] serves"
    pub limit_iff : (limit : ℕ) → (limit < smallest_d g odds p) ↔ ((d : ℕ) → 0 < d → d ≤ limit → ¬ Serves g odds p d)
    limit_iff limit = (
      λ l d some most t. omega (arith, smallest_least d some t),
      λ none. elim (dec_lt limit (smallest_d g odds p)) [
        | yes l ↦ l
        | no l ↦ absurd (none (smallest_d g odds p) smallest_positive (omega arith) smallest_serves)
      ],
    )

    -- Over a denominator that serves, the weight of a sequence is its probability times the denominator.
    module _ (d : ℕ) (S : Serves g odds p d) where
      denominator_divides : (s : Sequence) → IsSequence g p s → odds_denominator g odds s ∣ d * odds_numerator g odds s
      unfolding Serves
      denominator_divides s empty = rw denominator_empty (NatL.one-dvd (d * odds_numerator g odds []))
      denominator_divides s (after {h = h} {m = m} l o v) = S h m (record { set = l; owned = o; move = v })

      pub weight_exact : (s : Sequence) → IsSequence g p s → weight_over g odds d s * odds_denominator g odds s ≡ d * odds_numerator g odds s
      unfolding weight_over
      weight_exact s i = NatL.div-mul_cancel (odds_denominator g odds s) (denominator_divides s i)

      -- the weight of a move, over both denominators
      pub move_exact : (h m : ℕ) → h < g.sets → T (owns g p h) → m < g.set_moves h → Arrives (leading g h) → weight_over g odds d (extended (leading g h) h m) * (odds_denominator g odds (leading g h) * odds_total g odds h) ≡ d * odds_numerator g odds (leading g h) * odds h m
      move_exact h m l o v t =
          let s = leading g h in
          elim (dec_lt 0 (odds h m)) [
            | yes some ↦
                ap (λ (k : ℕ). weight_over g odds d (extended s h m) * k) (sym (denominator_extended s h m t some))
                ∙ weight_exact (extended s h m) (after {h = h} {m = m} l o v)
                ∙ ap (λ (k : ℕ). d * k) (numerator_extended s h m t some)
                ∙ sym (NatL.mul_assoc d (odds_numerator g odds s) (odds h m))
            | no none ↦
                let z : odds h m ≡ 0 = omega arith in
                ap (λ (k : ℕ). k * (odds_denominator g odds s * odds_total g odds h)) (weight_never d (extended s h m) (λ u. none (arrives_before s h m u).1))
                ∙ NatL.zero-mul (odds_denominator g odds s * odds_total g odds h)
                ∙ sym (NatL.mul-zero (d * odds_numerator g odds s))
                ∙ ap (λ (k : ℕ). d * odds_numerator g odds s * k) (sym z)
          ]

      -- at each set the weights add up, where 20 does not apply
      weights_add : (h : ℕ) → h < g.sets → T (owns g p h) → (Arrives (leading g h) → 0 < odds_total g odds h) → total_to (g.set_moves h) (λ m. weight_over g odds d (extended (leading g h) h m)) ≡ weight_over g odds d (leading g h)
      unfolding odds_total
      weights_add h l o given =
          let s = leading g h in
          let w : ℕ → ℕ = λ m. weight_over g odds d (extended s h m) in
          let a = odds_numerator g odds s in
          let b = odds_denominator g odds s in
          let t = odds_total g odds h in
          elim (dec (no_zero_odds g odds s)) [
            | yes arrived ↦
                let positive : 0 < b * t = NatL.mul-pos (denominator_positive s (leading_sequence g R p h l o)) (given arrived) in
                let total : total_to (g.set_moves h) (λ m. b * t * w m) ≡ total_to (g.set_moves h) (λ m. d * a * odds h m) =
                count_cong (g.set_moves h) _ _ (λ m v. NatL.mul_comm (b * t) (w m) ∙ move_exact h m l o v arrived) in
                NatL.eq_of_mul-eq-mul_left (b * t) positive (total_to (g.set_moves h) w) (weight_over g odds d s)
                (count_scale (g.set_moves h) (b * t) w ∙ total ∙ sym (count_scale (g.set_moves h) (d * a) (odds h))
                ∙ ap (λ (k : ℕ). k * total_to (g.set_moves h) (odds h)) (sym (weight_exact s (leading_sequence g R p h l o)))
                ∙ NatL.mul_assoc (weight_over g odds d s) b t ∙ NatL.mul_comm (weight_over g odds d s) (b * t))
            | no never ↦
                count_zero (g.set_moves h) w (λ m v. weight_never d (extended s h m) (λ u. never (arrives_before s h m u).0))
                ∙ sym (weight_never d s never)
          ]

    -- The plan made of a sheet.
    -- each of its sequences has the weight that the odds give it
    pub made_weight : (s : Sequence) → IsSequence g p s → sequence_weight (plan_from g odds p) s ≡ weight_over g odds (smallest_d g odds p) s
    unfolding plan_from
    made_weight s empty = weight_empty (plan_from g odds p) ∙ sym (weight_none (smallest_d g odds p))
    made_weight s (after {h = h} {m = m} l o v) = weight_extended (plan_from g odds p) (leading g h) h m

    -- 20, read
    pub given_at_lem : T (odds_given g odds) → (h : ℕ) → h < g.sets → Arrives (leading g h) → 0 < odds_total g odds h
    unfolding odds_given
    given_at_lem t h l a = ltb→lt 0 (odds_total g odds h) (implies_use (no_zero_odds g odds (leading g h)) (ltb 0 (odds_total g odds h)) (all_to_at g.sets _ t h l) a)

    -- the plan made fits
    pub made_fits : T (odds_given g odds) → Fits g p (plan_from g odds p)
    unfolding plan_from
    made_fits t h l o = weights_add (smallest_d g odds p) smallest_serves h l o (given_at_lem t h l) ∙ sym (made_weight (leading g h) (leading_sequence g R p h l o))

    -- and gives each sequence the probability that the odds give it
    pub made_exact : (s : Sequence) → IsSequence g p s → sequence_weight (plan_from g odds p) s * odds_denominator g odds s ≡ smallest_d g odds p * odds_numerator g odds s
    made_exact s i = ap (λ (k : ℕ). k * odds_denominator g odds s) (made_weight s i) ∙ weight_exact (smallest_d g odds p) smallest_serves s i

    pub made_probability : (s : Sequence) → IsSequence g p s → Equal (pos (sequence_weight (plan_from g odds p) s) over smallest_d g odds p) (odds_probability g odds s)
    unfolding odds_probability
    made_probability s i = ap pos (NatL.mul_comm (odds_denominator g odds s) (sequence_weight (plan_from g odds p) s) ∙ made_exact s i)
