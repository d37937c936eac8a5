-- W-201: "Plan to sheet to plan must give equal probabilities over the smallest D, and a plan already over the smallest D must come back".
use Prim.Native.Nat.{ℕ, ◌*◌, ◌/◌, ◌≤◌, ◌<◌, ◌∣◌}
use mathlib.Core.Path.{◌≡◌, sym, ap, ◌∙◌, subst}
use mathlib.Core.Logic.{◌↔◌}
use mathlib.Core.Bool.{cond}
use mathlib.Core.List.{[]}
use native.Mathlib.Omega.{arith}
use native.Mathlib.Nat as NatL
use native.Mathlib.Decide.{dec_lt}
use lib.Dec.{T, ltb, ltb→lt, lt→ltb}
use lib.IntN.{pos}
use Rattle.algebra.proofs.Tests.{dec, cond_yes, cond_no}
use Rattle.algebra.proofs.Totals.{count_cong, count_term}
use Rattle.algebra.specs.Divisors.{gcd_to}
use Rattle.algebra.proofs.Divisors.{factors_positive, gcd_is, gcd_scale, gcd_to_at, gcd_to_greatest, gcd_to_scale, gcd_to_part, gcd_to_sum, proportion}
use Rattle.model.specs.Game.{Game, Player, owns}
use Rattle.model.specs.Sequences.{Sequence, extended, leading}
use Rattle.model.specs.Plan.{RealizationPlan, sequence_weight, Fits}
use Rattle.model.specs.Earnings.{◌over◌, Equal}
use Rattle.model.specs.Rules.{GameRules}
use Rattle.model.proofs.Sequences.{weight_empty, weight_extended}
use Rattle.model.proofs.Tree.{IsSequence, after, leading_sequence, along_sequences}
use Rattle.model.specs.Sheet.{Odds, MoveOf, odds_total, no_zero_odds, odds_numerator, odds_denominator, Serves, smallest_d, plan_from, odds_given, odds_at, OverSmallest, plan_divisor}
use Rattle.model.proofs.Sheets.{Arrives, arrives_before, arrives_after, arrives_empty, numerator_empty, denominator_empty, numerator_never, numerator_extended, denominator_extended, denominator_positive, smallest_positive, smallest_serves, smallest_least, serves_iff, made_exact, made_weight, move_exact, weight_never, given_at_lem, numerator_positive}

-- a product above 0 has a first factor above 0
factor_positive : (k t w : ℕ) → k * t ≡ w → 0 < w → 0 < k
factor_positive k t w e l = (factors_positive k t (rw e l)).0

-- A plan of p's that fits, and odds that are its own at p's sets.
module _ (g : Game) (R : GameRules g) (p : Player) (x : RealizationPlan) (F : Fits g p x) (some : 0 < x.denominator) (odds : Odds) (is : (h m : ℕ) → h < g.sets → T (owns g p h) → m < g.set_moves h → odds h m ≡ odds_at g x h m) where
  -- where the plan arrives, the odds times the greatest common divisor are the weights
  module _ (h : ℕ) (l : h < g.sets) (o : T (owns g p h)) where
    abbrev divisor : ℕ
    divisor = gcd_to (g.set_moves h) (x.move_weight h)

    odds_there : 0 < sequence_weight x (leading g h) → (m : ℕ) → m < g.set_moves h → odds h m ≡ x.move_weight h m / divisor
    unfolding odds_at
    odds_there w m v = is h m l o v ∙ cond_yes {A = ℕ} (ltb 0 (sequence_weight x (leading g h))) _ 0 (lt→ltb 0 (sequence_weight x (leading g h)) w)

    odds_times : 0 < sequence_weight x (leading g h) → (m : ℕ) → m < g.set_moves h → divisor * odds h m ≡ x.move_weight h m
    odds_times w m v = ap (λ (k : ℕ). divisor * k) (odds_there w m v) ∙ gcd_to_part (x.move_weight h) (g.set_moves h) m v

    total_times : 0 < sequence_weight x (leading g h) → divisor * odds_total g odds h ≡ sequence_weight x (leading g h)
    unfolding odds_total
    total_times w =
        ap (λ (k : ℕ). divisor * k) (count_cong (g.set_moves h) (odds h) (λ m. x.move_weight h m / divisor) (λ m v. odds_there w m v))
        ∙ gcd_to_sum (x.move_weight h) (g.set_moves h)
        ∙ F h l o

    -- "all zeros where the plan never arrives"
    zeros_elsewhere : sequence_weight x (leading g h) ≡ 0 → (m : ℕ) → m < g.set_moves h → odds h m ≡ 0
    unfolding odds_at
    zeros_elsewhere z m v = is h m l o v ∙ cond_no {A = ℕ} (ltb 0 (sequence_weight x (leading g h))) _ 0 (λ t. omega (arith, ltb→lt 0 (sequence_weight x (leading g h)) t))

    weights_elsewhere : sequence_weight x (leading g h) ≡ 0 → (m : ℕ) → m < g.set_moves h → x.move_weight h m ≡ 0
    weights_elsewhere z m v = omega (arith, count_term (g.set_moves h) (x.move_weight h) m v, F h l o)

  -- what holds of every sequence: it is arrived at where its weight is not 0, and its probability is its weight over the denominator
  pub record Same (s : Sequence) : Type 0 where
    pub arrived : (0 < sequence_weight x s) ↔ Arrives g odds s
    pub exact : sequence_weight x s * odds_denominator g odds s ≡ x.denominator * odds_numerator g odds s

  same_probability : (s : Sequence) → IsSequence g p s → Same s
  same_probability = along_sequences g R p Same none more
    where
      none : Same []
      none = record {
        arrived = (λ l. arrives_empty g odds, λ t. rw (weight_empty x) some);
        exact = rw (weight_empty x, denominator_empty g odds, numerator_empty g odds);
      }

      -- a move that is never made
      gone : (h m : ℕ) → odds h m ≡ 0 → x.move_weight h m ≡ 0 → Same (extended (leading g h) h m)
      gone h m z w =
          let s = extended (leading g h) h m in
          let never : ¬ Arrives g odds s = λ t. let a = (arrives_before g odds (leading g h) h m t).1 in omega arith in
          record {
            arrived = (λ u. let e = weight_extended x (leading g h) h m in absurd (omega arith), λ t. absurd (never t));
            exact = rw (weight_extended x (leading g h) h m, w, numerator_never g odds s never, NatL.mul-zero x.denominator) (NatL.zero-mul (odds_denominator g odds s));
          }

      more : (h m : ℕ) → h < g.sets → T (owns g p h) → m < g.set_moves h → Same (leading g h) → Same (extended (leading g h) h m)
      more h m l o v before =
          let s = leading g h in
          let W = sequence_weight x s in
          let k = divisor h l o in
          elim (dec_lt 0 W) [
            | yes w ↦
                let e = odds_times h l o w m v in
                let f = total_times h l o w in
                elim (dec_lt 0 (odds h m)) [
                  | yes u ↦
                      let a = odds_numerator g odds s in
                      let b = odds_denominator g odds s in
                      let t = odds_total g odds h in
                      let arrives = before.arrived.0 w in
                      let positive : 0 < x.move_weight h m = subst (λ (n : ℕ). 0 < n) e (NatL.mul-pos (factor_positive k t W f w) u) in
                      record {
                        arrived = (λ n. arrives_after g odds s h m arrives u, λ n. rw (weight_extended x s h m) positive);
                        exact =
                            (λ i. weight_extended x s h m i * denominator_extended g odds s h m arrives u i)
                            ∙ ap (λ (n : ℕ). n * (b * t)) (sym e ∙ NatL.mul_comm k (odds h m))
                            ∙ NatL.mul-mul-mul_comm (odds h m) k b t
                            ∙ ap (λ (n : ℕ). odds h m * b * n) f
                            ∙ NatL.mul_assoc (odds h m) b W
                            ∙ ap (λ (n : ℕ). odds h m * n) (NatL.mul_comm b W ∙ before.exact)
                            ∙ NatL.mul_comm (odds h m) (x.denominator * a)
                            ∙ NatL.mul_assoc x.denominator a (odds h m)
                            ∙ ap (λ (n : ℕ). x.denominator * n) (sym (numerator_extended g odds s h m arrives u));
                      }
                  | no n ↦ let z : odds h m ≡ 0 = omega arith in gone h m z (sym e ∙ ap (λ (j : ℕ). k * j) z ∙ NatL.mul-zero k)
                ]
            | no n ↦ let z : W ≡ 0 = omega arith in gone h m (zeros_elsewhere h l o z m v) (weights_elsewhere h l o z m v)
          ]

  -- 20 does not apply to the sheet
  pub total_given : (h : ℕ) → h < g.sets → T (owns g p h) → Arrives g odds (leading g h) → 0 < odds_total g odds h
  total_given h l o t =
      let w = (same_probability (leading g h) (leading_sequence g R p h l o)).arrived.1 t in
      let f = total_times h l o w in
      factor_positive (odds_total g odds h) (divisor h l o) (sequence_weight x (leading g h)) (NatL.mul_comm (odds_total g odds h) (divisor h l o) ∙ f) w

  -- the plan's own denominator serves
  own_serves : Serves g odds p x.denominator
  unfolding Serves
  own_serves h m v =
      let s = extended (leading g h) h m in
      subst (λ (k : ℕ). odds_denominator g odds s ∣ k) (same_probability s (after {h = h} {m = m} v.set v.owned v.move)).exact (NatL.dvd-mul_left (odds_denominator g odds s) (sequence_weight x s))

  -- so the smallest divides it, and 21 does not apply where the plan's is in the limit
  smallest_divides : smallest_d g odds p ∣ x.denominator
  smallest_divides = (serves_iff g odds R p x.denominator).0 own_serves

  pub smallest_at_most : smallest_d g odds p ≤ x.denominator
  smallest_at_most = NatL.le_of_dvd some smallest_divides

  -- the weight of a sequence in the plan that comes back, over its denominator, is that in the plan, over its
  trip_weights : (s : Sequence) → IsSequence g p s → sequence_weight (plan_from g odds p) s * x.denominator ≡ sequence_weight x s * smallest_d g odds p
  trip_weights s i =
      let d = smallest_d g odds p in
      let a = odds_numerator g odds s in
      let b = odds_denominator g odds s in
      let w = sequence_weight x s in
      let v = sequence_weight (plan_from g odds p) s in
      NatL.eq_of_mul-eq-mul_right b (denominator_positive g odds R p s i) (v * x.denominator) (w * d)
      (NatL.mul_right_comm v x.denominator b
      ∙ ap (λ (n : ℕ). n * x.denominator) (made_exact g odds R p s i)
      ∙ NatL.mul_assoc d a x.denominator
      ∙ ap (λ (n : ℕ). d * n) (NatL.mul_comm a x.denominator ∙ sym (same_probability s i).exact)
      ∙ sym (NatL.mul_assoc d w b)
      ∙ ap (λ (n : ℕ). n * b) (NatL.mul_comm d w))

  -- "Plan to sheet to plan must give equal probabilities"
  pub trip_probability : (s : Sequence) → IsSequence g p s → Equal (pos (sequence_weight (plan_from g odds p) s) over smallest_d g odds p) (pos (sequence_weight x s) over x.denominator)
  trip_probability s i =
      ap pos (NatL.mul_comm x.denominator (sequence_weight (plan_from g odds p) s) ∙ trip_weights s i ∙ NatL.mul_comm (sequence_weight x s) (smallest_d g odds p))

  -- "a plan already over the smallest D must come back": its denominator
  module _ (least : OverSmallest g p x) where
    pub trip_denominator : smallest_d g odds p ≡ x.denominator
    unfolding OverSmallest
    trip_denominator =
        NatL.le_antisymm smallest_at_most
        (least (smallest_d g odds p) (smallest_positive g odds R p) (λ h m v.
        let s = extended (leading g h) h m in
        subst (λ (k : ℕ). x.denominator ∣ k)
        (trip_weights s (after {h = h} {m = m} v.set v.owned v.move) ∙ NatL.mul_comm (sequence_weight x s) (smallest_d g odds p) ∙ ap (λ (k : ℕ). smallest_d g odds p * k) (weight_extended x (leading g h) h m))
        (NatL.dvd-mul_left x.denominator (sequence_weight (plan_from g odds p) s))))

    -- and its weights
    pub trip_same : (h m : ℕ) → h < g.sets → T (owns g p h) → m < g.set_moves h → (plan_from g odds p).move_weight h m ≡ x.move_weight h m
    trip_same h m l o v =
        let s = extended (leading g h) h m in
        NatL.eq_of_mul-eq-mul_right x.denominator some ((plan_from g odds p).move_weight h m) (x.move_weight h m)
        (ap (λ (k : ℕ). k * x.denominator) (sym (weight_extended (plan_from g odds p) (leading g h) h m))
        ∙ trip_weights s (after {h = h} {m = m} l o v)
        ∙ (λ i. weight_extended x (leading g h) h m i * trip_denominator i))

-- the plan made of a sheet is over the smallest D
pub made_over_smallest : (g : Game) (R : GameRules g) (odds : Odds) (p : Player) → OverSmallest g p (plan_from g odds p)
unfolding OverSmallest plan_from Serves
made_over_smallest g R odds p d some whole =
    smallest_least g odds R p d some (λ h m v.
    let s = extended (leading g h) h m in
    let D = smallest_d g odds p in
    let a = odds_numerator g odds s in
    let b = odds_denominator g odds s in
    let w = (plan_from g odds p).move_weight h m in
    let exact : w * b ≡ D * a = ap (λ (k : ℕ). k * b) (sym (weight_extended (plan_from g odds p) (leading g h) h m)) ∙ made_exact g odds R p s (after {h = h} {m = m} v.set v.owned v.move) in
    NatL.dvd_of_mul-dvd-mul_left b (smallest_positive g odds R p)
    (subst (λ (k : ℕ). D * b ∣ k) (NatL.mul_assoc d w b ∙ ap (λ (k : ℕ). d * k) exact ∙ NatL.mul_left_comm d D a) (NatL.mul-dvd-mul_right D (whole h m v) b)))

-- Sheet to plan to sheet: at a set that is arrived at the odds come back divided by their greatest common divisor, and elsewhere all zeros.
pub sheet_trip : (g : Game) (R : GameRules g) (odds : Odds) (p : Player) → T (odds_given g odds) → (h m : ℕ) → h < g.sets → T (owns g p h) → m < g.set_moves h → odds_at g (plan_from g odds p) h m ≡ cond (no_zero_odds g odds (leading g h)) (odds h m / gcd_to (g.set_moves h) (odds h)) 0
unfolding odds_at plan_from
sheet_trip g R odds p given h m l o v =
    let s = leading g h in
    let i = leading_sequence g R p h l o in
    let x = plan_from g odds p in
    let D = smallest_d g odds p in
    let W = sequence_weight x s in
    let a = odds_numerator g odds s in
    let b = odds_denominator g odds s in
    let t = odds_total g odds h in
    let exact : W * b ≡ D * a = made_exact g odds R p s i in
    elim (dec (no_zero_odds g odds s)) [
      | yes arrives ↦
          let k : 0 < b * t = NatL.mul-pos (denominator_positive g odds R p s i) (given_at_lem g odds R p given h l arrives) in
          let n : 0 < D * a = NatL.mul-pos (smallest_positive g odds R p) (numerator_positive g odds R p s i arrives) in
          let some : 0 < W = factor_positive W b (D * a) exact n in
          cond_yes {A = ℕ} (ltb 0 W) _ 0 (lt→ltb 0 W some)
          ∙ proportion (b * t) (D * a) (g.set_moves h) (x.move_weight h) (odds h) k n (λ j u. NatL.mul_comm (b * t) (x.move_weight h j) ∙ move_exact g odds R p D (smallest_serves g odds R p) h j l o u arrives) m v
          ∙ sym (cond_yes {A = ℕ} (no_zero_odds g odds s) (odds h m / gcd_to (g.set_moves h) (odds h)) 0 arrives)
      | no never ↦
          let z : W ≡ 0 = made_weight g odds R p s i ∙ weight_never g odds D s never in
          cond_no {A = ℕ} (ltb 0 W) _ 0 (λ t. omega (arith, ltb→lt 0 W t))
          ∙ sym (cond_no {A = ℕ} (no_zero_odds g odds s) (odds h m / gcd_to (g.set_moves h) (odds h)) 0 never)
    ]

-- A plan is over the smallest D exactly where its denominator and its weights have no common divisor but 1.
module _ (g : Game) (p : Player) (x : RealizationPlan) (some : 0 < x.denominator) where
  -- the common divisor of a set's weights; 0, which all divide, where the set is not p's
  set_divisor : ℕ → ℕ
  set_divisor h = cond (owns g p h) (gcd_to (g.set_moves h) (x.move_weight h)) 0

  -- it divides each weight
  divides_weight : (h m : ℕ) → MoveOf g p h m → plan_divisor g p x ∣ x.move_weight h m
  unfolding plan_divisor set_divisor
  divides_weight h m v =
      NatL.dvd_trans (plan_divisor g p x) (gcd_is x.denominator (gcd_to g.sets set_divisor)).right
      (NatL.dvd_trans (gcd_to g.sets set_divisor)
      (subst (λ (k : ℕ). gcd_to g.sets set_divisor ∣ k) (cond_yes {A = ℕ} (owns g p h) (gcd_to (g.set_moves h) (x.move_weight h)) 0 v.owned) (gcd_to_at set_divisor g.sets h v.set))
      (gcd_to_at (x.move_weight h) (g.set_moves h) m v.move))

  -- what divides d times the denominator and d times each weight divides d times it
  divides_scaled : (D d : ℕ) → D ∣ d * x.denominator → ((h m : ℕ) → MoveOf g p h m → D ∣ d * x.move_weight h m) → D ∣ d * plan_divisor g p x
  unfolding plan_divisor set_divisor
  divides_scaled D d first each =
      subst (λ (k : ℕ). D ∣ k) (gcd_scale d x.denominator (gcd_to g.sets set_divisor))
      ((gcd_is (d * x.denominator) (d * gcd_to g.sets set_divisor)).greatest D first
      (subst (λ (k : ℕ). D ∣ k) (gcd_to_scale d g.sets set_divisor)
      (gcd_to_greatest (λ h. d * set_divisor h) g.sets D (λ h l.
      elim (dec (owns g p h)) [
        | yes o ↦
            rw (cond_yes {A = ℕ} (owns g p h) (gcd_to (g.set_moves h) (x.move_weight h)) 0 o)
            (subst (λ (k : ℕ). D ∣ k) (gcd_to_scale d (g.set_moves h) (x.move_weight h)) (gcd_to_greatest (λ m. d * x.move_weight h m) (g.set_moves h) D (λ m v. each h m (record { set = l; owned = o; move = v }))))
        | no o ↦ rw (cond_no {A = ℕ} (owns g p h) (gcd_to (g.set_moves h) (x.move_weight h)) 0 o, NatL.mul-zero d) (NatL.dvd-zero D)
      ]))))

  -- it divides the denominator
  divides_denominator : plan_divisor g p x ∣ x.denominator
  unfolding plan_divisor
  divides_denominator = (gcd_is x.denominator _).left

  -- how to tell a plan that is over the smallest D
  pub over_smallest_iff : OverSmallest g p x ↔ (plan_divisor g p x ≡ 1)
  unfolding OverSmallest
  over_smallest_iff = (there, back)
    where
      there : OverSmallest g p x → plan_divisor g p x ≡ 1
      there least =
          let D = x.denominator in
          let k = plan_divisor g p x in
          let d = D / k in
          let whole : k * d ≡ D = NatL.mul-div_cancel' k divides_denominator in
          let positive : 0 < k = factor_positive k d D whole some in
          let part : 0 < d = factor_positive d k D (NatL.mul_comm d k ∙ whole) some in
          let most : D ≤ d = least d part (λ h m v.
          subst (λ (n : ℕ). D ∣ n) (ap (λ (n : ℕ). n * (x.move_weight h m / k)) (sym whole) ∙ ap (λ (n : ℕ). n * (x.move_weight h m / k)) (NatL.mul_comm k d) ∙ NatL.mul_assoc d k (x.move_weight h m / k) ∙ ap (λ (n : ℕ). d * n) (NatL.mul-div_cancel' k (divides_weight h m v)))
          (NatL.dvd-mul_right D (x.move_weight h m / k))) in
          NatL.le_antisymm (NatL.le_of_mul-le-mul_right {k = d} (omega (arith, whole, most)) part) positive

      back : plan_divisor g p x ≡ 1 → OverSmallest g p x
      back e d positive each =
          NatL.le_of_dvd positive
          (subst (λ (n : ℕ). x.denominator ∣ n) (ap (λ (n : ℕ). d * n) e ∙ NatL.mul-one d) (divides_scaled x.denominator d (NatL.dvd-mul_left x.denominator d) each))
