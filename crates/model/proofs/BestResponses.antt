-- The best response: a pure strategy that takes the lowest-numbered best move in every set, and earns the best value.
use Prim.Native.Nat.{ℕ, zero, suc, pred, ◌≤◌, ◌<◌}
use mathlib.Core.Path.{◌≡◌, refl, sym, ap, ◌∙◌, subst}
use mathlib.Core.Bool.{Bool, true, false, cond}
use mathlib.Core.List.{List, [], ◌∷◌, ◌++◌, map, append_assoc, append-nil}
use native.Mathlib.Omega.{arith}
use native.Mathlib.Decide.{ℕ_discrete}
use lib.Dec.{T, eqb, eqb→eq, eqb_refl, not_T}
use mir.Facts.{and_yes}
use lib.IntN.{ℤ, pos, ◌*ℤ◌, zero-*ℤ}
use lib.Signed.{◌≤ℤ◌, ◌<ℤ◌, le_z, le_z_yes, lt_z, lt_z_yes, lt_z_no, ≤ℤ_refl}
use Rattle.algebra.specs.Bounded.{join_to}
use Rattle.algebra.proofs.Tests.{dec, cond_yes, cond_no}
use Rattle.algebra.proofs.Searches.{first_to_found, first_to_before, max_through_above, max_through_met}
use Rattle.algebra.proofs.Integers.{≤ℤ-antisym, scale_mono, scale_one}
use Rattle.algebra.proofs.Totals.{only}
use Rattle.algebra.proofs.Lists.{join_to_cong, map_join_to}
use Rattle.model.specs.Game.{Game, Player, owns}
use Rattle.model.specs.Sequences.{Move, extended, leading}
use Rattle.model.specs.Plan.{RealizationPlan, Fits}
use Rattle.model.specs.Earnings.{AtMost, PureStrategy, MixedStrategy, consistent, listed, total_weight, IsPure, IsMixed, sets_of, pure_count, against_base, pure_earnings, mixed_count, mixed_earnings, plan_count, plan_earnings}
use Rattle.model.specs.BestResponse.{worth, set_worth, best_count, best_value, best_move, best_at, best_response}
use Rattle.model.specs.Rules.{GameRules}
use Rattle.model.proofs.Sequences.{consistent_extended}
use Rattle.model.proofs.Worths.{worth_set}
use Rattle.model.proofs.Earnings.{mixture_at_most}
use Rattle.model.proofs.Duality.{plan_at_most, plan_attains}
use Rattle.model.proofs.Strategies.{pure_plan, pure_fits, pure_count_lem, pure_at_most, mixed_at_most}

-- an integer that is not at least another is below it
not_above : (a b : ℤ) → ¬ T (le_z a b) → b <ℤ a
not_above a b n =
    elim (dec (lt_z b a)) [
      | yes t ↦ lt_z_yes t
      | no t ↦ let e : a ≤ℤ b = lt_z_no (not_T (lt_z b a) t) in absurd (n e.le)
    ]

module _ (g : Game) (p : Player) (y : RealizationPlan) where
  abbrev part : ℕ → List Move
  part h = cond (owns g p h) (best_at g p y h) []

  -- a listed set has its move
  listed_here : (h : ℕ) (r : List Move) → T (owns g p h) → listed (part h ++ r) h ≡ best_move g p y h
  unfolding listed best_at
  listed_here h r o = rw (cond_yes {A = List Move} (owns g p h) ((h, best_move g p y h) ∷ []) [] o) (cond_yes (eqb h h) (best_move g p y h) (listed r h) (eqb_refl h))

  -- another set's entry does not matter
  listed_elsewhere : (n h : ℕ) (r : List Move) → ¬ (n ≡ h) → listed (part n ++ r) h ≡ listed r h
  unfolding listed best_at
  listed_elsewhere n h r d = go (owns g p n)
    where
      go : (b : Bool) → listed (cond b ((n, best_move g p y n) ∷ []) [] ++ r) h ≡ listed r h
      go true = cond_no (eqb n h) (best_move g p y n) (listed r h) (λ e. d (eqb→eq n h e))
      go false = refl

  -- the entries of smaller sets do not matter
  listed_past : (n h : ℕ) (r : List Move) → n ≤ h → listed (join_to n part ++ r) h ≡ listed r h
  unfolding join_to
  listed_past zero h r l = refl
  listed_past (suc n) h r l =
      ap (λ (k : List Move). listed k h) (append_assoc (join_to n part) (part n) r)
      ∙ listed_past n h (part n ++ r) (omega arith)
      ∙ listed_elsewhere n h r (λ e. omega arith)

  listed_within : (n h : ℕ) (r : List Move) → h < n → T (owns g p h) → listed (join_to n part ++ r) h ≡ best_move g p y h
  unfolding join_to
  listed_within zero h r l o = absurd (omega arith)
  listed_within (suc n) h r l o =
      ap (λ (k : List Move). listed k h) (append_assoc (join_to n part) (part n) r)
      ∙ elim (ℕ_discrete h n) [
        | yes e ↦ listed_past n h (part n ++ r) (omega arith) ∙ subst (λ (k : ℕ). listed (part k ++ r) h ≡ best_move g p y h) e (listed_here h r o)
        | no e ↦ listed_within n h (part n ++ r) (omega arith) o
      ]

  -- the best response, as a strategy, takes the best move at each of p's sets
  pub response_move : (h : ℕ) → h < g.sets → T (owns g p h) → listed (best_response g p y) h ≡ best_move g p y h
  unfolding best_response
  response_move h l o = ap (λ (k : List Move). listed k h) (sym (append-nil (join_to g.sets part))) ∙ listed_within g.sets h [] l o

  -- it lists each of p's sets, rising
  pub response_sets : map (λ (x : Move). x.0) (best_response g p y) ≡ sets_of g p
  unfolding best_response sets_of best_at
  response_sets = map_join_to (λ (x : Move). x.0) g.sets part ∙ join_to_cong g.sets _ _ (λ h l. go h (owns g p h))
    where
      go : (h : ℕ) (b : Bool) → map (λ (x : Move). x.0) (cond b ((h, best_move g p y h) ∷ []) []) ≡ cond b (h ∷ []) []
      go h true = refl
      go h false = refl

  -- a set with a move has a best one: its worth is the set's
  best_found : (h : ℕ) → 0 < g.set_moves h → (best_move g p y h < g.set_moves h) × (worth g p y (extended (leading g h) h (best_move g p y h)) ≡ set_worth g p y h)
  unfolding best_move
  best_found h some =
      let f : ℕ → ℤ = λ m. worth g p y (extended (leading g h) h m) in
      let top = max_through_met (pred (g.set_moves h)) f in
      let met : set_worth g p y h ≡ f top.0 = worth_set g p y h ∙ top.2 in
      let found = first_to_found (g.set_moves h) (λ m. le_z (set_worth g p y h) (f m)) top.0 (omega arith) (subst (λ (z : ℤ). T (le_z (set_worth g p y h) z)) met (≤ℤ_refl (set_worth g p y h)).le) in
      (found.1, ≤ℤ-antisym _ _ (subst (λ (z : ℤ). f (best_move g p y h) ≤ℤ z) (sym (worth_set g p y h)) (max_through_above (pred (g.set_moves h)) f (best_move g p y h) (omega (arith, found.1)))) (le_z_yes found.0))

  -- no move is worth more
  pub best_move_lem : (h k : ℕ) → 0 < g.set_moves h → k < g.set_moves h → worth g p y (extended (leading g h) h k) ≤ℤ worth g p y (extended (leading g h) h (best_move g p y h))
  best_move_lem h k some l =
      subst (λ (z : ℤ). worth g p y (extended (leading g h) h k) ≤ℤ z) (sym ((best_found h some).1 ∙ worth_set g p y h))
      (max_through_above (pred (g.set_moves h)) (λ m. worth g p y (extended (leading g h) h m)) k (omega arith))

  -- and every lower-numbered one is worth less
  pub lower_move : (h k : ℕ) → 0 < g.set_moves h → k < best_move g p y h → worth g p y (extended (leading g h) h k) <ℤ worth g p y (extended (leading g h) h (best_move g p y h))
  unfolding best_move
  lower_move h k some l =
      subst (λ (z : ℤ). worth g p y (extended (leading g h) h k) <ℤ z) (sym (best_found h some).1)
      (not_above (set_worth g p y h) (worth g p y (extended (leading g h) h k)) (first_to_before (g.set_moves h) (λ m. le_z (set_worth g p y h) (worth g p y (extended (leading g h) h m))) k l))

  module _ (R : GameRules g) where
    -- the best response is a pure strategy
    pub response_pure : IsPure g p (listed (best_response g p y))
    unfolding IsPure
    response_pure h l o = subst (λ (k : ℕ). k < g.set_moves h) (sym (response_move h l o)) (best_found h (R.set_moves h l).0).0

    -- and earns the best value
    pub response_earns : pure_count g p y (listed (best_response g p y)) ≡ best_count g p y
    unfolding pure_plan
    response_earns =
        let σ = listed (best_response g p y) in
        pure_count_lem g R p y σ
        ∙ plan_attains g R p y (pure_plan g σ) (pure_fits g R p σ response_pure) (λ h m l o u. go h m l o (consistent σ (extended (leading g h) h m)) (λ t. t))
        ∙ scale_one (best_count g p y)
      where
        taken : (h m : ℕ) → h < g.sets → T (owns g p h) → T (consistent (listed (best_response g p y)) (extended (leading g h) h m)) → best_move g p y h ≡ m
        taken h m l o t =
            let σ = listed (best_response g p y) in
            sym (response_move h l o) ∙ eqb→eq (σ h) m (and_yes (eqb (σ h) m) (consistent σ (leading g h)) (subst T (consistent_extended σ (leading g h) h m) t)).0

        go : (h m : ℕ) → h < g.sets → T (owns g p h) → (b : Bool) → (T b → T (consistent (listed (best_response g p y)) (extended (leading g h) h m))) → pos (only b 1) *ℤ worth g p y (extended (leading g h) h m) ≡ pos (only b 1) *ℤ set_worth g p y h
        go h m l o true t = ap (λ (z : ℤ). pos 1 *ℤ z) (ap (λ (k : ℕ). worth g p y (extended (leading g h) h k)) (sym (taken h m l o (t tt))) ∙ (best_found h (R.set_moves h l).0).1)
        go h m l o false t = zero-*ℤ (worth g p y (extended (leading g h) h m)) ∙ sym (zero-*ℤ (set_worth g p y h))

    -- no pure strategy earns more than the best value
    pub pure_most : (σ : PureStrategy) → IsPure g p σ → AtMost (pure_earnings g p y σ) (best_value g p y)
    unfolding pure_earnings best_value
    pure_most σ legal = scale_mono (against_base g y) (pure_at_most g R p y σ legal)

    -- and no mixed one
    pub mixed_most : (μ : MixedStrategy) → IsMixed g p μ → AtMost (mixed_earnings g p y μ) (best_value g p y)
    unfolding mixed_earnings best_value IsMixed
    mixed_most μ legal = mixture_at_most (total_weight μ) (against_base g y) (mixed_count g p y μ) (best_count g p y) (mixed_at_most g R p y μ legal.0)

    -- and no plan that fits
    pub plan_most : (x : RealizationPlan) → Fits g p x → AtMost (plan_earnings g p y x) (best_value g p y)
    unfolding plan_earnings best_value
    plan_most x F = mixture_at_most x.denominator (against_base g y) (plan_count g p y x) (best_count g p y) (plan_at_most g R p y x F)

    -- the best response earns exactly it
    pub response_attains : pure_earnings g p y (listed (best_response g p y)) ≡ best_value g p y
    unfolding pure_earnings best_value
    response_attains = ap (λ (z : ℤ). record { numerator = z; denominator = against_base g y }) response_earns
