-- Duality for any prices: what a realization plan earns, against prices of the empty sequence and of the player's sets.
use Prim.Native.Nat.{ℕ, ◌<◌}
use mathlib.Core.Path.{◌≡◌, sym, ap, ◌∙◌}
use mathlib.Core.Bool.{◌&&◌}
use mathlib.Core.List.{[]}
use native.Mathlib.Omega.{arith}
use lib.Dec.{T}
use mir.Facts.{and_yes}
use lib.IntN.{ℤ, pos, ◌+ℤ◌, ◌-ℤ◌, ◌*ℤ◌}
use lib.Signed.{◌≤ℤ◌}
use Rattle.algebra.specs.Bounded.{sum_to, sum_where}
use Rattle.algebra.proofs.Integers.{up, down, le_to, to_le, to_eq, add_is, sub_is, exchange, scale_add, scale_mono}
use Rattle.algebra.proofs.Sums.{sum_cong, sum_mono, sum_plus, sum_weights, where_cong, where_mono, where_plus, where_scale}
use Rattle.model.specs.Game.{Game, Player, owns, is_leaf}
use Rattle.model.specs.Sequences.{Sequence, extended, same, own_sequence_of, leading}
use Rattle.model.specs.Plan.{RealizationPlan, Fits, sequence_weight, weight_at}
use Rattle.model.specs.Earnings.{leaf_term, plan_count}
use Rattle.model.specs.BestResponse.{leads_to, leaves_worth}
use Rattle.model.specs.Rules.{GameRules}
use Rattle.model.specs.Prices.{Prices, offered, Feasible, product}
use Rattle.model.proofs.Sequences.{same→eq, weight_empty, weight_extended}
use Rattle.model.proofs.Tree.{own_sequence_lem, leading_sequence}
use Rattle.model.proofs.Worths.{leads_parts}
use Rattle.model.proofs.Overall.{moved, overall, overall_plus, overall_cong, regroup}

-- a difference and what was taken away
back : (a b : ℤ) → (a -ℤ b) +ℤ b ≡ a
back a b = to_eq ((a -ℤ b) +ℤ b) a (omega (arith, add_is (a -ℤ b) b, sub_is a b))

scaled_back : (w : ℕ) (a b : ℤ) → pos w *ℤ (a -ℤ b) +ℤ pos w *ℤ b ≡ pos w *ℤ a
scaled_back w a b = sym (scale_add w (a -ℤ b) b) ∙ ap (λ (z : ℤ). pos w *ℤ z) (back a b)

-- Player p against the other's plan y: his plan x that fits, and any prices u.
module _ (g : Game) (R : GameRules g) (p : Player) (y x : RealizationPlan) (u : Prices) (F : Fits g p x) where
  -- the plan's weights times some number at each of p's moves, added up
  abbrev priced : ((h m : ℕ) → ℤ) → ℤ
  priced price = sum_where g.sets (owns g p) (λ h. sum_to (g.set_moves h) (λ m. pos (x.move_weight h m) *ℤ price h m))

  -- what is offered at a move, and the price of its set
  abbrev off : (h m : ℕ) → ℤ
  off h m = offered g p y u (extended (leading g h) h m)

  abbrev paid : (h m : ℕ) → ℤ
  paid h m = u.set h

  -- earnings, leaf by leaf, are earnings sequence by sequence
  by_sequence : overall g p (λ s. pos (sequence_weight x s) *ℤ leaves_worth g p y s) ≡ plan_count g p y x
  unfolding leaves_worth plan_count weight_at
  by_sequence =
      overall_cong g p _ _ (λ s.
      where_scale g.nodes (sequence_weight x s) (λ n. is_leaf g n && same (own_sequence_of g p n) s) (leaf_term g p y)
      ∙ where_cong g.nodes (λ n. is_leaf g n && same (own_sequence_of g p n) s) _ (λ n. pos (sequence_weight x (own_sequence_of g p n)) *ℤ leaf_term g p y n) (λ n l t.
      ap (λ (r : Sequence). pos (sequence_weight x r) *ℤ leaf_term g p y n) (sym (same→eq (own_sequence_of g p n) s (and_yes (is_leaf g n) (same (own_sequence_of g p n) s) t).1))))
      ∙ regroup g p g.nodes (is_leaf g) (own_sequence_of g p) (λ n. pos (sequence_weight x (own_sequence_of g p n)) *ℤ leaf_term g p y n) (λ n l t. own_sequence_lem g R p n l)

  -- a sequence's weight times what is offered there
  weighed : (s : Sequence) → pos (sequence_weight x s) *ℤ offered g p y u s ≡ pos (sequence_weight x s) *ℤ leaves_worth g p y s +ℤ sum_where g.sets (λ h. owns g p h && same (leading g h) s) (λ h. pos (sequence_weight x (leading g h)) *ℤ u.set h)
  unfolding offered leads_to
  weighed s =
      scale_add (sequence_weight x s) (leaves_worth g p y s) (sum_where g.sets (leads_to g p s) u.set)
      ∙ ap (λ (z : ℤ). pos (sequence_weight x s) *ℤ leaves_worth g p y s +ℤ z)
      (where_scale g.sets (sequence_weight x s) (leads_to g p s) u.set
      ∙ where_cong g.sets (leads_to g p s) _ _ (λ h l t. ap (λ (r : Sequence). pos (sequence_weight x r) *ℤ u.set h) (sym (leads_parts g p s h t).1)))

  -- over all sequences: the earnings, and the price of each set by the weight of the sequence that leads to it
  all_offered : overall g p (λ s. pos (sequence_weight x s) *ℤ offered g p y u s) ≡ plan_count g p y x +ℤ sum_where g.sets (owns g p) (λ h. pos (sequence_weight x (leading g h)) *ℤ u.set h)
  all_offered =
      let f : Sequence → ℤ = λ s. pos (sequence_weight x s) *ℤ leaves_worth g p y s in
      let w : ℕ → ℤ = λ h. pos (sequence_weight x (leading g h)) *ℤ u.set h in
      overall_cong g p _ _ weighed
      ∙ sym (overall_plus g p f (λ s. sum_where g.sets (λ h. owns g p h && same (leading g h) s) w))
      ∙ (λ i. by_sequence i +ℤ regroup g p g.sets (owns g p) (leading g) w (λ h l o. leading_sequence g R p h l o) i)

  -- the same, sequence by sequence: the empty one, and those that end in a move
  all_moves : overall g p (λ s. pos (sequence_weight x s) *ℤ offered g p y u s) ≡ pos x.denominator *ℤ offered g p y u [] +ℤ priced off
  unfolding overall moved
  all_moves =
      (λ i. pos (weight_empty x i) *ℤ offered g p y u []
      +ℤ where_cong g.sets (owns g p) (λ h. sum_to (g.set_moves h) (λ m. pos (sequence_weight x (extended (leading g h) h m)) *ℤ off h m)) (λ h. sum_to (g.set_moves h) (λ m. pos (x.move_weight h m) *ℤ off h m)) (λ h l o.
      sum_cong (g.set_moves h) _ _ (λ m v. ap (λ (k : ℕ). pos k *ℤ off h m) (weight_extended x (leading g h) h m))) i)

  -- a set's price, by the weights of its moves
  by_moves : sum_where g.sets (owns g p) (λ h. pos (sequence_weight x (leading g h)) *ℤ u.set h) ≡ priced paid
  by_moves =
      where_cong g.sets (owns g p) _ _ (λ h l o.
      ap (λ (k : ℕ). pos k *ℤ u.set h) (sym (F h l o)) ∙ sym (sum_weights (g.set_moves h) (x.move_weight h) (u.set h)))

  -- earnings and what is paid are what is offered
  pub balance : plan_count g p y x +ℤ priced paid ≡ pos x.denominator *ℤ offered g p y u [] +ℤ priced off
  balance = ap (λ (z : ℤ). plan_count g p y x +ℤ z) (sym by_moves) ∙ sym all_offered ∙ all_moves

  -- the product and what is offered are what is paid
  spread : product g p y u x +ℤ (pos x.denominator *ℤ offered g p y u [] +ℤ priced off) ≡ pos x.denominator *ℤ u.start +ℤ priced paid
  unfolding product
  spread =
      let slack : (h m : ℕ) → ℤ = λ h m. u.set h -ℤ off h m in
      exchange (pos x.denominator *ℤ (u.start -ℤ offered g p y u [])) (priced slack) (pos x.denominator *ℤ offered g p y u []) (priced off)
      ∙ (λ i. scaled_back x.denominator u.start (offered g p y u []) i
      +ℤ (where_plus g.sets (owns g p) (λ h. sum_to (g.set_moves h) (λ m. pos (x.move_weight h m) *ℤ slack h m)) (λ h. sum_to (g.set_moves h) (λ m. pos (x.move_weight h m) *ℤ off h m))
      ∙ where_cong g.sets (owns g p) _ _ (λ h l o.
      sum_plus (g.set_moves h) (λ m. pos (x.move_weight h m) *ℤ slack h m) (λ m. pos (x.move_weight h m) *ℤ off h m)
      ∙ sum_cong (g.set_moves h) _ _ (λ m v. scaled_back (x.move_weight h m) (u.set h) (off h m)))) i)

  -- duality: earnings and the product are the denominator times the price of the empty sequence
  pub duality : plan_count g p y x +ℤ product g p y u x ≡ pos x.denominator *ℤ u.start
  duality =
      let a = plan_count g p y x in
      let b = product g p y u x in
      let c = pos x.denominator *ℤ u.start in
      let d = pos x.denominator *ℤ offered g p y u [] +ℤ priced off in
      let e = priced paid in
      to_eq (a +ℤ b) c (omega (arith, add_is a b, add_is a e, add_is b d, add_is c e, ap up balance, ap down balance, ap up spread, ap down spread))

  -- feasible prices bound what any plan earns
  pub at_most_price : Feasible g p y u → plan_count g p y x ≤ℤ (pos x.denominator *ℤ u.start)
  at_most_price H =
      let a = plan_count g p y x in
      let c = pos x.denominator *ℤ u.start in
      let d = pos x.denominator *ℤ offered g p y u [] in
      let e = priced paid in
      let f = priced off in
      let first : d ≤ℤ c = scale_mono x.denominator H.empty in
      let rest : f ≤ℤ e = where_mono g.sets (owns g p) _ _ (λ h l o. sum_mono (g.set_moves h) _ _ (λ m v. scale_mono (x.move_weight h m) (H.moves h m l o v))) in
      to_le a c (omega (arith, add_is a e, add_is d f, ap up balance, ap down balance, le_to d c first, le_to f e rest))

  -- a plan that prices are complementary to earns exactly that
  pub earns_price : product g p y u x ≡ pos 0 → plan_count g p y x ≡ pos x.denominator *ℤ u.start
  earns_price z =
      let a = plan_count g p y x in
      let b = product g p y u x in
      let c = pos x.denominator *ℤ u.start in
      to_eq a c (omega (arith, add_is a b, ap up duality, ap down duality, ap up z, ap down z))

  -- the other way round
  pub complementary : plan_count g p y x ≡ pos x.denominator *ℤ u.start → product g p y u x ≡ pos 0
  complementary z =
      let a = plan_count g p y x in
      let b = product g p y u x in
      let c = pos x.denominator *ℤ u.start in
      to_eq b (pos 0) (omega (arith, add_is a b, ap up duality, ap down duality, ap up z, ap down z))

  -- prices are complementary to a plan that only uses sequences at which what is offered is the price
  pub no_slack : offered g p y u [] ≡ u.start → ((h m : ℕ) → h < g.sets → T (owns g p h) → m < g.set_moves h → pos (x.move_weight h m) *ℤ off h m ≡ pos (x.move_weight h m) *ℤ u.set h) → product g p y u x ≡ pos 0
  no_slack first rest =
      let b = product g p y u x in
      let c : pos x.denominator *ℤ offered g p y u [] +ℤ priced off ≡ pos x.denominator *ℤ u.start +ℤ priced paid = λ i. pos x.denominator *ℤ first i +ℤ where_cong g.sets (owns g p) _ _ (λ h l o. sum_cong (g.set_moves h) _ _ (λ m v. rest h m l o v)) i in
      let d = pos x.denominator *ℤ offered g p y u [] +ℤ priced off in
      to_eq b (pos 0) (omega (arith, add_is b d, ap up spread, ap down spread, ap up c, ap down c))
