-- W-201 on files: a written sheet holds its odds; the plan file made of odds; the sheet made of a pair, and the plan that comes back.
use Prim.Native.Nat.{ℕ, ◌+◌, ◌*◌, ◌/◌, ◌^◌, ◌≤◌, ◌<◌}
use mathlib.Core.Path.{◌≡◌, sym, ap, ◌∙◌}
use mathlib.Core.List.{List}
use native.Mathlib.Omega.{arith}
use native.Mathlib.Nat as NatL
use lib.Dec.{T, ltb, lt→ltb}
use lib.ListN.{length, get_or}
use lib.Pow.{pow_pos}
use lib.IntN.{pos}
use Rattle.algebra.specs.Divisors.{gcd_to}
use Rattle.algebra.proofs.Tests.{dec, cond_yes, cond_no, implies_make}
use Rattle.algebra.proofs.Searches.{all_to_make}
use Rattle.model.specs.Bits.{field, run_bits, pack}
use Rattle.model.specs.Game.{Game, Player, one, two, owns}
use Rattle.model.specs.Sequences.{Sequence, extended, leading}
use Rattle.model.specs.Plan.{PlanPair, Fits, sequence_weight, weight_width, largest_denominator, denominator_at, plan_moves, weight_place, weight_bit, plan_pair_of, plan_weights}
use Rattle.model.specs.PlanOrder.{in_plan_order, pair_weights, plan_file_of}
use Rattle.model.specs.Earnings.{◌over◌, Equal}
use Rattle.model.specs.Writing.{plan_bytes}
use Rattle.model.specs.Rules.{GameRules, PlanFile}
use Rattle.model.specs.Demand2.{IsBytes}
use Rattle.model.specs.Sheet.{Odds, MoveOf, sheet_length, odds_of, sheet_bytes, sheet_well_formed, odds_total, no_zero_odds, odds_probability, smallest_d, plan_from, odds_given, smallest_in_limit, plan_probability, odds_at, sheet_from, OverSmallest}
use Rattle.model.proofs.Bits.{field_fits, fields_at, length_fields}
use Rattle.model.proofs.Spelling.{bitlist_run, spells_run, pack_spells, pack_filling, length_pack}
use Rattle.model.proofs.Sequences.{weight_extended}
use Rattle.model.proofs.Tree.{IsSequence, after, owner, player_refl}
use Rattle.model.proofs.PlanOrder.{length_order, order_at, order_each, order_is, place_below}
use Rattle.model.proofs.PlanTrips.{plan_file_trip}
use Rattle.model.proofs.PlanFiles.{weight_most, written_denominator, written_weight, written_plan}
use Rattle.model.proofs.Sheets.{smallest_positive, made_fits, made_probability}
use Rattle.model.proofs.SheetRules.{formed_iff, limit_each}
use Rattle.model.proofs.SheetTrips.{total_given, smallest_at_most, trip_probability, trip_denominator, trip_same, made_over_smallest}

-- a sheet has a sheet's length
pub length_sheet : (g : Game) (width : ℕ) (odds : Odds) → length (sheet_bytes g width odds) ≡ sheet_length g width
unfolding sheet_bytes sheet_length
length_sheet g width odds = length_pack (run_bits width (in_plan_order g odds)) (bitlist_run width (in_plan_order g odds)) ∙ ap (λ (k : ℕ). (width * k + 7) / 8) (length_order g odds)

-- 19 does not apply to a sheet that is written
pub sheet_formed : (g : Game) (width : ℕ) (odds : Odds) → T (sheet_well_formed g width (sheet_bytes g width odds))
unfolding sheet_bytes sheet_length
sheet_formed g width odds =
    let list = in_plan_order g odds in
    let count : width * length list ≡ width * plan_moves g = ap (λ (k : ℕ). width * k) (length_order g odds) in
    (formed_iff g width (sheet_bytes g width odds)).passes (length_sheet g width odds, λ i l v. pack_filling (run_bits width list) (bitlist_run width list) i (omega arith) v)

-- and it holds its odds, where they fit the width
sheet_odds : (g : Game) (width : ℕ) (odds : Odds) → ((p : Player) (h m : ℕ) → h < g.sets → T (owns g p h) → m < g.set_moves h → odds h m < 2 ^ width) → (h m : ℕ) → h < g.sets → m < g.set_moves h → odds_of g width (sheet_bytes g width odds) h m ≡ odds h m
unfolding odds_of sheet_bytes owns
sheet_odds g width odds small h m l v =
    let list = in_plan_order g odds in
    let bits = run_bits width list in
    let p = g.set_player h in
    let i = weight_place g p h m in
    let own = player_refl p in
    let run = (spells_run (pack bits) 0 width list (order_each g odds (λ k. k < 2 ^ width) (pow_pos width) small)).0 (pack_spells bits (bitlist_run width list)) in
    ap (λ (k : ℕ). field (pack bits) k width) (sym (NatL.zero-add (width * i)))
    ∙ sym (fields_at (pack bits) 0 width (length list) i (omega (arith, length_order g odds, place_below g p h m l own v)))
    ∙ ap (λ (k : List ℕ). get_or k i 0) run
    ∙ order_at g odds p h m l own v

-- The plan file made of odds to which 20 does not apply, over smallest denominators that fit a plan file.
module _ (g : Game) (R : GameRules g) (odds : Odds) (given : T (odds_given g odds)) (small : (p : Player) → smallest_d g odds p ≤ largest_denominator) where
  abbrev file : List ℕ
  file = plan_file_of g (plan_from g odds)

  -- the plans fit
  fit : (p : Player) → Fits g p (plan_from g odds p)
  fit p = made_fits g odds R p given

  -- it obeys every rule of a plan file
  pub made_file : PlanFile g file
  unfolding plan_from
  made_file = written_plan g R (plan_from g odds) fit (smallest_positive g odds R) small

  -- it holds the plans: their denominators
  pub made_denominator : (p : Player) → (plan_pair_of g file p).denominator ≡ smallest_d g odds p
  unfolding plan_from
  made_denominator = written_denominator g R (plan_from g odds) fit (smallest_positive g odds R) small

  -- and their weights
  pub made_move : (p : Player) (h m : ℕ) → MoveOf g p h m → (plan_pair_of g file p).move_weight h m ≡ (plan_from g odds p).move_weight h m
  unfolding plan_from
  made_move p h m v = written_weight g R (plan_from g odds) fit (smallest_positive g odds R) small p h m v.set v.owned v.move

  -- so that it gives each sequence the probability that the odds give it
  pub made_played : (p : Player) (h m : ℕ) → MoveOf g p h m → Equal (plan_probability (plan_pair_of g file p) h m) (odds_probability g odds (extended (leading g h) h m))
  made_played p h m v =
      rw (made_move p h m v, made_denominator p, ← weight_extended (plan_from g odds p) (leading g h) h m)
      (made_probability g odds R p (extended (leading g h) h m) (after {h = h} {m = m} v.set v.owned v.move))

  -- and is over the smallest D
  pub made_smallest : (p : Player) → OverSmallest g p (plan_pair_of g file p)
  unfolding OverSmallest plan_from
  made_smallest p d some whole =
      rw (made_denominator p) (made_over_smallest g R odds p d some (λ h m v. rw (made_denominator p, made_move p h m v) at (whole h m v)))

-- the odds that are read from the sheet made of a pair
abbrev pub returned : Game → PlanPair → (width : ℕ) → Odds
returned g q width = odds_of g width (sheet_bytes g width (sheet_from g q))

-- The sheet made of a pair that fits, over denominators that the width holds.
module _ (g : Game) (R : GameRules g) (q : PlanPair) (F : (p : Player) → Fits g p (q p)) (some : (p : Player) → 0 < (q p).denominator) (width : ℕ) (small : (p : Player) → (q p).denominator < 2 ^ width) where
  -- no odds are above their weights
  odds_small : (p : Player) (h m : ℕ) → h < g.sets → T (owns g p h) → m < g.set_moves h → sheet_from g q h m < 2 ^ width
  unfolding sheet_from odds_at
  odds_small p h m l o v =
      let x = q (g.set_player h) in
      let most : x.move_weight h m < 2 ^ width = rw (owner g p h o) (omega (arith, small p, weight_extended (q p) (leading g h) h m, weight_most g R p (q p) (F p) (extended (leading g h) h m) (after {h = h} {m = m} l o v))) in
      let divided = NatL.div-le_self (x.move_weight h m) (gcd_to (g.set_moves h) (x.move_weight h)) in
      let t = ltb 0 (sequence_weight x (leading g h)) in
      elim (dec t) [
        | yes a ↦ rw (cond_yes {A = ℕ} t (x.move_weight h m / gcd_to (g.set_moves h) (x.move_weight h)) 0 a) (omega arith)
        | no a ↦ rw (cond_no {A = ℕ} t (x.move_weight h m / gcd_to (g.set_moves h) (x.move_weight h)) 0 a) (pow_pos width)
      ]

  -- at p's sets the odds are those of p's plan
  returned_is : (p : Player) (h m : ℕ) → h < g.sets → T (owns g p h) → m < g.set_moves h → returned g q width h m ≡ odds_at g (q p) h m
  unfolding sheet_from
  returned_is p h m l o v = sheet_odds g width (sheet_from g q) odds_small h m l v ∙ ap (λ (r : Player). odds_at g (q r) h m) (owner g p h o)

  -- 20 does not apply
  pub returned_given : T (odds_given g (returned g q width))
  unfolding odds_given owns
  returned_given =
      let odds = returned g q width in
      all_to_make g.sets _ (λ h l. implies_make (no_zero_odds g odds (leading g h)) (ltb 0 (odds_total g odds h)) (λ t.
      let p = g.set_player h in
      lt→ltb 0 (odds_total g odds h) (total_given g R p (q p) (F p) (some p) odds (returned_is p) h l (player_refl p) t)))

  -- no smallest D is above the pair's own
  pub returned_most : (p : Player) → smallest_d g (returned g q width) p ≤ (q p).denominator
  returned_most p = smallest_at_most g R p (q p) (F p) (some p) (returned g q width) (returned_is p)

  -- so 21 does not apply where the pair's are in the limit
  pub returned_limit : (limit : ℕ) → ((p : Player) → (q p).denominator ≤ limit) → T (smallest_in_limit g (returned g q width) limit)
  returned_limit limit most = (limit_each g (returned g q width) limit).passes (λ p. NatL.le_trans (returned_most p) (most p))

  -- "Plan to sheet to plan must give equal probabilities over the smallest D"
  pub returned_probability : (p : Player) (s : Sequence) → IsSequence g p s → Equal (pos (sequence_weight (plan_from g (returned g q width) p) s) over smallest_d g (returned g q width) p) (pos (sequence_weight (q p) s) over (q p).denominator)
  returned_probability p = trip_probability g R p (q p) (F p) (some p) (returned g q width) (returned_is p)

  -- "a plan already over the smallest D must come back": its denominator
  returned_denominator : (p : Player) → OverSmallest g p (q p) → (plan_from g (returned g q width) p).denominator ≡ (q p).denominator
  unfolding plan_from
  returned_denominator p least = trip_denominator g R p (q p) (F p) (some p) (returned g q width) (returned_is p) least

  -- and its weights
  returned_weight : (p : Player) → OverSmallest g p (q p) → (h m : ℕ) → h < g.sets → T (owns g p h) → m < g.set_moves h → (plan_from g (returned g q width) p).move_weight h m ≡ (q p).move_weight h m
  returned_weight p least = trip_same g R p (q p) (F p) (some p) (returned g q width) (returned_is p) least

-- the denominators that a plan file holds fit
pub plan_small : (g : Game) (plan : List ℕ) (p : Player) → (plan_pair_of g plan p).denominator ≤ largest_denominator
unfolding plan_pair_of
plan_small g plan p = omega (arith, field_fits plan (denominator_at p) weight_width)

-- Both plans of a file over the smallest D: the file comes back "bit for bit", by a sheet whose width holds every denominator.
module _ (g : Game) (R : GameRules g) (plan : List ℕ) (P : PlanFile g plan) (width : ℕ) (wide : largest_denominator < 2 ^ width) (least : (p : Player) → OverSmallest g p (plan_pair_of g plan p)) where
  abbrev again : PlanPair
  again = plan_from g (returned g (plan_pair_of g plan) width)

  held : (p : Player) → (plan_pair_of g plan p).denominator < 2 ^ width
  held p = omega (arith, plan_small g plan p)

  weights_again : pair_weights g again ≡ plan_weights g plan
  unfolding pair_weights plan_weights weight_bit plan_pair_of
  weights_again =
      order_is g (λ h. (again (g.set_player h)).move_weight h) (plan_weights g plan) (length_fields plan 32 weight_width (plan_moves g)) (λ p h m l o v.
      ap (λ (r : Player). (again r).move_weight h m) (owner g p h o)
      ∙ returned_weight g R (plan_pair_of g plan) P.fit P.denominators width held p (least p) h m l o v
      ∙ sym (fields_at plan 32 weight_width (plan_moves g) (weight_place g p h m) (place_below g p h m l o v)))

  pub plan_sheet_plan : IsBytes plan → plan_file_of g again ≡ plan
  unfolding plan_file_of
  plan_sheet_plan bytes =
      let same = returned_denominator g R (plan_pair_of g plan) P.fit P.denominators width held in
      (λ i. plan_bytes (same one (least one) i) (same two (least two) i) (weights_again i)) ∙ (plan_file_trip g plan bytes P).1
