-- The round trips of a plan, on the calls.
use Prim.Native.Nat.{ℕ, ◌≤◌, ◌<◌}
use mathlib.Core.Path.{◌≡◌, refl, sym, ap, ◌∙◌}
use mathlib.Core.Bool.{Bool, true, false, false≢true}
use mathlib.Core.List.{List, [], ◌∷◌}
use native.Mathlib.Omega.{arith}
use native.Mathlib.Decide.{dec_lt}
use lib.Dec.{T}
use lib.ListN.{length, take}
use borrow.Author.Tests.{le-leb}
use Rattle.algebra.proofs.Tests.{true→T, cond_yes}
use Rattle.model.specs.Limits.{count_limit}
use Rattle.model.specs.Game.{game_of, one, two}
use Rattle.model.specs.Plan.{plan_moves, plan_pair_of, plan_weights, weight_bit}
use Rattle.model.specs.PlanChecks.{Files, files}
use Rattle.model.specs.Writing.{PlanFields, plan_fields_of, plan_bytes, plan_fields_fit}
use Rattle.model.specs.Report.{longest_plan}
use Rattle.model.specs.Rules.{GoodFiles}
use Rattle.model.specs.Demand2.{IsBytes}
use Rattle.model.specs.Rows.{of, refusal}
use Rattle.model.specs.Checks.{pair_rows}
use Rattle.model.specs.Call.{given, refused, long_enough, after_call, Outcome, outcome}
use Rattle.model.specs.Calls.PlanFields as PlanFields
use Rattle.model.specs.Calls.WritePlan as WritePlan
use Rattle.model.specs.Calls.RewritePlan as RewritePlan
use Rattle.model.specs.Calls.RereadPlan as RereadPlan
use Rattle.model.proofs.Bits.{length_fields}
use Rattle.model.proofs.Budget.{game_limits}
use Rattle.model.proofs.Numbers.{plan_moves_few}
use Rattle.model.proofs.PlanTrips.{plan_file_trip, plan_fields_trip}
use Rattle.model.proofs.Cut.{long_plan, long_plans}
use Rattle.model.proofs.Rows.{taken_iff, refusal_of_lem}
use Rattle.model.proofs.Checks.{pair_refusal_lem, pair_named, pair_decided}
use Rattle.model.proofs.Calls.RereadPlan.{reread_decided}
use Rattle.std.specs.Prelude.{Result, Ok, Err}
use Rattle.model.specs.Exported.{same}
use Rattle.checks.specs.declared.Refusal.{Refusal}
use Rattle.checks.specs.declared.Refusal.TheVariants.{Number, Room}
use Rattle.checks.specs.Answers.{refusal_number, answered}
use Rattle.checks.proofs.AnswerLaws.{numbers_apart}
use Rattle.checks.proofs.Rooms.{split}
use Rattle.checks.proofs.Chains.{Refuses, begin, passes, stops, is_fine, is_broken, call_refuses, call_room, in_room, same_run}
use Rattle.plans.specs.declared.PlanCounts.{PlanCounts}
use Rattle.plans.specs.Answers.{counts_seen}
use Rattle.checks.proofs.Runs.{Gave, gave, not_gave, front}

-- nothing is both given and refused
unlike : {R : Type 0} {x : R} {k : ℕ} → ¬ (given x ≡ refused k)
unlike e = let y : ◌≡◌ {A = ℕ} 0 1 = cc in omega arith

-- the writer refuses nothing that fits
taken : (t : PlanFields) → T (plan_fields_fit t.d1 t.d2 t.weights) → refusal WritePlan.rows t ≡ 0
unfolding WritePlan.rows refusal
taken t fit = cond_yes {A = ℕ} (plan_fields_fit t.d1 t.d2 t.weights) 0 17 fit

-- Read, and written again.
module _ (game plan out : List ℕ) where
  abbrev pair : Files
  pair = files game plan

  -- files that are not refused obey every rule
  good : refusal pair_rows pair ≡ 0 → GoodFiles pair
  good e = (taken_iff pair_decided pair).1 e

  -- no accepted game has more moves
  few : refusal pair_rows pair ≡ 0 → plan_moves (game_of game) ≤ 4094
  unfolding plan_moves
  few e = omega (arith, plan_moves_few (game_of game) (good e).0.rules, (game_limits game).nodes)

  length_weights : length (plan_weights (game_of game) plan) ≡ plan_moves (game_of game)
  unfolding plan_weights
  length_weights = length_fields plan (weight_bit 0) 12 (plan_moves (game_of game))

  -- so a buffer of 4,095 numbers has room for any plan's
  roomy : (l : List ℕ) → count_limit ≤ length l → refusal pair_rows pair ≡ 0 → long_enough (length (plan_weights (game_of game) plan) ∷ []) (length l ∷ []) ≡ true
  roomy l long e = rw (le-leb (length (plan_weights (game_of game) plan)) (length l) (omega (arith, length_weights, few e)))

  -- what reading refuses
  pub rewrite_refused : (l : List ℕ) → count_limit ≤ length l → {r : Result PlanCounts Refusal} {after : List ℕ} {d : Refusal} → outcome (answered counts_seen r) (after, tt) ≡ PlanFields.plan_fields_of game plan l → r ≡ Err d → outcome (refused (refusal_number d)) (out, tt) ≡ RewritePlan.rewrite_plan_of game plan out
  unfolding PlanFields.call RewritePlan.call
  rewrite_refused l long {d = d} e f =
      let s : Refuses pair_rows pair (refusal_number d) = not_gave PlanFields.call pair_named pair (l, tt) e (ap (answered counts_seen) f) (roomy l long) in
      sym (call_refuses RewritePlan.call pair_named pair (out, tt) s)

  -- what reading gives
  pub record Read (d1 d2 count : ℕ) (after : List ℕ) : Type 0 where
    pub fits : refusal pair_rows pair ≡ 0
    pub first : d1 ≡ (plan_pair_of (game_of game) plan one).denominator
    pub second : d2 ≡ (plan_pair_of (game_of game) plan two).denominator
    pub small : count ≤ 4094
    pub weights : take count after ≡ plan_weights (game_of game) plan

  pub read_given : (l : List ℕ) {r : Result PlanCounts Refusal} {after : List ℕ} {c : PlanCounts} → outcome (answered counts_seen r) (after, tt) ≡ PlanFields.plan_fields_of game plan l → r ≡ Ok c → Read c.d1 c.d2 c.count after
  unfolding PlanFields.call
  read_given l {r} {after} {c} e f =
      let count = c.count in
      let G : Gave PlanFields.call pair_named pair (l, tt) (counts_seen c) (after, tt) = gave PlanFields.call pair_named pair (l, tt) e (ap (answered counts_seen) f) in
      let w = plan_weights (game_of game) plan in
      let n : count ≡ plan_moves (game_of game) = ap (λ (v : PlanFields.PlanCounts). v.count) G.result in
      let left : after ≡ after_call 0 w l = ap (λ (b : List ℕ × Unit {0}). b.0) G.buffers in
      record {
        fits = G.fine;
        first = ap (λ (v : PlanFields.PlanCounts). v.d1) G.result;
        second = ap (λ (v : PlanFields.PlanCounts). v.d2) G.result;
        small = omega (arith, n, few G.fine);
        weights = front count w l after (length_weights ∙ sym n) left;
      }

  -- the writer takes it, and writes the file's own bytes
  pub rewrite_given : IsBytes plan → {d1 d2 count : ℕ} {after : List ℕ} → Read d1 d2 count after → WritePlan.write_plan_of d1 d2 (take count after) out ≡ RewritePlan.rewrite_plan_of game plan out
  unfolding WritePlan.call WritePlan.rows RewritePlan.call
  rewrite_given bytes {d1} {d2} {count} {after} R =
      let q = plan_pair_of (game_of game) plan in
      let w = plan_weights (game_of game) plan in
      let t : PlanFields = plan_fields_of (q one).denominator (q two).denominator w in
      let (fit, same) = plan_file_trip (game_of game) plan bytes (good R.fits).1 in
      rw (R.first, R.second, R.weights)
      (same_run WritePlan.call RewritePlan.call tt pair_named t pair (out, tt) (taken t fit ∙ sym R.fits) (λ e. (ap length same, rw same)))

-- Written, and read back.
module _ (game : List ℕ) (d1 d2 : ℕ) (weights out : List ℕ) where
  abbrev fields : PlanFields
  fields = plan_fields_of d1 d2 weights

  abbrev asked : RereadPlan.PlanOf
  asked = record { game = game; fields = fields }

  abbrev file : List ℕ
  file = plan_bytes d1 d2 weights

  -- 17, of weights that do not fit
  stopped : plan_fields_fit d1 d2 weights ≡ false → Refuses RereadPlan.rows asked 17
  unfolding RereadPlan.rows WritePlan.rows of
  stopped z = stops Number (begin RereadPlan.rows asked) refl (is_broken Number z) refl

  -- of weights that fit what their file is refused for
  passed : plan_fields_fit d1 d2 weights ≡ true → refusal RereadPlan.rows asked ≡ refusal pair_rows (files game file)
  unfolding RereadPlan.rows WritePlan.rows of
  passed z = (passes Number (begin RereadPlan.rows asked) (is_fine Number z) refl).same ∙ refusal_of_lem RereadPlan.files_of pair_rows asked

  -- what is written is read back as it was given
  read_back : T (plan_fields_fit d1 d2 weights) → refusal RereadPlan.rows asked ≡ refusal pair_rows (files game file) → PlanFields.plan_fields_of game file out ≡ RereadPlan.reread_plan_of game d1 d2 weights out
  unfolding PlanFields.call RereadPlan.call
  read_back fit alike = same_run PlanFields.call RereadPlan.call pair_named reread_decided.numbered (files game file) asked (out, tt) (sym alike) same
    where
      same : refusal RereadPlan.rows asked ≡ 0 → (PlanFields.counts_of (files game file) ≡ RereadPlan.counts_given fields) × (◌≡◌ {A = List ℕ × Unit {0}} (plan_weights (game_of game) file, tt) (weights, tt))
      same e =
          let (first, second, all) = plan_fields_trip d1 d2 weights (game_of game) fit (good game file out (sym alike ∙ e)).1 in
          let count : plan_moves (game_of game) ≡ length weights = sym (length_weights game file out) ∙ ap length all in
          (λ i. record { d1 = first i; d2 = second i; count = count i }, λ i. (all i, tt))

  -- a file longer than any plan, read in place of one longer than any plan
  read_long : (l : List ℕ) → longest_plan < length l → longest_plan < length file → refusal RereadPlan.rows asked ≡ refusal pair_rows (files game file) → PlanFields.plan_fields_of game l out ≡ RereadPlan.reread_plan_of game d1 d2 weights out
  unfolding PlanFields.call RereadPlan.call
  read_long l long_l long alike =
      same_run PlanFields.call RereadPlan.call pair_named reread_decided.numbered (files game l) asked (out, tt)
      (sym (pair_refusal_lem game l) ∙ long_plans game l file long_l long ∙ pair_refusal_lem game file ∙ sym alike)
      (λ e. absurd (long_plan game file long (pair_refusal_lem game file ∙ sym alike ∙ e)))

  -- What the writer has done with a file to write to.
  module _ (l after : List ℕ) where
    abbrev room : Bool
    room = long_enough (length file ∷ []) (length l ∷ [])

    -- by its two tests
    abbrev done : (fits has_room : Bool) → Outcome (ℕ ∷ []) ℕ
    done true t = in_room {R = ℕ} {shape = ℕ ∷ []} t (length file) (file, tt) (l, tt)
    done false t = outcome (refused 17) (l, tt)

    writes : (b : Bool) → plan_fields_fit d1 d2 weights ≡ b → WritePlan.write_plan_of d1 d2 weights l ≡ done b room
    unfolding WritePlan.call WritePlan.rows
    writes true z = call_room WritePlan.call tt fields (l, tt) (taken fields (true→T _ z))
    writes false z = call_refuses WritePlan.call tt fields (l, tt) (stops Number (begin _ fields) refl (is_broken Number z) refl)

    longer : room ≡ false → length l < length file
    longer t =
        elim (dec_lt (length l) (length file)) [
          | yes b ↦ b
          | no b ↦ absurd (false≢true (sym t ∙ rw (le-leb (length file) (length l) (omega arith))))
        ]

    -- what is written is read
    pub reread_written : {r : Result ℕ Refusal} {n : ℕ} → outcome (answered same r) (after, tt) ≡ WritePlan.write_plan_of d1 d2 weights l → r ≡ Ok n → (n ≤ length l) × (PlanFields.plan_fields_of game (take n after) out ≡ RereadPlan.reread_plan_of game d1 d2 weights out)
    reread_written {r} {n} e f = go (plan_fields_fit d1 d2 weights) refl room refl (sym (ap (λ (r : Result ℕ Refusal). outcome {shape = ℕ ∷ []} (answered same r) (after, tt)) f) ∙ e ∙ writes _ refl)
      where
        go : (b : Bool) → plan_fields_fit d1 d2 weights ≡ b → (t : Bool) → room ≡ t → outcome (given n) (after, tt) ≡ done b t → (n ≤ length l) × (PlanFields.plan_fields_of game (take n after) out ≡ RereadPlan.reread_plan_of game d1 d2 weights out)
        go true z true t o =
            let same : given n ≡ given (length file) = ap (λ (o : Outcome (ℕ ∷ []) ℕ). o.answer) o in
            let whole : n ≡ length file = cc in
            let left : after ≡ after_call 0 file l = ap (λ (o : Outcome (ℕ ∷ []) ℕ). o.buffers.0) o in
            let small = (split (length file) (length l) t).0 in
            (omega (arith, whole, small), rw (whole, front (length file) file l after refl left) (read_back (true→T _ z) (passed z)))
        go true z false t o = absurd (unlike (ap (λ (o : Outcome (ℕ ∷ []) ℕ). o.answer) o))
        go false z t y o = absurd (unlike (ap (λ (o : Outcome (ℕ ∷ []) ℕ). o.answer) o))

    -- where more had to be written the whole file is read
    pub reread_long : {r : Result ℕ Refusal} → outcome (answered same r) (after, tt) ≡ WritePlan.write_plan_of d1 d2 weights l → r ≡ Err Room → longest_plan < length l → PlanFields.plan_fields_of game after out ≡ RereadPlan.reread_plan_of game d1 d2 weights out
    reread_long {r} e f most = go (plan_fields_fit d1 d2 weights) refl room refl (sym (ap (λ (r : Result ℕ Refusal). outcome {shape = ℕ ∷ []} (answered same r) (after, tt)) f) ∙ e ∙ writes _ refl)
      where
        go : (b : Bool) → plan_fields_fit d1 d2 weights ≡ b → (t : Bool) → room ≡ t → outcome (refused 18) (after, tt) ≡ done b t → PlanFields.plan_fields_of game after out ≡ RereadPlan.reread_plan_of game d1 d2 weights out
        go true z true t o = absurd (unlike (sym (ap (λ (o : Outcome (ℕ ∷ []) ℕ). o.answer) o)))
        go true z false t o = rw (ap (λ (o : Outcome (ℕ ∷ []) ℕ). o.buffers.0) o) (read_long l most (omega (arith, most, longer t)) (passed z))
        go false z t y o =
            let same : refused 18 ≡ refused 17 = ap (λ (o : Outcome (ℕ ∷ []) ℕ). o.answer) o in
            let is : ◌≡◌ {A = ℕ} 18 17 = cc in
            absurd (omega arith)

    -- something does not fit
    pub reread_misfit : {r : Result ℕ Refusal} {d : Refusal} → outcome (answered same r) (after, tt) ≡ WritePlan.write_plan_of d1 d2 weights l → r ≡ Err d → ¬ (d ≡ Room) → outcome (refused (refusal_number d)) (out, tt) ≡ RereadPlan.reread_plan_of game d1 d2 weights out
    unfolding RereadPlan.call
    reread_misfit {r} {d} e f other = go (plan_fields_fit d1 d2 weights) refl room refl (sym (ap (λ (r : Result ℕ Refusal). outcome {shape = ℕ ∷ []} (answered same r) (after, tt)) f) ∙ e ∙ writes _ refl)
      where
        go : (b : Bool) → plan_fields_fit d1 d2 weights ≡ b → (t : Bool) → room ≡ t → outcome (refused (refusal_number d)) (after, tt) ≡ done b t → outcome (refused (refusal_number d)) (out, tt) ≡ RereadPlan.reread_plan_of game d1 d2 weights out
        go true z true t o = absurd (unlike (sym (ap (λ (o : Outcome (ℕ ∷ []) ℕ). o.answer) o)))
        go true z false t o =
            let same : refused (refusal_number d) ≡ refused 18 = ap (λ (o : Outcome (ℕ ∷ []) ℕ). o.answer) o in
            let is : refusal_number d ≡ 18 = cc in
            absurd (other (numbers_apart is))
        go false z t y o =
            let same : refused (refusal_number d) ≡ refused 17 = ap (λ (o : Outcome (ℕ ∷ []) ℕ). o.answer) o in
            let is : refusal_number d ≡ 17 = cc in
            rw is (sym (call_refuses RereadPlan.call reread_decided.numbered asked (out, tt) (stopped z)))

-- no plan of a game has 6,146 bytes
pub longer_than_any : longest_plan < 6146
unfolding longest_plan
longer_than_any = omega arith
