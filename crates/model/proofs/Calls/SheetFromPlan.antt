-- A play sheet made of a plan. Its clause of demand 1, and what its outcome means.
use Prim.Native.Nat.{ℕ, ◌^◌, ◌≤◌, ◌<◌}
use mathlib.Core.Path.{refl, sym, subst}
use mathlib.Core.List.{List}
use native.Mathlib.Omega.{arith}
use native.Mathlib.Nat as NatL
use lib.ListN.{length}
use Rattle.model.specs.Game.{game_of, Player}
use Rattle.model.specs.Sequences.{extended, leading}
use Rattle.model.specs.Plan.{largest_denominator, plan_pair_of}
use Rattle.model.specs.PlanChecks.{Files}
use Rattle.model.specs.Sheet.{smallest_d, plan_from, sheet_from}
use Rattle.model.specs.Rules.{GoodFiles}
use Rattle.model.specs.Call.{run}
use Rattle.model.specs.Exported.{exported, same}
use Rattle.model.specs.Demand1.{Clause}
use Rattle.model.specs.Calls.SheetFromPlan.{made_sheet, call, ComesBack, Returns, ReturnsIn}
use Rattle.model.proofs.Checks.{pair_decided}
use Rattle.model.proofs.Call.{clause, gives_front}
use Rattle.model.proofs.Exported.{exported_gives}
use Rattle.model.proofs.Sequences.{weight_extended}
use Rattle.model.proofs.Tree.{after}
use Rattle.model.proofs.SheetRules.{formed_iff, given_iff, limit_exact}
use Rattle.model.proofs.SheetFiles.{sheet_formed, made_file, made_denominator, made_move, made_smallest, returned, returned_given, returned_most, returned_limit, returned_probability, plan_small, plan_sheet_plan}

pub demand1 : (width : ℕ) → Clause (call width) GoodFiles
unfolding call
demand1 width = clause (call width) pair_decided

-- Where a sheet's width holds every denominator of a plan file, and so does the limit.
module _ (width limit : ℕ) (wide : largest_denominator < 2 ^ width) (most : largest_denominator ≤ limit) where
  -- what is true of the sheet made of a good plan file
  pub comes_back : (f : Files) → GoodFiles f → ComesBack width limit f (made_sheet width f)
  unfolding plan_from
  comes_back f good =
      let g = game_of f.game in
      let R = good.0.rules in
      let P = good.1 in
      let q = plan_pair_of g f.plan in
      let odds = returned g q width in
      let held : (p : Player) → (q p).denominator < 2 ^ width = λ p. omega (arith, plan_small g f.plan p) in
      let given = returned_given g R q P.fit P.denominators width held in
      let small : (p : Player) → smallest_d g odds p ≤ largest_denominator = λ p. NatL.le_trans (returned_most g R q P.fit P.denominators width held p) (plan_small g f.plan p) in
      let limited = returned_limit g R q P.fit P.denominators width held limit (λ p. NatL.le_trans (plan_small g f.plan p) most) in
      let formed = (formed_iff g width (made_sheet width f)).holds (sheet_formed g width (sheet_from g q)) in
      record {
        taken = record { size = formed.0; filling_zeros = formed.1; odds = (given_iff g odds).holds given; served = (limit_exact g odds limit R).holds limited };
        file = made_file g R odds given small;
        played = λ p h m v.
            let even = returned_probability g R q P.fit P.denominators width held p (extended (leading g h) h m) (after {h = h} {m = m} v.set v.owned v.move) in
            rw (made_move g R odds given small p h m v, made_denominator g R odds given small p)
            (rw (weight_extended (plan_from g odds p) (leading g h) h m, weight_extended (q p) (leading g h) h m) at even);
        smallest = made_smallest g R odds given small;
        same = λ bytes least. plan_sheet_plan g R f.plan P width wide least bytes;
      }

  -- what the call's outcome means
  pub returns : (f : Files) (out : List ℕ) → Returns width limit f out (run (call width) f (out, tt))
  unfolding call
  returns f out good room =
      let (answer, front) = gives_front (call width) pair_decided f out refl good room in
      (length (made_sheet width f), answer, subst (ComesBack width limit f) (sym front) (comes_back f good))

  -- and exported
  pub returns_in : (f : Files) (before : ℕ) (out : List ℕ) → ReturnsIn width limit f out (exported same before (run (call width) f (out, tt)))
  returns_in f before out good room =
      let (size, answer, is) = returns f out good room in
      exported_gives before (ComesBack width limit f) (run (call width) f (out, tt)) answer is
