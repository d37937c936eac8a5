-- A plan made of a play sheet. Its clause of demand 1, and what its outcome means.
use Prim.Native.Nat.{ℕ, ◌≤◌}
use mathlib.Core.Path.{◌≡◌, refl, sym, subst}
use mathlib.Core.Logic.Iff
use mathlib.Core.Logic.{◌↔◌}
use mathlib.Core.List.{List, [], ◌∷◌, ◌++◌}
use native.Mathlib.Omega.{arith}
use native.Mathlib.Nat as NatL
use lib.Dec.{T}
use lib.ListN.{length, take}
use Rattle.model.specs.Game.{game_of, Player}
use Rattle.model.specs.Sequences.{extended, leading}
use Rattle.model.specs.Plan.{largest_denominator, plan_pair_of}
use Rattle.model.specs.Sheet.{sheet_well_formed, smallest_d, odds_given, smallest_in_limit, OverSmallest}
use Rattle.model.specs.Rows.{Row, Rows, row, of}
use Rattle.model.specs.Checks.{header_rows, record_rows, tree_rows, game_rows}
use Rattle.model.specs.Rules.{GameFile}
use Rattle.model.specs.Call.{refused, Buffers, Lent, room_rows, all_rows, call_refusal, run}
use Rattle.model.specs.Exported.{exported, same}
use Rattle.model.specs.Demand1.{Clause}
use Rattle.model.specs.Calls.PlanFromSheet.{SheetFiles, NoneServes, odds_in, sheet_rows, made_plan, call, SheetFile, GoodSheet, MadeOf, LimitPassed, Makes, MakesIn}
use Rattle.model.proofs.Rows.{AllPass, Decided, Any, pass_of, pass_append, decided_of, decided_append, refusal_at}
use Rattle.model.proofs.Checks.{game_decided}
use Rattle.model.proofs.Call.{clause, refused_iff, gives_front}
use Rattle.model.proofs.Exported.{exported_gives, exported_refuses}
use Rattle.model.proofs.Tree.{after}
use Rattle.model.proofs.Sheets.{denominator_positive, serves_iff}
use Rattle.model.proofs.SheetRules.{formed_iff, formed_fails, given_iff, given_fails, limit_each, limit_exact, limit_fails}
use Rattle.model.proofs.SheetFiles.{made_file, made_denominator, made_played, made_smallest}

module _ (width limit : ℕ) where
  -- Rows 19 to 21, of a good game file.
  sheet_decided : Decided (λ f. Unit {0} × GameFile f.game) (sheet_rows width limit) (SheetFile width limit)
  unfolding sheet_rows
  sheet_decided = record {
    numbered = tt;
    sound = λ f k.
        let g = game_of f.game in
        let odds = odds_in width f in
        (formed_fails g width f.sheet, λ t19. (given_fails g odds, λ t20. (limit_fails g odds limit k.1.rules, λ t21. tt)));
    good = λ f k. (passes f k.1, obeys f k.1);
  }
    where
      passes : (f : SheetFiles) → GameFile f.game → SheetFile width limit f → AllPass (sheet_rows width limit) f
      passes f file s =
          let g = game_of f.game in
          let odds = odds_in width f in
          ((formed_iff g width f.sheet).passes (s.size, s.filling_zeros), ((given_iff g odds).passes s.odds, ((limit_exact g odds limit file.rules).passes s.served, tt)))

      obeys : (f : SheetFiles) → GameFile f.game → AllPass (sheet_rows width limit) f → SheetFile width limit f
      obeys f file tests =
          let g = game_of f.game in
          let odds = odds_in width f in
          let (t19, (t20, (t21, end))) = tests in
          let formed = (formed_iff g width f.sheet).holds t19 in
          record { size = formed.0; filling_zeros = formed.1; odds = (given_iff g odds).holds t20; served = (limit_exact g odds limit file.rules).holds t21 }

  -- 1 to 13, then 19 to 21
  pub rows_decided : Decided Any (of (λ f. f.game) game_rows ++ sheet_rows width limit) (GoodSheet width limit)
  rows_decided = decided_append (of (λ f. f.game) game_rows) (sheet_rows width limit) (decided_of (λ (f : SheetFiles). f.game) game_rows game_decided) sheet_decided

  pub demand1 : Clause (call width limit) (GoodSheet width limit)
  unfolding call
  demand1 = clause (call width limit) rows_decided

  -- 20 and 21 as tests, of a good sheet
  pub good_given : (f : SheetFiles) → GoodSheet width limit f → T (odds_given (game_of f.game) (odds_in width f))
  good_given f good = (given_iff (game_of f.game) (odds_in width f)).passes good.1.odds

  pub good_limit : (f : SheetFiles) → GoodSheet width limit f → (p : Player) → smallest_d (game_of f.game) (odds_in width f) p ≤ limit
  good_limit f good =
      let g = game_of f.game in
      let odds = odds_in width f in
      (limit_each g odds limit).holds ((limit_exact g odds limit good.0.rules).passes good.1.served)

  -- The plan file made of a good sheet, where every D up to the limit fits a plan file: what is true of it,
  module _ (most : limit ≤ largest_denominator) (f : SheetFiles) (good : GoodSheet width limit f) where
    small : (p : Player) → smallest_d (game_of f.game) (odds_in width f) p ≤ largest_denominator
    small p = NatL.le_trans (good_limit f good p) most

    pub made_of : MadeOf width f (made_plan width f)
    made_of =
        let g = game_of f.game in
        let R = good.0.rules in
        let odds = odds_in width f in
        let given = good_given f good in
        record {
          file = made_file g R odds given small;
          played = made_played g R odds given small;
          bases = λ p h m v. denominator_positive g odds R p (extended (leading g h) h m) (after {h = h} {m = m} v.set v.owned v.move);
          smallest = λ p d. rw (made_denominator g R odds given small p) (serves_iff g odds R p d);
        }

    -- and so it is over the smallest D
    pub made_least : (p : Player) → OverSmallest (game_of f.game) p (plan_pair_of (game_of f.game) (made_plan width f) p)
    made_least = made_smallest (game_of f.game) good.0.rules (odds_in width f) (good_given f good) small

  -- the rows before 21
  abbrev before : Rows SheetFiles
  before = of (λ f. f.game) game_rows ++ take 2 (sheet_rows width limit)

  -- 21 is the call's refusal exactly where they pass, and it does not
  refusal_21 : (f : SheetFiles) (out : List ℕ) → (call_refusal (call width limit) f (out, tt) ≡ 21) ↔ (AllPass before f × ¬ T (smallest_in_limit (game_of f.game) (odds_in width f) limit))
  unfolding call call_refusal all_rows sheet_rows game_rows header_rows record_rows tree_rows of room_rows
  refusal_21 f out =
      let lent : Lent SheetFiles (Buffers (ℕ ∷ [])) = record { input = f; buffers = (out, tt) } in
      let last : Row (Lent SheetFiles (Buffers (ℕ ∷ []))) = row 21 (λ x. smallest_in_limit (game_of x.input.game) (odds_in width x.input) limit) (λ x. (p : Player) × NoneServes (game_of x.input.game) (odds_in width x.input) limit p) in
      let at = refusal_at (of (λ x. x.input) before) (room_rows (call width limit)) last lent (λ e. omega arith) tt tt in
      let pass = pass_of (λ (x : Lent SheetFiles (Buffers (ℕ ∷ []))). x.input) before lent in
      (λ e. let (p, n) = at.0 e in (pass.1 p, n), λ h. at.1 (pass.0 h.0, h.1))

  -- those pass of a good game file, a sheet as long and filled as it should be, and odds at every set that is arrived at
  before_pass : (f : SheetFiles) → AllPass before f ↔ (GameFile f.game × T (sheet_well_formed (game_of f.game) width f.sheet) × T (odds_given (game_of f.game) (odds_in width f)))
  unfolding sheet_rows
  before_pass f =
      let game = of (λ (f : SheetFiles). f.game) game_rows in
      let both = pass_append game (take 2 (sheet_rows width limit)) f in
      let file = (decided_of (λ (f : SheetFiles). f.game) game_rows game_decided).good f tt in
      (λ p. let (g, (t19, (t20, end))) = both.0 p in (file.1 g, t19, t20), λ h. both.1 (file.0 h.0, (h.1, (h.2, tt))))

  -- 21 is "given exactly then"
  limited_exactly : (f : SheetFiles) (out : List ℕ) → ((run (call width limit) f (out, tt)).answer ≡ refused 21) ↔ LimitPassed width limit f
  limited_exactly f out =
      let g = game_of f.game in
      let odds = odds_in width f in
      let number = Iff.trans (refused_iff (call width limit) f (out, tt) 20) (refusal_21 f out) in (
        λ e.
            let (p, n) = number.0 e in
            let (file, t19, t20) = (before_pass f).0 p in
            let (player, none) = (limit_fails g odds limit file.rules).applies n in
            record { game = file; formed = t19; odds = t20; player = player; none = none },
        λ h. number.1 ((before_pass f).1 (h.game, h.formed, h.odds), (limit_fails g odds limit h.game.rules).fails (h.player, h.none)),
      )

  -- what the call's outcome means
  pub makes : limit ≤ largest_denominator → (f : SheetFiles) (out : List ℕ) → Makes width limit f out (run (call width limit) f (out, tt))
  unfolding call
  makes most f out = record {
    made = λ good room.
        let (answer, front) = gives_front (call width limit) rows_decided f out refl good room in
        (length (made_plan width f), answer, subst (MadeOf width f) (sym front) (made_of most f good));
    limited = limited_exactly f out;
  }

  -- and exported
  pub makes_in : limit ≤ largest_denominator → (f : SheetFiles) (before : ℕ) (out : List ℕ) → MakesIn width limit f out (exported same before (run (call width limit) f (out, tt)))
  makes_in most f before out =
      let o = run (call width limit) f (out, tt) in
      let m = makes most f out in
      record {
        made = λ good room. let (size, answer, is) = m.made good room in exported_gives before (MadeOf width f) o answer is;
        limited = Iff.trans (exported_refuses before o 20) m.limited;
      }
