-- Marks, set by set in the order of first nodes: a set's sequences are marked after the one that leads to it.
use Prim.Native.Nat.{ℕ, ◌+◌, ◌≤◌, ◌<◌}
use mathlib.Core.Path.{◌≡◌, refl, ap, ◌∙◌, subst}
use mathlib.Core.Bool.{Bool, true, false, ◌&&◌, cond}
use mathlib.Core.List.{List, []}
use native.Mathlib.Omega.{arith}
use native.Mathlib.Nat as NatL
use lib.ListN.{length, set, length-set}
use lib.Seq.{get_or-set_same}
use lib.Dec.{T, ltb, eqb, lt→ltb}
use mir.Facts.{and_yes, yes_and}
use Rattle.algebra.specs.Arrays.{item}
use Rattle.algebra.specs.Bounded.{total_to, all_to, implies}
use Rattle.algebra.specs.Sections.{Held, Apart}
use Rattle.algebra.proofs.Sections.{held_as}
use Rattle.algebra.proofs.Searches.{all_to_at, all_to_make}
use Rattle.algebra.proofs.Tests.{bool_same, T→true, not→false, implies_use, implies_make}
use Rattle.model.specs.Limits.{count_limit}
use Rattle.model.specs.Game.{Game, Player, one, two, owns}
use Rattle.model.specs.Sequences.{Sequence, extended, leading, leading_number, sequence_count}
use Rattle.model.specs.Rules.{GameRules}
use Rattle.model.specs.Sheet.{Odds, odds_total, no_zero_odds, odds_given}
use Rattle.model.proofs.Sheets.{no_zero_extended, arrives_empty}
use Rattle.model.proofs.Tree.{player_refl}
use Rattle.std.specs.Prelude.{Ok, Err}
use Rattle.checks.specs.declared.Refusal.TheVariants.{NoOdds}
use Rattle.checks.specs.Answers.{checked_of}
use Rattle.checks.proofs.Passes.{Passed, passed_none, passed_more, passed_not, passed_all}
use Rattle.loaded.specs.declared.Counts.{Counts}
use Rattle.loaded.specs.Sets.{set_order}
use Rattle.loaded.specs.SetSequences.{set_sequences_of}
use Rattle.loaded.specs.InOrder.{InOrder}
use Rattle.loaded.specs.declared.SetSequences.{SetSequences}
use Rattle.loaded.proofs.InOrder.{order_none, order_skip, order_lead, order_more}
use Rattle.loaded.proofs.SetOrder.{order_long, order_has, order_set}
use Rattle.plan.specs.Loaded.{LoadedIn}
use Rattle.plan.proofs.Refusals.{counted}
use Rattle.sheets.specs.OddsByNumber.{OddsByNumber}
use Rattle.sheets.proofs.OddsRead.{set_odds, set_total}
use Rattle.odds.specs.Marks.{mark_of, given_at, player_given_of, SetMarked, NextMarked, AllAsked, OrderAsked}

-- a mark is a number of 16 bits where the one before it is
pub mark_small : (b : Bool) (before : ℕ) → before < 65536 → cond b before 0 < 65536
mark_small true before l = l
mark_small false before l = omega arith

-- A set whose sequences are marked after the mark of the one that leads to it.
module _ {set : SetSequences} {x marks after : List ℕ} {before : ℕ} (is : before ≡ item marks set.lead) (held : Held set.start (λ m. cond (ltb 0 (item x (set.start + m))) before 0) set.moves after) (apart : Apart set.start (set.start + set.moves) marks after) where
  -- that one is not marked: nothing is asked
  pub set_unmarked : before ≡ 0 → SetMarked set x (eqb before 0) marks after
  unfolding implies
  set_unmarked e = record { answer = rw (← is, e); marked = held_as _ held (λ m v. ap (λ (k : ℕ). cond (ltb 0 (item x (set.start + m))) k 0) is); apart = apart }

  -- it is marked: the odds of the set's moves are
  pub set_marked : ¬ (before ≡ 0) → {sum : ℕ} → sum ≡ total_to set.moves (λ m. item x (set.start + m)) → SetMarked set x (ltb 0 sum) marks after
  unfolding implies
  set_marked n e = record { answer = rw (← is, ← e, T→true (ltb 0 before) (lt→ltb 0 before (NatL.pos_of_ne-zero n))); marked = held_as _ held (λ m v. ap (λ (k : ℕ). cond (ltb 0 (item x (set.start + m))) k 0) is); apart = apart }

-- what is asked of a player's own set
asked : (b : Bool) → b ≡ implies true b
unfolding implies
asked b = refl

module _ (g : Game) (odds : Odds) where
  -- the empty sequence's mark
  mark_empty : 1 ≡ mark_of g odds []
  unfolding mark_of
  mark_empty = rw (T→true (no_zero_odds g odds []) (arrives_empty g odds))

  -- with one more move
  mark_extended : (s : Sequence) (h m : ℕ) → cond (ltb 0 (odds h m)) (mark_of g odds s) 0 ≡ mark_of g odds (extended s h m)
  unfolding mark_of
  mark_extended s h m = rw (no_zero_extended g odds s h m) (both (no_zero_odds g odds s) (ltb 0 (odds h m)))
    where
      both : (a b : Bool) → cond b (cond a 1 0) 0 ≡ cond {A = ℕ} (a && b) 1 0
      both true true = refl
      both true false = refl
      both false true = refl
      both false false = refl

  -- a mark is above 0 where the sequence has no zero odds
  mark_tells : (s : Sequence) → ltb 0 (mark_of g odds s) ≡ no_zero_odds g odds s
  unfolding mark_of
  mark_tells s = go (no_zero_odds g odds s)
    where
      go : (b : Bool) → ltb 0 (cond b 1 0) ≡ b
      go true = refl
      go false = refl

  -- check 20 at the sets of both players is check 20
  pub given_both : (player_given_of g odds one && player_given_of g odds two) ≡ odds_given g odds
  unfolding player_given_of given_at odds_given owns
  given_both =
      bool_same (player_given_of g odds one && player_given_of g odds two) (odds_given g odds)
      (λ t. let a = and_yes (player_given_of g odds one) (player_given_of g odds two) t in all_to_make g.sets _ (λ h l. each h (g.set_player h) refl (all_to_at g.sets _ a.0 h l) (all_to_at g.sets _ a.1 h l)))
      (λ t. yes_and (player_given_of g odds one) (player_given_of g odds two) (part one t) (part two t))
    where
      each : (h : ℕ) (q : Player) → g.set_player h ≡ q → T (given_at g odds one h) → T (given_at g odds two h) → T (implies (no_zero_odds g odds (leading g h)) (ltb 0 (odds_total g odds h)))
      each h one e a b = implies_use (owns g one h) _ a (rw e (player_refl one))
      each h two e a b = implies_use (owns g two h) _ b (rw e (player_refl two))

      part : (q : Player) → T (odds_given g odds) → T (player_given_of g odds q)
      part q t = all_to_make g.sets _ (λ h l. implies_make (owns g q h) _ (λ w. all_to_at g.sets _ t h l))

-- The set at place n of the order, after those before it.
module _ {g : Game} (R : GameRules g) (p : Player) (odds : Odds) {x : List ℕ} (X : OddsByNumber g p odds x) {n : ℕ} (v : n < g.sets) {marks : List ℕ} (K : InOrder g p (mark_of g odds) n marks) where
  abbrev next : ℕ
  next = item (set_order g) n

  next_in : next < g.sets
  next_in = order_set g R n v

  module _ (o : T (owns g p next)) {r : Bool} {after : List ℕ} (M : SetMarked (set_sequences_of g next) x r marks after) where
    -- the mark before it
    before : item marks (leading_number g next) ≡ mark_of g odds (leading g next)
    before = order_lead g R p (mark_of g odds) v K o

    -- its answer is that of check 20
    given_there : r ≡ given_at g odds p next
    unfolding given_at set_sequences_of
    given_there =
        M.answer
        ∙ rw (before, mark_tells g odds (leading g next), set_total X next_in o, T→true (owns g p next) o)
        (asked (implies (no_zero_odds g odds (leading g next)) (ltb 0 (odds_total g odds next))))

    -- and its sequences are marked
    marked_there : InOrder g p (mark_of g odds) (n + 1) after
    unfolding set_sequences_of
    marked_there =
        order_more g R p (mark_of g odds) v K o refl
        (held_as _ M.marked (λ m w. rw (before, set_odds X next_in o m w) (mark_extended g odds (leading g next) next m)))
        M.apart

  -- it is the player's
  pub next_own : T (owns g p next) → {set : SetSequences} → set ≡ set_sequences_of g next → {r : Bool} {after : List ℕ} → SetMarked set x r marks after → NextMarked g odds p n r after
  next_own o {set} is {r} {after} M =
      let done : SetMarked (set_sequences_of g next) x r marks after = subst (λ (s : SetSequences). SetMarked s x r marks after) is M in
      record { answer = given_there o done; marks = marked_there o done }

  -- it is the other's
  pub next_other : ¬ T (owns g p next) → NextMarked g odds p n true marks
  unfolding given_at implies
  next_other o = record { answer = rw (not→false (owns g p next) o); marks = order_skip g R p (mark_of g odds) v K o }

-- check 20 at every place of the order is check 20 at every set
given_in_order : {g : Game} → GameRules g → (odds : Odds) (p : Player) → all_to g.sets (λ i. given_at g odds p (item (set_order g) i)) ≡ player_given_of g odds p
unfolding player_given_of
given_in_order {g} R odds p =
    bool_same (all_to g.sets (λ i. given_at g odds p (item (set_order g) i))) (all_to g.sets (given_at g odds p))
    (λ t. all_to_make g.sets _ (λ h l. let place = order_has g R h l in subst (λ (k : ℕ). T (given_at g odds p k)) place.2 (all_to_at g.sets _ t place.0 (omega (arith, place.1, order_long g R)))))
    (λ t. all_to_make g.sets _ (λ i l. all_to_at g.sets _ t (item (set_order g) i) (order_set g R i l)))

-- The sets before place i of the order pass, and their sequences are marked.
pub record PassedMarked (g : Game) (odds : Odds) (p : Player) (i : ℕ) (marks : List ℕ) : Type 0 where
  pub passed : Passed (λ k. given_at g odds p (item (set_order g) k)) g.sets i
  pub marks_are : InOrder g p (mark_of g odds) i marks

module _ (g : Game) (odds : Odds) (p : Player) where
  -- none yet: the empty sequence is marked
  pub marked_none : GameRules g → (before : List ℕ) {marks : List ℕ} → sequence_count g p ≤ length before → marks ≡ set before 0 1 → PassedMarked g odds p 0 marks
  unfolding sequence_count
  marked_none R before room e = record {
    passed = passed_none _ _;
    marks_are = rw e (order_none g R p (mark_of g odds) (omega (arith, room, length-set before 0 1)) (get_or-set_same before 0 1 0 (omega arith) ∙ mark_empty g odds));
  }

  -- one more passes
  pub marked_more : {i : ℕ} {r : Bool} {marks after : List ℕ} → PassedMarked g odds p i marks → i < g.sets → NextMarked g odds p i r after → r ≡ true → PassedMarked g odds p (i + 1) after
  marked_more {i} {r} P l N t = record { passed = passed_more _ _ i r P.passed l N.answer t; marks_are = N.marks }

  module _ (R : GameRules g) where
    -- one does not
    pub marked_not : {i : ℕ} {r : Bool} {after : List ℕ} → i < g.sets → NextMarked g odds p i r after → r ≡ false → Err NoOdds ≡ checked_of NoOdds (player_given_of g odds p)
    marked_not {i} {r} l N t = passed_not _ g.sets NoOdds i r l N.answer t ∙ ap (checked_of NoOdds) (given_in_order R odds p)

    -- all do
    pub marked_all : {i : ℕ} {marks : List ℕ} → PassedMarked g odds p i marks → g.sets ≤ i → Ok tt ≡ checked_of NoOdds (player_given_of g odds p)
    marked_all {i} P l = passed_all _ _ NoOdds i P.passed l ∙ ap (checked_of NoOdds) (given_in_order R odds p)

-- one place of the order is asked for
pub asked_at : {sets : ℕ} {numbers x marks now : List ℕ} → AllAsked sets numbers x marks → length now ≡ length marks → {i : ℕ} → i < sets → OrderAsked i numbers x now
asked_at A e l = record {
  place = record { game = A.game; counts = A.counts; loaded = A.loaded; inside = omega (arith, l, A.sets_are) };
  in_odds = A.in_odds;
  in_marks = omega (arith, e, A.in_marks);
}

-- all of them are
pub all_asked : {c : Counts} {numbers x marks : List ℕ} → LoadedIn c numbers → count_limit ≤ length x → count_limit ≤ length marks → AllAsked c.sets numbers x marks
all_asked {c} L l m = record {
  game = L.game;
  counts = c;
  loaded = L.loaded;
  sets_are = (counted L.loaded.counts_are).sets_are;
  in_odds = l;
  in_marks = m;
}
