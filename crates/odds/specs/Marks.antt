-- Sequences that are marked where they have no zero odds, set by set.
use Rattle.std.specs.Prelude.{ℕ, ◌+◌, ◌≤◌, ◌<◌, ◌≡◌, Bool, cond, List, length, ltb}
use Rattle.algebra.specs.Arrays.{item}
use Rattle.algebra.specs.Bounded.{total_to, all_to, implies}
use Rattle.algebra.specs.Sections.{Held, Apart}
use Rattle.model.specs.Limits.{count_limit}
use Rattle.model.specs.Game.{Game, Player, owns}
use Rattle.model.specs.Sequences.{Sequence, leading}
use Rattle.model.specs.Sheet.{Odds, odds_total, no_zero_odds}
use Rattle.loaded.specs.declared.Counts.{Counts}
use Rattle.loaded.specs.declared.SetSequences.{SetSequences}
use Rattle.loaded.specs.InOrder.{InOrder}
use Rattle.loaded.specs.Loaded.{NumbersLoaded}
use Rattle.loaded.specs.Sets.{set_order}
use Rattle.sheets.specs.OwnSets.{OrderPlace}

-- the mark of a sequence: 1 where it has no zero odds
unfoldable pub mark_of : Game → Odds → Sequence → ℕ
mark_of g odds s = cond (no_zero_odds g odds s) 1 0

-- check 20 at set h, where it is p's
unfoldable pub given_at : Game → Odds → Player → ℕ → Bool
given_at g odds p h = implies (owns g p h) (implies (no_zero_odds g odds (leading g h)) (ltb 0 (odds_total g odds h)))

-- check 20 at p's sets
unfoldable pub player_given_of : Game → Odds → Player → Bool
player_given_of g odds p = all_to g.sets (given_at g odds p)

-- The odds of a set's moves, its marks and the mark of the sequence that leads to it have places.
pub record SetStands (set : SetSequences) (x marks : List ℕ) : Type 0 where
  pub few : set.moves ≤ 64
  pub in_odds : set.start + set.moves ≤ length x
  pub in_marks : set.start + set.moves ≤ length marks
  pub below : set.lead < length marks

-- After a set: the answer, and its sequences marked.
pub record SetMarked (set : SetSequences) (x : List ℕ) (r : Bool) (before after : List ℕ) : Type 0 where
  pub answer : r ≡ implies (ltb 0 (item before set.lead)) (ltb 0 (total_to set.moves (λ m. item x (set.start + m))))
  pub marked : Held set.start (λ m. cond (ltb 0 (item x (set.start + m))) (item before set.lead) 0) set.moves after
  pub apart : Apart set.start (set.start + set.moves) before after

-- After the set at place i of the order: the answer, and all that was marked before it with its sequences.
pub record NextMarked (g : Game) (odds : Odds) (p : Player) (i : ℕ) (r : Bool) (after : List ℕ) : Type 0 where
  pub answer : r ≡ given_at g odds p (item (set_order g) i)
  pub marks : InOrder g p (mark_of g odds) (i + 1) after

-- All sets of some game that is loaded, and for as many sequences as a player can have a place for odds and for marks.
pub record AllAsked (sets : ℕ) (numbers x marks : List ℕ) : Type 0 where
  pub game : Game
  pub counts : Counts
  pub loaded : NumbersLoaded game counts numbers
  pub sets_are : sets ≡ game.sets
  pub in_odds : count_limit ≤ length x
  pub in_marks : count_limit ≤ length marks

-- the same with one place of the order
pub record OrderAsked (i : ℕ) (numbers x marks : List ℕ) : Type 0 where
  pub place : OrderPlace i numbers
  pub in_odds : count_limit ≤ length x
  pub in_marks : count_limit ≤ length marks
