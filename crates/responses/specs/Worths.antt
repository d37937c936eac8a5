-- Worths of one player's sequences by number: what the recursion over a loaded game takes, and what it leaves in the array that it is lent.
use Rattle.std.specs.Prelude.{ℕ, ◌+◌, ◌≤◌, ◌<◌, ◌≡◌, List, T, ℤ, length}
use Rattle.algebra.specs.Arrays.{item_z}
use Rattle.model.specs.Limits.{weight_limit}
use Rattle.model.specs.Game.{Game, Player, other, owns}
use Rattle.model.specs.Sequences.{sequence_count}
use Rattle.model.specs.Plan.{RealizationPlan, weight_at}
use Rattle.model.specs.BestResponse.{leaves_worth, worth, set_worth}
use Rattle.model.specs.Demand2.{sequence_at}
use Rattle.loaded.specs.Sections.{head_section_of}
use Rattle.loaded.specs.Sets.{first_sequence, lead_by}
use Rattle.loaded.specs.Loaded.{NumbersLoaded}
use Rattle.loaded.specs.declared.Counts.{Counts}
use Rattle.responses.specs.declared.worths.Play.{Play}

-- the first n entries of a list of integers are f 0, .., f (n - 1)
pub record HoldsZ (f : ℕ → ℤ) (n : ℕ) (l : List ℤ) : Type 0 where
  pub long : n ≤ length l
  pub at : (i : ℕ) → i < n → item_z l i ≡ f i

-- Player p against the other's realization plan y; sequences go by their numbers among p's.
module _ (g : Game) (p : Player) (y : RealizationPlan) where
  -- what the leaves at sequence s are worth
  unfoldable pub leaves_at : (s : ℕ) → ℤ
  leaves_at s = leaves_worth g p y (sequence_at g p s)

  -- the worth of sequence s
  unfoldable pub worth_at : (s : ℕ) → ℤ
  worth_at s = worth g p y (sequence_at g p s)

  -- The game is loaded, and `sums` has what the leaves at each sequence are worth; the plan's weights are within the limit.
  pub record SumsHeld (c : Counts) (numbers : List ℕ) (sums : List ℤ) : Type 0 where
    pub loaded : NumbersLoaded g c numbers
    pub small : (n : ℕ) → n < g.nodes → weight_at g y (other p) n ≤ weight_limit
    pub held : HoldsZ leaves_at (sequence_count g p) sums

  -- The game is loaded, and `worths` has the worth of each sequence.
  pub record WorthsHeld (c : Counts) (numbers : List ℕ) (worths : List ℤ) : Type 0 where
    pub loaded : NumbersLoaded g c numbers
    pub held : HoldsZ worth_at (sequence_count g p) worths

  -- What the recursion takes: the same, with where the player's first sets begin, and how many sets there are.
  pub record WorthReady (numbers : List ℕ) (sums : List ℤ) (heads sets : ℕ) : Type 0 where
    pub counts : Counts
    pub sums_held : SumsHeld counts numbers sums
    pub heads_are : heads ≡ head_section_of p
    pub sets_are : sets ≡ g.sets

  -- a place that has the worth of its sequence keeps it
  pub record Kept (before after : List ℤ) : Type 0 where
    pub right : (s : ℕ) → item_z before s ≡ worth_at s → item_z after s ≡ worth_at s

  -- the place of s has its worth, and so has that of each sequence that comes after s in play
  pub data RightFrom (worths : List ℤ) : ℕ → Type 0 where
    right_from : {s : ℕ} → item_z worths s ≡ worth_at s → ((h m : ℕ) → h < g.sets → T (lead_by g p s h) → m < g.set_moves h → RightFrom worths (first_sequence g h + m)) → RightFrom worths s

  -- a call for sequence s gives its worth, and stores it and those of the sequences after it
  pub record SequenceStored (s : ℕ) (before after : List ℤ) (r : ℤ) : Type 0 where
    pub value : r ≡ worth_at s
    pub kept : Kept before after
    pub stored : RightFrom after s

  -- a call for set h gives its worth, and stores those of the sequences after it
  pub record SetStored (h : ℕ) (before after : List ℤ) (r : ℤ) : Type 0 where
    pub value : r ≡ set_worth g p y h
    pub kept : Kept before after
    pub stored : (m : ℕ) → m < g.set_moves h → RightFrom after (first_sequence g h + m)

-- What all worths of a player need: some game's sums, against some plan.
pub record WorthsAsked (c : Counts) (numbers : List ℕ) (sums : List ℤ) (p : Player) : Type 0 where
  pub game : Game
  pub plan : RealizationPlan
  pub held : SumsHeld game p plan c numbers sums

-- What it takes, as it is lent.
abbrev pub ReadyFor : Game → Player → RealizationPlan → Play → Type 0
ReadyFor g p y play = WorthReady g p y play.numbers.now play.sums.now play.heads play.sets

-- What a call for sequence s needs: that some game's player is ready, and room for the worths of his sequences, of which s is one.
pub record SequenceAsked (play : Play) (worths : List ℤ) (s : ℕ) : Type 0 where
  pub game : Game
  pub player : Player
  pub plan : RealizationPlan
  pub ready : ReadyFor game player plan play
  pub room : sequence_count game player ≤ length worths
  pub is_sequence : s < sequence_count game player

-- What it gives, of each game there.
abbrev pub SequenceGiven : (play : Play) → (s : ℕ) → (before after : List ℤ) → (r : ℤ) → Type 0
SequenceGiven play s before after r =
    (g : Game) (p : Player) (y : RealizationPlan) → ReadyFor g p y play → s < sequence_count g p → SequenceStored g p y s before after r

-- What a call for one of his sets needs, and what it gives.
pub record SetAsked (play : Play) (worths : List ℤ) (h : ℕ) : Type 0 where
  pub game : Game
  pub player : Player
  pub plan : RealizationPlan
  pub ready : ReadyFor game player plan play
  pub room : sequence_count game player ≤ length worths
  pub is_set : h < game.sets
  pub own : T (owns game player h)

abbrev pub SetGiven : (play : Play) → (h : ℕ) → (before after : List ℤ) → (r : ℤ) → Type 0
SetGiven play h before after r =
    (g : Game) (p : Player) (y : RealizationPlan) → ReadyFor g p y play → h < g.sets → T (owns g p h) → SetStored g p y h before after r
