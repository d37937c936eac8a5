-- What the worth recursion reads of a loaded game: where chains begin and go on, a set's moves, and places within the slices.
use Prim.Native.Nat.{ℕ, ◌+◌, ◌≤◌, ◌<◌}
use mathlib.Core.Path.{◌≡◌, ap, ◌∙◌, subst}
use mathlib.Core.List.{List}
use native.Mathlib.Omega.{arith}
use lib.Dec.{T}
use lib.IntN.{ℤ}
use lib.ListN.{length}
use mir.Syntax.{w64}
use mir.Val.{SFits}
use Rattle.algebra.specs.Arrays.{item, item_z}
use Rattle.model.specs.Game.{Game, Player, owns}
use Rattle.model.specs.Sequences.{sequence_count}
use Rattle.model.specs.Plan.{RealizationPlan}
use Rattle.model.specs.Limits.{GameLimits}
use Rattle.model.specs.Rules.{GameRules}
use Rattle.model.proofs.Tree.{owner}
use Rattle.loaded.specs.Sections.{moves_section, start_section, next_section}
use Rattle.loaded.specs.Sets.{first_sequence, lead_by, first_led, next_led}
use Rattle.loaded.specs.Loaded.{NumbersLoaded}
use Rattle.slices.proofs.Firsts.{FirstPassing, first_from_lem}
use Rattle.responses.specs.Worths.{leaves_at, WorthReady, ReadyFor, SequenceStored, SequenceGiven}
use Rattle.responses.specs.declared.worths.Play.{Play}
use Rattle.responses.proofs.SequencesAt.{led, move_below}
use Rattle.responses.proofs.Walks.{leaves_fit}

-- the first set from h on that a sequence leads to
led_first : (g : Game) (p : Player) (s h : ℕ) → h ≤ g.sets → FirstPassing g.sets (lead_by g p s) h (first_led g p s h)
unfolding first_led
led_first g p s h l = first_from_lem g.sets (lead_by g p s) h l

-- and after one that it leads to
next_first : (g : Game) (p : Player) (s h : ℕ) → h < g.sets → T (lead_by g p s h) → FirstPassing g.sets (lead_by g p s) (h + 1) (next_led g h)
unfolding next_led
next_first g p s h l t =
    let a = led g p s h t in
    rw (owner g p h a.0, a.1) (led_first g p s (h + 1) (omega arith))

module _ {g : Game} {p : Player} {y : RealizationPlan} {numbers : List ℕ} {sums : List ℤ} {heads sets : ℕ} (W : WorthReady g p y numbers sums heads sets) where
  numbers_are : NumbersLoaded g W.counts numbers
  numbers_are = W.sums_held.loaded

  pub rules : GameRules g
  rules = numbers_are.rules

  pub limits : GameLimits g
  limits = numbers_are.limits

  -- One of the player's sequences.
  module _ {s : ℕ} (l : s < sequence_count g p) where
    -- where its chain begins
    pub head_room : heads + s < length numbers
    head_room = omega (arith, W.heads_are, (numbers_are.heads p).long)

    pub head_at : {at : ℕ} → at ≡ item numbers (heads + s) → FirstPassing g.sets (lead_by g p s) 0 at
    head_at e =
        let i : item numbers (heads + s) ≡ first_led g p s 0 = ap (λ (k : ℕ). item numbers (k + s)) W.heads_are ∙ (numbers_are.heads p).at 0 s l in
        rw (e ∙ i) (led_first g p s 0 (omega arith))

    -- what its leaves are worth
    pub sum_at_lem : item_z sums s ≡ leaves_at g p y s
    sum_at_lem = W.sums_held.held.at s l

    pub sum_fits : SFits w64 (item_z sums s)
    sum_fits = rw sum_at_lem (leaves_fit g p y s rules l limits W.sums_held.small)

  -- A set.
  module _ {h : ℕ} (l : h < g.sets) where
    -- the next of its chain
    pub next_at : (s : ℕ) {at : ℕ} → T (lead_by g p s h) → at ≡ item numbers (next_section + h) → FirstPassing g.sets (lead_by g p s) (h + 1) at
    next_at s t e = rw (e ∙ numbers_are.nexts.at 0 h l) (next_first g p s h l t)

    -- its moves
    pub start_at : {s : ℕ} → s ≡ item numbers (start_section + h) → s ≡ first_sequence g h
    start_at e = e ∙ numbers_are.starts.at 0 h l

    pub moves_at : {m : ℕ} → m ≡ item numbers (moves_section + h) → m ≡ g.set_moves h
    moves_at e = e ∙ numbers_are.decoded.sets_decoded.moves.at 0 h l

    pub some_move : 0 < g.set_moves h
    some_move = (rules.set_moves h l).0

-- what a call for one of the moves of a set leaves
pub move_stored : (play : Play) {g : Game} {p : Player} {y : RealizationPlan} → ReadyFor g p y play → {s : ℕ} {before after : List ℤ} {r : ℤ} → SequenceGiven play s before after r → (h m : ℕ) → h < g.sets → T (owns g p h) → m < g.set_moves h → s ≡ first_sequence g h + m → SequenceStored g p y (first_sequence g h + m) before after r
move_stored play {g} {p} {y} W {s} {before} {after} {r} call h m l o b e = subst (λ (k : ℕ). SequenceStored g p y k before after r) e (call g p y W (omega (arith, e, move_below g p h m l o b)))
