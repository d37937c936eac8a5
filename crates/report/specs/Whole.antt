-- The whole report, by the numbers that it shows.
use Rattle.std.specs.Prelude.{ℕ, ◌+◌, ◌*◌, ◌≤◌, cond, List, [], ◌++◌, ℤ, pos, ◌*ℤ◌, length, Option, Some, None}
use Rattle.algebra.specs.Arrays.{item}
use Rattle.algebra.specs.Bounded.{join_to}
use Rattle.model.specs.Game.{Player, one, two, player_number}
use Rattle.model.specs.Earnings.{Fraction, ◌over◌, base_of}
use Rattle.model.specs.Report.{ascii, line, move_line}
use Rattle.model.specs.Limits.{count_limit}
use Rattle.loaded.specs.Players.{as_player}
use Rattle.pair.specs.declared.PairHeader.{PairHeader}
use Rattle.form.specs.declared.Values.{Values}
use Rattle.judgement.specs.Judgement.{GainFits}
use Rattle.judgement.specs.Strategy.{is_own}
use Rattle.judgement.specs.declared.Deviation.{Deviation}
use Rattle.text.specs.Lines.{amount_line}

-- one line for player 1 and one for player 2, over the same base
unfoldable pub both_lines : (label : List ℕ) → (count1 count2 : ℤ) → (base : ℕ) → List ℕ
both_lines label count1 count2 base = amount_line label 1 (ascii " ") (count1 over base) ++ amount_line label 2 (ascii " ") (count2 over base)

-- "value 1, value 2, best 1, best 2": values are over D0 × D1 × D2, each best value is brought to that base by the player's own D
unfoldable pub values_text : Values → (d1 d2 base : ℕ) → List ℕ
values_text v d1 d2 base = both_lines (ascii "value ") v.value1 v.value2 base ++ both_lines (ascii "best ") (pos d1 *ℤ v.best1) (pos d2 *ℤ v.best2) base

-- the line of set h, where it is p's, with its move
unfoldable pub set_line : (numbers : List ℕ) → (p : Player) → (moves : List ℕ) → (h : ℕ) → List ℕ
set_line numbers p moves h = cond (is_own numbers p h) (move_line (h, item moves h)) []

-- "one line per set of that player, rising"
unfoldable pub strategy_lines : (numbers : List ℕ) → (sets : ℕ) → (p : Player) → (moves : List ℕ) → List ℕ
strategy_lines numbers sets p moves = join_to sets (set_line numbers p moves)

-- "the deviation with its player, its gain and one line per set of that player"
unfoldable pub deviation_text : (numbers : List ℕ) → (sets : ℕ) → (p : Player) → (gain : Fraction) → (moves : List ℕ) → List ℕ
deviation_text numbers sets p gain moves = amount_line (ascii "deviation player ") (player_number p) (ascii " gain ") gain ++ strategy_lines numbers sets p moves

-- p's moves
abbrev pub moves_of : (p : Player) → (moves1 moves2 : List ℕ) → List ℕ
moves_of one moves1 moves2 = moves1
moves_of two moves1 moves2 = moves2

-- "then `accepted`, or the deviation": of its player, with his moves
unfoldable pub verdict_text : (numbers : List ℕ) → (sets base : ℕ) → Option Deviation → (moves1 moves2 : List ℕ) → List ℕ
verdict_text numbers sets base None moves1 moves2 = line (ascii "accepted")
verdict_text numbers sets base (Some d) moves1 moves2 = let p = as_player d.player in deviation_text numbers sets p (d.gain over base) (moves_of p moves1 moves2)

-- the whole report, by D0, D1 and D2
unfoldable pub report_text : (numbers : List ℕ) → (sets root d1 d2 : ℕ) → Values → Option Deviation → (moves1 moves2 : List ℕ) → List ℕ
report_text numbers sets root d1 d2 v verdict moves1 moves2 = values_text v d1 d2 (base_of root d1 d2) ++ verdict_text numbers sets (base_of root d1 d2) verdict moves1 moves2

-- No report has more bytes. An amount has at most 38: a sign, 19 digits, " of ", and the 14 digits of 4,095 × 65,535 × 65,535.
-- With it the line of a value has 47, that of a best value 46 and that of a gain 63; a set's line, with four digits and two, has 17.
abbrev pub most : ℕ
most = 2 * 47 + 2 * 46 + 63 + 17 * count_limit

-- the report of a pair that was read from its files, by the players of the sets
abbrev pub pair_report : (numbers : List ℕ) → PairHeader → Values → Option Deviation → (moves1 moves2 : List ℕ) → List ℕ
pair_report numbers pair v verdict moves1 moves2 = report_text numbers pair.counts.sets pair.counts.root_weight pair.denominators.d1 pair.denominators.d2 v verdict moves1 moves2

-- what `pair_report` needs: a player and two moves for every set of the game, and numbers that fit
pub record PairReady (numbers : List ℕ) (pair : PairHeader) (v : Values) (moves1 moves2 : List ℕ) : Type 0 where
  pub long : pair.counts.sets ≤ length numbers
  pub long1 : pair.counts.sets ≤ length moves1
  pub long2 : pair.counts.sets ≤ length moves2
  pub root_few : pair.counts.root_weight ≤ count_limit
  pub gain1 : GainFits pair.denominators.d1 v.best1 v.value1
  pub gain2 : GainFits pair.denominators.d2 v.best2 v.value2
