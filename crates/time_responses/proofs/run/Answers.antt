-- A pair that was read and fits: its game is loaded, and player 2's weights are in their array.
use Rattle.std.proofs.Common.{◌≡◌, ℕ, List, Result, Ok, arith, refl, replicate}
use Rattle.model.specs.Limits.{count_limit}
use Rattle.model.specs.Game.{game_of, one, two}
use Rattle.checks.specs.declared.Refusal.{Refusal}
use Rattle.loaded.specs.declared.LoadedGame.{LoadedGame}
use Rattle.pair.specs.declared.PairHeader.{PairHeader}
use Rattle.pair.specs.Refusals.{PairRead}
use Rattle.plan.proofs.ByNumber.{small_number}
use Rattle.pair.proofs.Pairs.{pair_opened, pair_holds}
use Rattle.responses.specs.Responses.{ResponseAsked}
use Rattle.time_responses.proofs.run.Goals as goal

-- player 1's best response can be asked for
asked : (game plan : List ℕ) {a : Result PairHeader Refusal} {h : PairHeader} {x : List ℕ} {y : List ℕ} {l : LoadedGame} → PairRead game plan a l.numbers.now l.payoffs.now (replicate count_limit 0) x (replicate count_limit 0) y → a ≡ Ok h → l.counts ≡ h.counts → ResponseAsked l one y
asked game plan read fits same =
    let o = pair_opened game plan read.answer fits in
    let held = pair_holds game plan o two (replicate count_limit 0) read.second (omega arith) in
    record {
      game = game_of game;
      loaded = rw (same, o.counts) (read.loaded o.game_none);
      weights = record { long = held.long; small = λ i l. omega (arith, held.at i l, small_number (game_of game) plan two i) };
    }

pub repeat-requires : goal.repeat-requires
repeat-requires g c = asked c.args.game.now c.args.plan.now c.read.ensures c.in-Ok.is refl
