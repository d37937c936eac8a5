-- Player 1's odds are the first in the sheet, player 2's follow.
use native.Mathlib.Omega.{arith}
use Rattle.model.specs.Game.{one, two}
use Rattle.plan.proofs.Refusals.{counted, run_is, run_few}
use Rattle.sheets.proofs.OddsRead.{odds_read}
use Rattle.weighing.proofs.read_odds.Goals as goal

pub returns : goal.returns
returns c g e =
    let n = counted e in
    let k = c.requires.0 in
    let first = run_is g e one c.of-first.ensures in
    let second = run_is g e two c.of-second.ensures in
    record {
      first = odds_read g one c.args.width c.args.sheet.now c.args.x.now c.decode.ensures first.0 first.1 (omega (arith, n.first, k.some2, k.few, c.requires.2));
      second = odds_read g two c.args.width c.args.sheet.now c.args.y.now c.decode-2.ensures second.0 second.1 (omega (arith, n.second, k.some1, k.few, c.requires.3));
    }

pub decode-requires : goal.decode-requires
decode-requires c = let run = run_few c.requires.0 one c.of-first.ensures in (c.requires.1, omega (arith, run.0), omega (arith, run.1), omega (arith, run.1, c.requires.2))

pub decode-requires-2 : goal.decode-requires-2
decode-requires-2 c = let run = run_few c.requires.0 two c.of-second.ensures in (c.requires.1, omega (arith, run.0), omega (arith, run.1), omega (arith, run.1, c.requires.3))
