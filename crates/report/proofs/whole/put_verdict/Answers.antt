-- One text for each case of the verdict. The answers stand before what their calls ask.
use mathlib.Core.Path.{ap}
use Rattle.loaded.specs.Players.{as_player}
use Rattle.report.proofs.Wholes.{text_accepted, text_found}
use Rattle.report.proofs.whole.put_verdict.Goals as goal

pub returns-in_default : goal.returns-in_default
returns-in_default c =
    let a = c.args in
    rw (text_accepted a.numbers.now a.sets a.base a.moves1.now a.moves2.now c.in_default.is) c.put_accepted.ensures

pub returns-in-One : goal.returns-in-One
returns-in-One c =
    let a = c.args in
    let text = text_found a.numbers.now a.sets a.base a.moves1.now a.moves2.now c.in-Some.is (ap as_player c.in-One.is) in
    rw text c.put_deviation.ensures

pub returns-in-Two : goal.returns-in-Two
returns-in-Two c =
    let a = c.args in
    let text = text_found a.numbers.now a.sets a.base a.moves1.now a.moves2.now c.in-Some.is (ap as_player c.in-Two.is) in
    rw text c.put_deviation-in-Two.ensures

pub put_accepted-requires : goal.put_accepted-requires
put_accepted-requires c =
    rw (text_accepted c.args.numbers.now c.args.sets c.args.base c.args.moves1.now c.args.moves2.now c.in_default.is) at c.requires.3

pub put_deviation-requires : goal.put_deviation-requires
put_deviation-requires c =
    let text = text_found c.args.numbers.now c.args.sets c.args.base c.args.moves1.now c.args.moves2.now c.in-Some.is (ap as_player c.in-One.is) in
    (c.requires.0, c.requires.1, rw text at c.requires.3)

pub put_deviation-requires-in-Two : goal.put_deviation-requires-in-Two
put_deviation-requires-in-Two c =
    let text = text_found c.args.numbers.now c.args.sets c.args.base c.args.moves1.now c.args.moves2.now c.in-Some.is (ap as_player c.in-Two.is) in
    (c.requires.0, c.requires.2, rw text at c.requires.3)
