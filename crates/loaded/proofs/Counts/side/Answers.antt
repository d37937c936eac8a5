-- Each arm is one player's side.
use mathlib.Core.Path.{sym, ap}
use Rattle.loaded.specs.Counts.{side_of}
use Rattle.loaded.specs.Players.{as_player}
use Rattle.loaded.specs.declared.Player.{Player}
use Rattle.loaded.proofs.Counts.side.Goals as goal

pub returns-in-One : goal.returns-in-One
unfolding side_of
returns-in-One c = sym (ap (λ (p : Player). side_of c.args.self (as_player p)) c.in-One.is)

pub returns-in-Two : goal.returns-in-Two
unfolding side_of
returns-in-Two c = sym (ap (λ (p : Player). side_of c.args.self (as_player p)) c.in-Two.is)
