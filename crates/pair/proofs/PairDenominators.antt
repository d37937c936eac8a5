-- The denominators of a pair that was read.
use mathlib.Core.Path.{◌≡◌}
use mathlib.Core.List.{List}
use Prim.Native.Nat.{ℕ}
use Rattle.model.specs.Game.{game_of, one, two}
use Rattle.model.specs.Plan.{plan_pair_of}
use Rattle.pair.specs.declared.PairHeader.{PairHeader}
use Rattle.records.specs.PlanRecords.{denominators_of}
use Rattle.pair.proofs.Pairs.{PairOpened}

-- its denominators are D1 and D2
pub d1_is : (game plan : List ℕ) (h : PairHeader) → PairOpened game plan h → h.denominators.d1 ≡ (plan_pair_of (game_of game) plan one).denominator
unfolding denominators_of plan_pair_of
d1_is game plan h o = rw o.denominators

pub d2_is : (game plan : List ℕ) (h : PairHeader) → PairOpened game plan h → h.denominators.d2 ≡ (plan_pair_of (game_of game) plan two).denominator
unfolding denominators_of plan_pair_of
d2_is game plan h o = rw o.denominators
