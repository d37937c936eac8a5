-- What the calls give, as the model has it.
use Rattle.std.specs.Prelude.{ℕ, Option, Some, None}
use Rattle.model.specs.Game.{player_number}
use Rattle.model.specs.Calls.Values as Model
use Rattle.model.specs.Calls.Verdict.{Stated, accepted, deviates}
use Rattle.loaded.specs.Players.{as_player}
use Rattle.verdict.specs.declared.PairValues.{PairValues}
use Rattle.verdict.specs.declared.Shown.{Shown}
use Rattle.verdict.specs.declared.PairVerdict.{PairVerdict}

-- values, best values, D0, D1 and D2
abbrev pub values_seen : PairValues → Model.PairValues
values_seen v = Model.pair_values v.value1 v.value2 v.best1 v.best2 v.root_weight v.d1 v.d2

-- what is stated: that the pair is accepted, or the deviation
abbrev pub stated_over : (base : ℕ) → Option Shown → Stated
stated_over base None = accepted base
stated_over base (Some x) = deviates (player_number (as_player x.player)) x.gain base x.sets

abbrev pub verdict_seen : PairVerdict → Stated
verdict_seen v = stated_over v.base v.deviation
