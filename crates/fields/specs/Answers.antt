-- What the call gives, in the model's terms.
use Rattle.model.specs.Calls.CheckGame.{Counts}
use Rattle.game.specs.declared.GameCounts.{GameCounts}

-- N, H and D0
abbrev pub fields_seen : GameCounts → Counts
fields_seen c = record { nodes = c.nodes; sets = c.sets; root_weight = c.root_weight }
