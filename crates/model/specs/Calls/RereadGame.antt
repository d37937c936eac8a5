-- Writes the fields of a game and reads them back: `reread_game`.
use Rattle.std.specs.Prelude.{◌++◌}
use Rattle.model.specs.Writing.{GameFields, game_bytes, set_count, node_count}
use Rattle.model.specs.Rows.{Rows, of}
use Rattle.model.specs.Checks.{game_rows}
use Rattle.model.specs.Call.{Buffers, Call, Outcome, run}
use Rattle.model.specs.Calls.CheckGame.{Counts}
use Rattle.model.specs.Calls.GameFields.{shape, lists}
use Rattle.model.specs.Calls.WriteGame as WriteGame

-- the counts that are given: those of the lists, and D0
abbrev pub counts_given : GameFields → Counts
counts_given t = record { nodes = node_count t; sets = set_count t; root_weight = t.root_weight }

-- the writer's 17, then 1 to 13 of the file that it writes
unfoldable pub rows : Rows GameFields
rows = WriteGame.rows ++ of game_bytes game_rows

-- "fields whose written file is accepted are read back as they were given": it gives the counts of what is given,
-- and the ten buffers take the very lists that are given.
unfoldable pub call : Call GameFields shape Counts
call = record { rows = rows; result = counts_given; written = lists }

-- the call as a function
abbrev pub reread_game_of : GameFields → Buffers shape → Outcome shape Counts
reread_game_of t buffers = run call t buffers
