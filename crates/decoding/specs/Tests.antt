-- The test of one node record.
use Rattle.std.specs.Prelude.{Bool, not, ◌&&◌, eqb}
use Rattle.records.specs.declared.game_file.NodeRecord.{NodeRecord}
use Rattle.records.specs.Records.{kind_number, kind_in, padding_in}

-- the test of check 6 for one record
unfoldable pub well_formed_of : NodeRecord → Bool
well_formed_of r = not (eqb (kind_number (kind_in r.payload)) 3) && eqb (padding_in r.payload) 0
