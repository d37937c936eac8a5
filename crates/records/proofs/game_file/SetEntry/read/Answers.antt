-- Two fields, cut from the entry's eight bits.
use Prim.Native.Nat.{◌+◌, ◌*◌}
use Rattle.model.specs.Game.{game_of, set_at}
use Rattle.bits.proofs.Cuts.{cut_first, cut_field}
use Rattle.records.proofs.game_file.SetEntry.read.Goals as goal

pub returns : goal.returns
unfolding game_of set_at
returns c =
    let a = c.args in
    let bytes = a.bytes.now in
    let at = 40 + 8 * a.h in
    let word = c.read_field-word.ensures.0 in
    let player = c.cut-player.ensures in
    let moves = c.cut-moves.ensures in
    record {
      player = cut_first bytes at 1 7 word player.0;
      moves = cut_field bytes at 1 7 0 word moves.0;
      player_fits = player.1;
      moves_fit = moves.1;
    }
