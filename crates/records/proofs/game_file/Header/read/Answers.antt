-- Four fields, cut from the header's 40 bits.
use Prim.Native.Nat.{ℕ, ◌+◌, ◌*◌}
use mathlib.Core.Path.{◌≡◌}
use mathlib.Core.List.{List}
use native.Mathlib.Nat as NatL
use Rattle.model.specs.Bits.{field}
use Rattle.model.specs.Game.{game_of, node_at, set_at}
use Rattle.bits.proofs.Cuts.{cut_field}
use Rattle.records.specs.Records.{header_of}
use Rattle.records.specs.declared.game_file.Header.{Header}
use Rattle.records.proofs.game_file.Header.read.Goals as goal

-- a header of four numbers that are the file's
header_is : (bytes : List ℕ) (edition nodes sets weight : ℕ) → edition ≡ field bytes 0 4 → nodes ≡ field bytes 4 12 → sets ≡ field bytes 16 12 → weight ≡ field bytes 28 12 → ◌≡◌ {A = Header} (record { edition = edition; nodes = nodes; sets = sets; root_weight = weight; records = 40 + 8 * sets }) (header_of bytes)
unfolding header_of game_of node_at set_at
header_is bytes edition nodes sets weight e n s w = rw (e, n, s, w, NatL.add-zero)

pub returns : goal.returns
returns c =
    let bytes = c.args.bytes.now in
    let word = c.read_field-word.ensures.0 in
    rw c.new.ensures (header_is bytes _ _ _ _
    (cut_field bytes 0 0 4 36 word c.cut-edition.ensures.0)
    (cut_field bytes 0 4 12 24 word c.cut-nodes.ensures.0)
    (cut_field bytes 0 16 12 12 word c.cut-sets.ensures.0)
    (cut_field bytes 0 28 12 0 word c.cut-root_weight.ensures.0))
