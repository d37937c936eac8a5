-- The length that the header asks for; no count passes 4,095.
use mathlib.Core.Path.{ap, ◌∙◌}
use native.Mathlib.Omega.{arith}
use Rattle.model.proofs.Budget.{game_limits}
use Rattle.checks.specs.Answers.{checked_of}
use Rattle.checks.specs.declared.Refusal.TheVariants.{WrongLength}
use Rattle.records.proofs.Widths.{few_sets}
use Rattle.records.proofs.Headers.{header_nodes, header_sets}
use Rattle.game.proofs.Headers.{length_right}
use Rattle.game.proofs.header_checks.has_length.Goals as goal

pub file_bytes-requires : goal.file_bytes-requires
file_bytes-requires c =
    let bytes = c.args.bytes.now in
    let header = c.read-header.ensures in
    (omega (arith, header_nodes _ _ header, (game_limits bytes).nodes), omega (arith, header_sets _ _ header, few_sets bytes))

pub returns : goal.returns
returns c = c.check.ensures ∙ rw c.file_bytes.ensures (ap (checked_of WrongLength) (length_right _ _ c.read-header.ensures))
