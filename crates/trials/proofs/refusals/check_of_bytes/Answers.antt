-- Each byte is taken in, from the first on.
use Rattle.std.proofs.Common.{◌≡◌, rules, sym, ◌∙◌}
use Rattle.std.specs.List.{fold}
use Rattle.trials.specs.Checks.{taken_in_of, checksum_of_bytes}
use Rattle.trials.proofs.Scans.{bytes_fold}
use Rattle.trials.proofs.refusals.check_of_bytes.Goals as goal

pub returns : goal.returns
unfolding checksum_of_bytes
returns c =
    let folded : c.fold.result ≡ fold taken_in_of 0 c.args.bytes.now = search rules in
    folded ∙ sym (bytes_fold 0 c.args.bytes.now)
