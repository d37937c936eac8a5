-- Each number is taken in after its sign, from the first on.
use Rattle.std.proofs.Common.{◌≡◌, ℕ, rules, sym, ◌∙◌}
use Rattle.std.specs.List.{fold}
use Rattle.trials.specs.Checks.{taken_in_of, checksum_of}
use Rattle.trials.proofs.Scans.{check_folds}
use Rattle.trials.proofs.refusals.check_of.Goals as goal

pub returns : goal.returns
unfolding checksum_of
returns c =
    let folded : c.fold.result ≡ fold (λ (k x : ℕ). taken_in_of (taken_in_of k 0) x) 0 c.args.numbers.now = search rules in
    folded ∙ sym (check_folds 0 c.args.numbers.now)
