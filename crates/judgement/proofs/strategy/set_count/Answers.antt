-- What is counted is the player's sets.
use mathlib.Core.Path.{ap, ◌∙◌}
use native.Mathlib.Omega.{arith}
use lib.ListN.{length}
use Rattle.std.proofs.Common.{rules, tests}
use Rattle.std.proofs.lemmas.Iterator.{YieldsList-from_range}
use Rattle.std.proofs.lemmas.Iterator.Consumers.{count_from_yields_List, YieldsList-from_filter}
use Rattle.loaded.specs.Players.{as_player}
use Rattle.loaded.proofs.Owners.{same_read}
use Rattle.judgement.specs.Strategy.{is_own}
use Rattle.judgement.proofs.OwnSets.{sets_kept}
use Rattle.judgement.proofs.strategy.set_count.Goals as goal

pub returns : goal.returns
returns c g e held =
    count_from_yields_List _ _ c.count.ensures.ran (YieldsList-from_filter _ (is_own c.args.numbers.now (as_player c.args.player)) (YieldsList-from_range 0 _ c.args.sets c.filter.ensures.source (omega arith)) c.filter.ensures.closure (λ x b q k. (search (rules, tests), search (rules, tests, same_read)))) ∙ ap length (sets_kept g held _ e)
