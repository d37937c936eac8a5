-- Each number below the count is tested, as in the model.
use Rattle.std.proofs.Common.{rules, tests, arith, length, refl}
use mathlib.Core.Path.{◌∙◌}
use Rattle.std.proofs.lemmas.Iterator.{YieldsList-from_range}
use Rattle.std.proofs.lemmas.Iterator.Search.{all_from_yields_List}
use Rattle.model.specs.Writing.{node_count}
use Rattle.fitting.specs.GameLists.{fields_of_lists}
use Rattle.fitting.proofs.EachFits.{all_range}
use Rattle.fitting.proofs.NodeKinds.{kind_fits_at}
use Rattle.fitting.proofs.game_lists.GameLists.kinds_fit.Goals as goal

pub returns : goal.returns
unfolding node_count
returns c =
    let n = length c.args.self.now.kinds.now in
    all_from_yields_List (kind_fits_at (fields_of_lists c.args.self.now)) _ _ _ c.all.ensures.ran (YieldsList-from_range 0 n n refl (omega arith)) (λ x b q k. search (rules, tests)) ∙ all_range _ n
