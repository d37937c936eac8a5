-- The invariant: the sets that begin below node `n` stand in order.
use Rattle.model.specs.Game.{one}
use Rattle.loaded.specs.Sections.{order_section, leaf_section}
use Rattle.gather.specs.Gathered.{OrderBelow}
use Rattle.gather.specs.Gathering.{Gathering}
use Rattle.gather.proofs.order.order.Given as goal

abbrev pub invariant-loop-n : goal.invariant-loop-n
invariant-loop-n l = Gathering order_section (leaf_section one) OrderBelow l.nodes l.n l.count l.initial.numbers l.numbers
