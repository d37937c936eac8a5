-- The invariant: the leaves below node `n` stand in their sections.
use Rattle.model.specs.Game.{one}
use Rattle.loaded.specs.Sections.{leaf_section, head_section_of}
use Rattle.gather.specs.Gathered.{LeavesBelow}
use Rattle.gather.specs.Gathering.{Gathering}
use Rattle.gather.proofs.leaves.leaves.Given as goal

abbrev pub invariant-loop-n : goal.invariant-loop-n
invariant-loop-n l = Gathering (leaf_section one) (head_section_of one) LeavesBelow l.nodes l.n l.count l.initial.numbers l.numbers
