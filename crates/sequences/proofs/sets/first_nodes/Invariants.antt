-- The invariant: the section has the sets' first nodes from `n` on. With no node left, it has their first nodes.
use mathlib.Core.Path.{◌≡◌}
use Rattle.algebra.specs.Sections.{Held, Apart}
use Rattle.model.specs.Game.{Game}
use Rattle.loaded.specs.Sections.{first_node_section, start_section}
use Rattle.loaded.specs.Rooted.{Rooted}
use Rattle.loaded.specs.Loaded.{Decoded}
use Rattle.sequences.proofs.FirstNodes.{first_from}
use Rattle.sequences.proofs.sets.first_nodes.Given as goal

abbrev pub invariant-loop-n : goal.invariant-loop-n
invariant-loop-n l = record {
  apart : Apart first_node_section start_section l.initial.numbers l.numbers;
  held : (g : Game) → l.nodes ≡ g.nodes → l.sets ≡ g.sets → Decoded g l.initial.numbers → Rooted g → Held first_node_section (first_from g l.n) g.sets l.numbers;
}
