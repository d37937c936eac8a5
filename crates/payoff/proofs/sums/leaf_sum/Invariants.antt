-- The invariant: `sum` is the sum over the sorted leaves from `start` to before `i`.
use Prim.Native.Nat.{◌-◌, ◌≤◌}
use mathlib.Core.Path.{◌≡◌}
use Rattle.algebra.specs.Sections.{section}
use Rattle.loaded.specs.Sections.{chance_section}
use Rattle.payoff.specs.Table.{leaf_sum_of}
use Rattle.payoff.proofs.sums.leaf_sum.Given as goal

abbrev pub invariant-loop-i : goal.invariant-loop-i
invariant-loop-i l = (l.i - l.start ≤ l.end - l.start) × (l.sum ≡ leaf_sum_of l.sorted (section chance_section l.numbers) (section l.from l.payoffs) l.start (l.i - l.start))
