-- Each weight is `d` divided by the denominator, times the numerator.
use Prim.Native.Nat.{◌*◌, ◌/◌}
use Rattle.algebra.specs.Arrays.{item}
use Rattle.algebra.proofs.Fillings.{Filling}
use Rattle.smallest.proofs.scale.Given as goal

abbrev pub invariant-loop-k : goal.invariant-loop-k
invariant-loop-k l = Filling (λ i. l.d / item l.denominators i * item l.numerators i) l.count l.initial.x l.k l.x
