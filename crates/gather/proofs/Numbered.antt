-- A change of the last sections leaves the others as they were.
use Prim.Native.Nat.{ℕ, ◌≤◌}
use mathlib.Core.List.{List}
use native.Mathlib.Omega.{arith}
use Rattle.algebra.specs.Sections.{Apart}
use Rattle.algebra.proofs.Sections.{held_before}
use Rattle.model.specs.Game.{Game}
use Rattle.loaded.specs.Sections.{order_section}
use Rattle.loaded.proofs.Decoded.{decoded_apart, own_apart}
use Rattle.gather.specs.Numbered.{Numbered}

pub numbered_apart : {g : Game} {low high : ℕ} {l k : List ℕ} → Numbered g l → Apart low high l k → order_section ≤ low → Numbered g k
numbered_apart N a b = record {
  rules = N.rules;
  decoded = decoded_apart N.decoded a (omega arith);
  first_nodes = held_before N.first_nodes a (omega (arith, N.decoded.few_sets));
  own = own_apart _ N.own a (omega arith) N.decoded.few_nodes;
  leads = held_before N.leads a (omega (arith, N.decoded.few_sets));
}
