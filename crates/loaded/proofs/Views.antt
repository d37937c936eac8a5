-- A loaded game's sections as lists of their own.
use Prim.Native.Nat.{ℕ}
use mathlib.Core.Path.{◌≡◌, ◌∙◌, ap}
use mathlib.Core.List.{List}
use native.Mathlib.Omega.{arith}
use lib.IntN.{ℤ}
use lib.ListN.{length}
use Rattle.algebra.specs.Sections.{section, Held}
use Rattle.algebra.proofs.Sections.{section_long, section_at}
use Rattle.model.specs.Game.{Game, one, two}
use Rattle.loaded.specs.Sections.{leaf_section, chance_section, payoff_section}
use Rattle.loaded.specs.Leaves.{leaves_of, leaf_of, Column, Gathered}
use Rattle.loaded.specs.Counts.{counts_of}
use Rattle.loaded.specs.Loaded.{Loaded}
use Rattle.loaded.specs.declared.Counts.{Counts}

-- a section by leaf is a column
pub column_in : {g : Game} {A : Type 0} {from : ℕ} {f : ℕ → A} {l : List A} → Held from (λ k. f (leaf_of g k)) (length (leaves_of g)) l → Column g f (section from l)
column_in {from = from} {l = l} h = record { long = omega (arith, h.long, section_long from l); at = λ d k v. section_at from l k d ∙ h.at d k v }

-- how many leaves there are
pub leaves_counted : (g : Game) {c : Counts} → c ≡ counts_of g → c.leaves ≡ length (leaves_of g)
unfolding counts_of
leaves_counted g e = ap (λ (c : Counts). c.leaves) e

-- all leaves, as five lists
pub gathered_in : {g : Game} {c : Counts} {numbers : List ℕ} {payoffs : List ℤ} → Loaded g c numbers payoffs → Gathered g c.leaves (section (leaf_section one) numbers) (section (leaf_section two) numbers) (section chance_section numbers) (section (payoff_section one) payoffs) (section (payoff_section two) payoffs)
gathered_in L = record {
  counted = leaves_counted _ L.in_numbers.counts_are;
  first_is = column_in (L.in_numbers.leaves one);
  second_is = column_in (L.in_numbers.leaves two);
  chance_is = column_in L.in_numbers.chances;
  payoffs1_is = column_in (L.in_payoffs one);
  payoffs2_is = column_in (L.in_payoffs two);
}
