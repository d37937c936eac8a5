-- Both players' odds and weights, and the answers of checks 19 to 21 as one.
use Prim.Native.Nat.{ℕ, ◌≤◌}
use mathlib.Core.Path.{◌≡◌, refl, sym}
use mathlib.Core.Bool.{Bool, true, false}
use mathlib.Core.List.{List, [], ◌∷◌}
use lib.ListN.{length}
use lib.Dec.{leb}
use borrow.Author.Tests.{le-leb, lt-leb}
use Rattle.std.specs.Prelude.{Result, Ok, Err, Option, Some, None}
use Rattle.std.specs.Option.{ok_or}
use Rattle.algebra.specs.Arrays.{Holds}
use Rattle.algebra.proofs.Fillings.{filled}
use Rattle.model.specs.Game.{Game, Player, one, two}
use Rattle.model.specs.Sequences.{sequence_count}
use Rattle.model.specs.Sheet.{Odds, smallest_d, smallest_in_limit}
use Rattle.model.specs.Rows.{Rows, row, refusal}
use Rattle.checks.specs.declared.Refusal.{Refusal}
use Rattle.checks.specs.declared.Refusal.TheVariants.{NoDenominator}
use Rattle.checks.specs.Answers.{refusal_number, checked_of, number_of}
use Rattle.checks.proofs.Chains.{Checked, is_fine, is_broken, Left, passes, stops, ends}
use Rattle.smallest.specs.Multiples.{smallest_weight, Weighed}
use Rattle.smallest.proofs.Capped.{capped_some, capped_none}
use Rattle.weighing.specs.Weighing.{BothWeighed}

-- One player's turn.
module _ {g : Game} {odds : Odds} {p : Player} {limit : ℕ} {d : Option ℕ} {x x' : List ℕ} (W : Weighed g odds p limit d x x') where
  -- his D is above the limit
  above : d ≡ None → leb (smallest_d g odds p) limit ≡ false
  above e = lt-leb _ _ (capped_none limit _ W.answer e)

  -- it is not: his weights stand in the array
  within : {k : ℕ} → d ≡ Some k → leb (smallest_d g odds p) limit ≡ true
  within e = le-leb _ _ (capped_some limit _ W.answer e).1

  weights_held : {k : ℕ} → d ≡ Some k → sequence_count g p ≤ length x → Holds (smallest_weight g odds p) (sequence_count g p) x'
  weights_held e room = filled x (rw e at W.weights) room

-- Both players' turns.
module _ {g : Game} {odds : Odds} {limit : ℕ} {d : Option ℕ} {x x' : List ℕ} (W : Weighed g odds one limit d x x') where
  -- player 1's D is above the limit
  pub first_above : {y : List ℕ} → d ≡ None → BothWeighed g odds limit (Err NoDenominator) x' y
  unfolding smallest_in_limit
  first_above e = record { answer = is_broken NoDenominator (rw (above W e)); weights = tt }

  module _ {k : ℕ} (some : d ≡ Some k) {d' : Option ℕ} {y y' : List ℕ} (U : Weighed g odds two limit d' y y') where
    -- it is not: player 2's is
    pub second_above : d' ≡ None → BothWeighed g odds limit (Err NoDenominator) x' y'
    unfolding smallest_in_limit
    second_above e = record { answer = is_broken NoDenominator (rw (within W some, above U e)); weights = tt }

    -- neither is
    pub both_within : {l : ℕ} → d' ≡ Some l → sequence_count g one ≤ length x → sequence_count g two ≤ length y → BothWeighed g odds limit (Ok tt) x' y'
    unfolding smallest_in_limit
    both_within e room1 room2 = record {
      answer = is_fine NoDenominator (rw (within W some, within U e));
      weights = record { first = weights_held W some room1; second = weights_held U e room2 };
    }

-- where a refusal is given in place of a number, there is none
pub none_found : (o : Option ℕ) (e : Refusal) {r : Result ℕ Refusal} {d : Refusal} → r ≡ ok_or o e → r ≡ Err d → (o ≡ None) × (d ≡ e)
none_found None e is f = (refl, cc)
none_found (Some k) e is f = absurd cc

-- and where a number is given, there is that one
pub some_found : (o : Option ℕ) (e : Refusal) {r : Result ℕ Refusal} {k : ℕ} → r ≡ ok_or o e → r ≡ Ok k → o ≡ Some k
some_found None e is f = absurd cc
some_found (Some l) e is f = cc

-- the answer of the last check is that of all
pub as_last : {A : Type 0} {whole : Rows A} {k : ℕ} {test : A → Bool} {P : A → Type 0} {a : A} (e : Refusal) {r : Checked} → Left whole (row k test P ∷ []) a → refusal_number e ≡ k → r ≡ checked_of e (test a) → number_of r ≡ refusal whole a
as_last {whole = whole} {test = test} {a = a} e {r} left named is = go r is
  where
    go : (s : Checked) → s ≡ checked_of e (test a) → number_of s ≡ refusal whole a
    go (Ok u) f = sym (ends (passes e left f refl))
    go (Err d) f = sym (stops e left named f refl).is
