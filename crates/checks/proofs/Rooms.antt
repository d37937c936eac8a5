-- The lengths of lent buffers, and what one holds after a call that fills it.
use Prim.Native.Nat.{ℕ, ◌≤◌}
use mathlib.Core.Path.{◌≡◌, refl, sym, ap}
use mathlib.Core.Bool.{Bool, true, false, ◌&&◌, false≢true}
use mathlib.Core.List.{List, ◌++◌}
use lib.ListN.{drop}
use lib.Dec.{leb, leb→le}
use Rattle.algebra.specs.Bounded.{list_to}
use Rattle.algebra.specs.Arrays.{over}
use Rattle.algebra.proofs.Lists.{length_list_to}
use Rattle.model.specs.Call.{after_call}

-- a test of lengths that passes, and the others with it
pub split : (n r : ℕ) {b : Bool} → (leb n r && b) ≡ true → (n ≤ r) × (b ≡ true)
split n r {b} e = go (leb n r) refl e
  where
    go : (a : Bool) → leb n r ≡ a → (a && b) ≡ true → (n ≤ r) × (b ≡ true)
    go true f e = (leb→le n r (rw f tt), e)
    go false f e = absurd (false≢true e)

-- a field over the first entries of its buffer is the buffer after the call
pub over_after : {A : Type 0} (f : ℕ → A) (n : ℕ) (l : List A) → over f n l ≡ after_call 0 (list_to n f) l
unfolding over after_call
over_after f n l = ap (λ (k : ℕ). list_to n f ++ drop k l) (sym (length_list_to n f))
