-- Nodes by their kinds: the test that a node is given nothing that its kind lacks.
use Rattle.std.proofs.Common.{ℕ, zero, suc, ◌≤◌, Bool, false, ◌≡◌, refl, arith}
use Rattle.algebra.specs.Arrays.{item}
use Rattle.model.specs.Writing.{GameFields, kind_fits_of}

-- a kind past 2 does not fit
pub no_kind : (t : GameFields) (kind n : ℕ) → 3 ≤ kind → false ≡ kind_fits_of t kind n
unfolding kind_fits_of
no_kind t zero n l = absurd (omega (arith, l))
no_kind t (suc zero) n l = absurd (omega (arith, l))
no_kind t (suc (suc zero)) n l = absurd (omega (arith, l))
no_kind t (suc (suc (suc k))) n l = refl

-- the test of node n's kind
abbrev pub kind_fits_at : GameFields → ℕ → Bool
kind_fits_at t n = kind_fits_of t (item t.kinds n) n
