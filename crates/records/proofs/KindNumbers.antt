-- Kinds and the numbers that stand for them.
use Prim.Native.Nat.{ℕ, zero, suc, ◌<◌, ◌≤◌}
use mathlib.Core.Path.{◌≡◌, refl}
use native.Mathlib.Omega.{arith}
use Rattle.records.specs.declared.game_file.Kind.{Kind}
use Rattle.records.specs.Records.{kind_number, kind_of}

-- of the four numbers each stands for one kind
pub kind_number_of : (n : ℕ) → n < 4 → kind_number (kind_of n) ≡ n
unfolding kind_number kind_of
kind_number_of zero l = refl
kind_number_of (suc zero) l = refl
kind_number_of (suc (suc zero)) l = refl
kind_number_of (suc (suc (suc n))) l = omega arith

-- of a number what its kind says
pub leaf_number : (n : ℕ) → kind_of n ≡ Kind.Leaf → n ≡ 0
unfolding kind_of
leaf_number zero e = refl
leaf_number (suc zero) e = absurd (cc e)
leaf_number (suc (suc zero)) e = absurd (cc e)
leaf_number (suc (suc (suc n))) e = absurd (cc e)

pub decision_number : (n : ℕ) → kind_of n ≡ Kind.Decision → n ≡ 1
unfolding kind_of
decision_number zero e = absurd (cc e)
decision_number (suc zero) e = refl
decision_number (suc (suc zero)) e = absurd (cc e)
decision_number (suc (suc (suc n))) e = absurd (cc e)

pub chance_number : (n : ℕ) → kind_of n ≡ Kind.Chance → n ≡ 2
unfolding kind_of
chance_number zero e = absurd (cc e)
chance_number (suc zero) e = absurd (cc e)
chance_number (suc (suc zero)) e = refl
chance_number (suc (suc (suc n))) e = absurd (cc e)

pub unknown_number : (n : ℕ) → kind_of n ≡ Kind.Unknown → 3 ≤ n
unfolding kind_of
unknown_number zero e = absurd (cc e)
unknown_number (suc zero) e = absurd (cc e)
unknown_number (suc (suc zero)) e = absurd (cc e)
unknown_number (suc (suc (suc n))) e = omega arith

-- of a kind what its number says
pub leaf_kind : (k : Kind) → kind_number k ≡ 0 → k ≡ Kind.Leaf
unfolding kind_number
leaf_kind Kind.Leaf e = refl
leaf_kind Kind.Decision e = absurd (omega (arith, e))
leaf_kind Kind.Chance e = absurd (omega (arith, e))
leaf_kind Kind.Unknown e = absurd (omega (arith, e))

pub decision_kind : (k : Kind) → kind_number k ≡ 1 → k ≡ Kind.Decision
unfolding kind_number
decision_kind Kind.Leaf e = absurd (omega (arith, e))
decision_kind Kind.Decision e = refl
decision_kind Kind.Chance e = absurd (omega (arith, e))
decision_kind Kind.Unknown e = absurd (omega (arith, e))

pub chance_kind : (k : Kind) → kind_number k ≡ 2 → k ≡ Kind.Chance
unfolding kind_number
chance_kind Kind.Leaf e = absurd (omega (arith, e))
chance_kind Kind.Decision e = absurd (omega (arith, e))
chance_kind Kind.Chance e = refl
chance_kind Kind.Unknown e = absurd (omega (arith, e))

pub unknown_kind : (k : Kind) → kind_number k ≡ 3 → k ≡ Kind.Unknown
unfolding kind_number
unknown_kind Kind.Leaf e = absurd (omega (arith, e))
unknown_kind Kind.Decision e = absurd (omega (arith, e))
unknown_kind Kind.Chance e = absurd (omega (arith, e))
unknown_kind Kind.Unknown e = refl
