-- Numbers as sets of binary digits, the least significant first.
use Prim.Native.Nat.{ℕ, zero, suc, ◌+◌, ◌-◌, ◌*◌, ◌/◌, ◌%◌, ◌^◌, ◌≤◌, ◌<◌}
use mathlib.Core.Path.{◌≡◌, refl, sym, ap, ◌∙◌, subst}
use mathlib.Core.Logic.{⊎_elim}
use mathlib.Core.Bool.{Bool, true, false, ◌||◌}
use native.Mathlib.Omega.{arith}
use native.Mathlib.Nat as NatL
use native.Mathlib.Decide.{ℕ_discrete}
use lib.Dec.{T, ltb, ltb→lt, lt→ltb, eqb, eqb→eq}
use lib.Pow.{pow_pos, pow-add}
use mir.Facts.{or_yes}
use borrow.Author.Tests.{le-ltb}
use Rattle.algebra.specs.Bounded.{total_to}
use Rattle.algebra.proofs.Tests.{bool_same, false→not, or_left, or_right, eqb_make}
use Rattle.algebra.proofs.Totals.{only, only_most, count_cong, count_zero, count_plus, count_pick}
use Rattle.tree.specs.Children.{mask}

-- equal tests
pub mask_cong : (w : ℕ) (f h : ℕ → Bool) → ((m : ℕ) → m < w → f m ≡ h m) → mask w f ≡ mask w h
unfolding mask
mask_cong w f h e = count_cong w (λ m. only (f m) (2 ^ m)) (λ m. only (h m) (2 ^ m)) (λ m l. rw (e m l))

-- no number passes
pub mask_none : (w : ℕ) (f : ℕ → Bool) → ((m : ℕ) → f m ≡ false) → mask w f ≡ 0
unfolding mask
mask_none w f e = count_zero w (λ m. only (f m) (2 ^ m)) (λ m l. rw (e m))

-- a mask fits its width
pub mask_fits : (w : ℕ) (f : ℕ → Bool) → mask w f < 2 ^ w
unfolding mask total_to
mask_fits zero f = omega arith
mask_fits (suc w) f = omega (arith, mask_fits w f, only_most (f w) (2 ^ w))

-- one digit more
pub mask_more : (w : ℕ) (f : ℕ → Bool) (m : ℕ) → m < w → f m ≡ false → mask w f + 2 ^ m ≡ mask w (λ k. f k || eqb m k)
unfolding mask
mask_more w f m l e =
    ap (λ (x : ℕ). total_to w (λ k. only (f k) (2 ^ k)) + x) (sym (count_pick w m (λ k. 2 ^ k) l))
    ∙ count_plus w (λ k. only (f k) (2 ^ k)) (λ k. only (eqb m k) (2 ^ k))
    ∙ count_cong w _ (λ k. only (f k || eqb m k) (2 ^ k)) (λ k v. apart (f k) (eqb m k) (2 ^ k) (λ t. subst (λ (j : ℕ). ¬ T (f j)) (eqb→eq m k t) (false→not (f m) e)))
  where
    -- tests that do not pass together
    apart : (a b : Bool) (x : ℕ) → (T b → ¬ T a) → only a x + only b x ≡ only (a || b) x
    apart true true x d = absurd (d tt tt)
    apart true false x d = omega arith
    apart false true x d = omega arith
    apart false false x d = refl

-- the lowest k digits
pub mask_ones : (w k : ℕ) → k ≤ w → mask w (λ m. ltb m k) ≡ 2 ^ k - 1
mask_ones w zero l = mask_none w (λ m. ltb m 0) (λ m. le-ltb m 0 (omega arith))
mask_ones w (suc k) l =
    mask_cong w (λ m. ltb m (suc k)) (λ m. ltb m k || eqb k m) (λ m v. last m)
    ∙ sym (mask_more w (λ m. ltb m k) k l (le-ltb k k (omega arith)))
    ∙ omega (arith, mask_ones w k (omega arith), pow_pos k)
  where
    -- k or below it
    last : (m : ℕ) → ltb m (suc k) ≡ (ltb m k || eqb k m)
    last m =
        bool_same (ltb m (suc k)) (ltb m k || eqb k m)
        (λ t. elim (ℕ_discrete k m) [
          | yes e ↦ or_right (ltb m k) (eqb k m) (eqb_make k m e)
          | no e ↦ or_left (ltb m k) (eqb k m) (lt→ltb m k (omega (arith, ltb→lt m (suc k) t)))
        ])
        (λ t. lt→ltb m (suc k) (⊎_elim (λ a. omega (arith, ltb→lt m k a)) (λ b. omega (arith, eqb→eq k m b)) (or_yes (ltb m k) (eqb k m) t)))

-- digit m
pub mask_digit : (w : ℕ) (f : ℕ → Bool) (m : ℕ) → m < w → mask w f / 2 ^ m % 2 ≡ only (f m) 1
unfolding mask total_to
mask_digit zero f m l = absurd (omega arith)
mask_digit (suc w) f m l =
    elim (ℕ_discrete m w) [
      | yes e ↦ subst (λ (k : ℕ). (mask w f + only (f w) (2 ^ w)) / 2 ^ k % 2 ≡ only (f k) 1) (sym e) (top (f w))
      | no e ↦ below (omega arith) (f w) ∙ mask_digit w f m (omega arith)
    ]
  where
    -- the highest digit
    top : (b : Bool) → (mask w f + only b (2 ^ w)) / 2 ^ w % 2 ≡ only b 1
    top true = rw (NatL.add-div_right (mask w f) (pow_pos w), NatL.div-eq_of_lt (mask_fits w f))
    top false = rw (NatL.add-zero, NatL.div-eq_of_lt (mask_fits w f))

    -- a lower one
    below : m < w → (b : Bool) → (mask w f + only b (2 ^ w)) / 2 ^ m % 2 ≡ mask w f / 2 ^ m % 2
    below v true =
        let place : w ≡ suc (w - suc m) + m = omega arith in
        let raised : 2 ^ w ≡ 2 ^ suc (w - suc m) * 2 ^ m = ap (λ (k : ℕ). 2 ^ k) place ∙ pow-add 2 (suc (w - suc m)) m in
        rw (raised, NatL.add-mul-div_right (mask w f) (2 ^ suc (w - suc m)) (pow_pos m)) (omega arith)
    below v false = rw NatL.add-zero

-- equal masks are of equal tests
pub mask_inj : (w : ℕ) (f h : ℕ → Bool) → mask w f ≡ mask w h → (m : ℕ) → m < w → f m ≡ h m
mask_inj w f h e m l = same (f m) (h m) (sym (mask_digit w f m l) ∙ ap (λ (x : ℕ). x / 2 ^ m % 2) e ∙ mask_digit w h m l)
  where
    same : (a b : Bool) → only a 1 ≡ only b 1 → a ≡ b
    same true true q = refl
    same true false q = absurd (omega arith)
    same false true q = absurd (omega arith)
    same false false q = refl
