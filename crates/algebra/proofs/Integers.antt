-- The order and the ring laws of ℤ. An integer z is up z - down z, so omega proves them in ℕ.
use Prim.Native.Nat.{ℕ, zero, suc, ◌+◌, ◌*◌, ◌-◌, ◌≤◌, ◌<◌}
use mathlib.Core.Path.{◌≡◌, refl, sym, ap, subst}
use mathlib.Core.Bool.{Bool, true, false, not, cond}
use native.Mathlib.Omega.{arith}
use native.Mathlib.Nat as NatL
use lib.Dec.{T, ltb, leb→le, le→leb, ltb→lt, lt→ltb, nltb→le}
use lib.IntN.{ℤ, pos, negsuc, neg_ℤ, sub_ℕ, ◌+ℤ◌, ◌-ℤ◌, ◌*ℤ◌}
use lib.Signed.{◌≤ℤ◌, ◌<ℤ◌, le_z_yes, lt_z_yes}

-- the positive part
abbrev pub up : ℤ → ℕ
up (pos n) = n
up (negsuc n) = 0

-- the negative part
abbrev pub down : ℤ → ℕ
down (pos n) = 0
down (negsuc n) = suc n

-- an order of integers, in ℕ
pub le_to : (x y : ℤ) → x ≤ℤ y → up x + down y ≤ up y + down x
le_to (pos a) (pos b) h = omega (arith, leb→le a b h.le)
le_to (pos a) (negsuc b) h = absurd h.le
le_to (negsuc a) (pos b) h = omega arith
le_to (negsuc a) (negsuc b) h = omega (arith, leb→le b a h.le)

-- an order of integers, from ℕ
pub to_le : (x y : ℤ) → up x + down y ≤ up y + down x → x ≤ℤ y
to_le (pos a) (pos b) h = le_z_yes (le→leb a b (omega arith))
to_le (pos a) (negsuc b) h = absurd (omega arith)
to_le (negsuc a) (pos b) h = le_z_yes tt
to_le (negsuc a) (negsuc b) h = le_z_yes (le→leb b a (omega arith))

-- a strict order of integers, in ℕ
pub lt_to : (x y : ℤ) → x <ℤ y → up x + down y < up y + down x
lt_to (pos a) (pos b) h = omega (arith, ltb→lt a b h.lt)
lt_to (pos a) (negsuc b) h = absurd h.lt
lt_to (negsuc a) (pos b) h = omega arith
lt_to (negsuc a) (negsuc b) h = omega (arith, ltb→lt b a h.lt)

-- a strict order of integers, from ℕ
pub to_lt : (x y : ℤ) → up x + down y < up y + down x → x <ℤ y
to_lt (pos a) (pos b) h = lt_z_yes (lt→ltb a b (omega arith))
to_lt (pos a) (negsuc b) h = absurd (omega arith)
to_lt (negsuc a) (pos b) h = lt_z_yes tt
to_lt (negsuc a) (negsuc b) h = lt_z_yes (lt→ltb b a (omega arith))

-- an equation of integers, from ℕ
pub to_eq : (x y : ℤ) → up x + down y ≡ up y + down x → x ≡ y
to_eq (pos a) (pos b) h = ap pos (omega arith)
to_eq (pos a) (negsuc b) h = absurd (omega arith)
to_eq (negsuc a) (pos b) h = absurd (omega arith)
to_eq (negsuc a) (negsuc b) h = ap negsuc (omega arith)

-- the parts of a difference of two numbers
parts : (a b : ℕ) → up (sub_ℕ a b) + b ≡ a + down (sub_ℕ a b)
parts a b = go (ltb a b) refl
  where
    go : (t : Bool) → ltb a b ≡ t → up (cond t (negsuc (b - suc a)) (pos (a - b))) + b ≡ a + down (cond t (negsuc (b - suc a)) (pos (a - b)))
    go true e = omega (arith, ltb→lt a b (subst T (sym e) tt))
    go false e = omega (arith, nltb→le a b (subst (λ (t : Bool). T (not t)) (sym e) tt))

-- the parts of a sum
pub add_is : (x y : ℤ) → up (x +ℤ y) + (down x + down y) ≡ up x + up y + down (x +ℤ y)
add_is (pos a) (pos b) = omega arith
add_is (pos a) (negsuc b) = omega (arith, parts a (suc b))
add_is (negsuc a) (pos b) = omega (arith, parts b (suc a))
add_is (negsuc a) (negsuc b) = omega arith

-- the parts of a negation
pub neg_is : (z : ℤ) → (up (neg_ℤ z) ≡ down z) × (down (neg_ℤ z) ≡ up z)
neg_is (pos zero) = (refl, refl)
neg_is (pos (suc n)) = (refl, refl)
neg_is (negsuc n) = (refl, refl)

-- the parts of a difference
pub sub_is : (x y : ℤ) → up (x -ℤ y) + (down x + up y) ≡ up x + down y + down (x -ℤ y)
sub_is x y = let n = neg_is y in omega (arith, add_is x (neg_ℤ y), n.0, n.1)

-- the parts of a product
mul_is : (x y : ℤ) → up (x *ℤ y) + (up x * down y + down x * up y) ≡ up x * up y + down x * down y + down (x *ℤ y)
mul_is (pos a) (pos b) = omega arith
mul_is (pos a) (negsuc b) = let n = neg_is (pos (a * suc b)) in omega (arith, n.0, n.1)
mul_is (negsuc a) (pos b) = let n = neg_is (pos (suc a * b)) in omega (arith, n.0, n.1)
mul_is (negsuc a) (negsuc b) = omega arith

-- the positive part of a multiple
pub up_scale : (w : ℕ) (z : ℤ) → up (pos w *ℤ z) ≡ w * up z
up_scale w (pos a) = refl
up_scale w (negsuc b) = let n = neg_is (pos (w * suc b)) in omega (arith, n.0)

-- the negative part of a multiple
pub down_scale : (w : ℕ) (z : ℤ) → down (pos w *ℤ z) ≡ w * down z
down_scale w (pos a) = omega arith
down_scale w (negsuc b) = (neg_is (pos (w * suc b))).1

-- at most and at most: at most
pub ≤ℤ-trans : {x y z : ℤ} → x ≤ℤ y → y ≤ℤ z → x ≤ℤ z
≤ℤ-trans {x} {y} {z} h k = to_le x z (omega (arith, le_to x y h, le_to y z k))

-- each at most the other: equal
pub ≤ℤ-antisym : (x y : ℤ) → x ≤ℤ y → y ≤ℤ x → x ≡ y
≤ℤ-antisym x y h k = to_eq x y (omega (arith, le_to x y h, le_to y x k))

-- below: at most
pub <ℤ→≤ℤ : {a b : ℤ} → a <ℤ b → a ≤ℤ b
<ℤ→≤ℤ {a} {b} h = to_le a b (omega (arith, lt_to a b h))

-- orders are added
pub +ℤ-mono : {x y u v : ℤ} → x ≤ℤ y → u ≤ℤ v → (x +ℤ u) ≤ℤ (y +ℤ v)
+ℤ-mono {x} {y} {u} {v} h k = to_le (x +ℤ u) (y +ℤ v) (omega (arith, le_to x y h, le_to u v k, add_is x u, add_is y v))

-- a difference from something larger is not below 0
pub nonneg_sub : (x y : ℤ) → x ≤ℤ y → pos 0 ≤ℤ (y -ℤ x)
nonneg_sub x y h = to_le (pos 0) (y -ℤ x) (omega (arith, le_to x y h, sub_is y x))

-- the inner two of four summands change places
pub exchange : (a b c d : ℤ) → a +ℤ b +ℤ (c +ℤ d) ≡ a +ℤ c +ℤ (b +ℤ d)
exchange a b c d =
    to_eq (a +ℤ b +ℤ (c +ℤ d)) (a +ℤ c +ℤ (b +ℤ d))
    (omega (arith, add_is (a +ℤ b) (c +ℤ d), add_is a b, add_is c d, add_is (a +ℤ c) (b +ℤ d), add_is a c, add_is b d))

-- factors regrouped
pub *ℤ-assoc : (a b c : ℤ) → (a *ℤ b) *ℤ c ≡ a *ℤ (b *ℤ c)
*ℤ-assoc a b c =
    let e = mul_is a b in
    let f = mul_is b c in
    to_eq ((a *ℤ b) *ℤ c) (a *ℤ (b *ℤ c))
    (omega (arith, mul_is (a *ℤ b) c, mul_is a (b *ℤ c), ap (λ (k : ℕ). k * up c) e, ap (λ (k : ℕ). k * down c) e, ap (λ (k : ℕ). up a * k) f, ap (λ (k : ℕ). down a * k) f))

-- a factor goes into a sum
pub mul_add : (a b c : ℤ) → a *ℤ (b +ℤ c) ≡ a *ℤ b +ℤ a *ℤ c
mul_add a b c =
    let e = add_is b c in
    to_eq (a *ℤ (b +ℤ c)) (a *ℤ b +ℤ a *ℤ c)
    (omega (arith, mul_is a (b +ℤ c), mul_is a b, mul_is a c, add_is (a *ℤ b) (a *ℤ c), ap (λ (k : ℕ). up a * k) e, ap (λ (k : ℕ). down a * k) e))

-- a multiple of a sum
pub scale_add : (w : ℕ) (x y : ℤ) → pos w *ℤ (x +ℤ y) ≡ pos w *ℤ x +ℤ pos w *ℤ y
scale_add w x y = mul_add (pos w) x y

-- a multiple of a difference
pub scale_sub : (w : ℕ) (x y : ℤ) → pos w *ℤ (x -ℤ y) ≡ pos w *ℤ x -ℤ pos w *ℤ y
scale_sub w x y =
    to_eq (pos w *ℤ (x -ℤ y)) (pos w *ℤ x -ℤ pos w *ℤ y)
    (omega (arith, up_scale w (x -ℤ y), down_scale w (x -ℤ y), up_scale w x, down_scale w x, up_scale w y, down_scale w y, sub_is (pos w *ℤ x) (pos w *ℤ y), ap (λ (k : ℕ). w * k) (sub_is x y)))

-- multiples keep the order
pub scale_mono : (w : ℕ) {x y : ℤ} → x ≤ℤ y → (pos w *ℤ x) ≤ℤ (pos w *ℤ y)
scale_mono w {x} {y} h =
    to_le (pos w *ℤ x) (pos w *ℤ y)
    (omega (arith, up_scale w x, down_scale w x, up_scale w y, down_scale w y, NatL.mul-le-mul_left w (le_to x y h)))

-- a multiple of a multiple
pub scale_scale : (v w : ℕ) (x : ℤ) → pos v *ℤ (pos w *ℤ x) ≡ pos (v * w) *ℤ x
scale_scale v w x = sym (*ℤ-assoc (pos v) (pos w) x)

-- a sum of two weights
pub scale_plus : (v w : ℕ) (x : ℤ) → pos (v + w) *ℤ x ≡ pos v *ℤ x +ℤ pos w *ℤ x
scale_plus v w x =
    to_eq (pos (v + w) *ℤ x) (pos v *ℤ x +ℤ pos w *ℤ x)
    (omega (arith, up_scale (v + w) x, down_scale (v + w) x, up_scale v x, down_scale v x, up_scale w x, down_scale w x, add_is (pos v *ℤ x) (pos w *ℤ x)))

-- the weight 1
pub scale_one : (x : ℤ) → pos 1 *ℤ x ≡ x
scale_one x = to_eq (pos 1 *ℤ x) x (omega (arith, up_scale 1 x, down_scale 1 x))

-- a weight above 0 is taken away
pub scale_cancel : (w : ℕ) (x y : ℤ) → 0 < w → (pos w *ℤ x) ≤ℤ (pos w *ℤ y) → x ≤ℤ y
scale_cancel w x y p h =
    to_le x y
    (NatL.le_of_mul-le-mul_left {k = w} (omega (arith, le_to (pos w *ℤ x) (pos w *ℤ y) h, up_scale w x, down_scale w x, up_scale w y, down_scale w y)) p)
