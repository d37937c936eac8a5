-- A buffer tested by itself.
use mathlib.Core.Path.{◌≡◌, refl}
use mathlib.Core.Bool.{Bool, true, false, ◌&&◌}

-- no other buffers after it
pub alone : (x : Bool) → (x && true) ≡ x
alone true = refl
alone false = refl
