-- Text put into a buffer.
use Rattle.std.specs.Prelude.{ℕ, ◌+◌, ◌≤◌, ◌≡◌, List, length}
use Rattle.algebra.specs.Arrays.{placed}

-- the buffer is long enough for the text from `at` on
pub record TextFits (at : ℕ) (text out : List ℕ) : Type 0 where
  pub fits : at + length text ≤ length out

-- the text stands in the buffer from `at` on, the rest is as it was, and `next` is the place after it
pub record Put (at : ℕ) (text before after : List ℕ) (next : ℕ) : Type 0 where
  pub buffer : after ≡ placed at text before
  pub place : next ≡ at + length text
